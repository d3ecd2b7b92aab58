-- A list's elements by number, whatever would stand past its end; what each of them has; lists and questions by number: a turn of a loop over them.
-- Assumes nothing.
use mathlib.Core.Path.{◌≡◌, refl, sym, ◌∙◌, ap, ap₂}
use mathlib.Core.Bool.{Bool, true, false, cond, ◌||◌, false≢true}
use mathlib.Core.List.{List, [], ◌∷◌, ◌++◌, map, map-append}
use mathlib.Core.Logic.{◌⊎◌, inl, inr}
use Prim.Native.Nat.{ℕ, zero, suc, ◌+◌, ◌-◌, ◌<◌, min}
use native.Mathlib.Nat.{not-suc-le-zero, le_of_suc-le-suc, eq-or-lt_of_le, zero-min, suc-min-suc}
use native.Mathlib.Numerals.{add-one}
use native.Mathlib.Omega.{arith}
use lib.ListN.{length, get_or, set, take, drop, replicate, length-drop, length-append, get_or-append}
use lib.Seq.{set_at, append_snoc, get_or_at, take-nil, drop-nil, take_all}
use Rattle.wire.specs.Lists.{list_of, some_below, some_of, Each}

-- within the list it doesn't matter what would stand past its end
pub get_d_any : {A : Type 0} (l : List A) (k : ℕ) (d e : A) → k < length l → get_or l k d ≡ get_or l k e
get_d_any [] k d e h = absurd (not-suc-le-zero h)
get_d_any (x ∷ l) zero d e h = refl
get_d_any (x ∷ l) (suc k) d e h = get_d_any l k d e (le_of_suc-le-suc h)

-- as much of a list as it has
pub take-least : {A : Type 0} (n : ℕ) (l : List A) → take (min n (length l)) l ≡ take n l
take-least zero l = rw zero-min refl
take-least (suc n) [] = take-nil (min (suc n) 0)
take-least {A} (suc n) (x ∷ l) = rw suc-min-suc (ap (λ (t : List A). x ∷ t) (take-least n l))

-- what stands from a place on, cut at the end
pub behind-is : (at : ℕ) (l : List ℕ) {k : ℕ} → k ≡ min at (length l) → take (length l - k) (drop k l) ≡ drop at l
behind-is at l {k} e =
    let n = length-drop k l in
    take_all (length l - k) (drop k l) (omega arith) ∙ ap (λ (i : ℕ). drop i l) e ∙ drop-least at l
  where
    drop-least : (n : ℕ) (l : List ℕ) → drop (min n (length l)) l ≡ drop n l
    drop-least zero l = rw zero-min refl
    drop-least (suc n) [] = drop-nil (min (suc n) 0)
    drop-least (suc n) (x ∷ l) = rw suc-min-suc (drop-least n l)

or_left : (a b : Bool) → a ≡ true → a || b ≡ true
or_left true b e = refl
or_left false b e = absurd (false≢true e)

or_right : (a b : Bool) → b ≡ true → a || b ≡ true
or_right true b e = refl
or_right false b e = e

-- the same condition, and on each side of it the same
pub cond_same : {A : Type 0} (b : Bool) {x y x' y' : A} → (b ≡ true → x ≡ x') → (b ≡ false → y ≡ y') → cond b x y ≡ cond b x' y'
cond_same true f g = f refl
cond_same false f g = g refl

-- neither of two holds
pub or-none : (a b : Bool) → a || b ≡ false → (a ≡ false) × (b ≡ false)
or-none true b e = absurd (false≢true (sym e))
or-none false b e = (refl, e)

-- it holds of one
pub some-hit : (f : ℕ → Bool) (k n : ℕ) → k < n → f k ≡ true → some_below f n ≡ true
unfolding some_below
some-hit f k zero h e = absurd (not-suc-le-zero h)
some-hit f k (suc n) h e = go (eq-or-lt_of_le (le_of_suc-le-suc h)) (λ s. some-hit f k n s e)
  where
    go : (k ≡ n) ⊎ (k < n) → (k < n → some_below f n ≡ true) → some_below f n || f n ≡ true
    go (inl s) below = or_right (some_below f n) (f n) (ap f (sym s) ∙ e)
    go (inr s) below = or_left (some_below f n) (f n) (below s)

-- it holds of none, so not of one
pub none_below : (f : ℕ → Bool) (n : ℕ) → some_below f n ≡ false → (k : ℕ) → k < n → f k ≡ false
none_below f n e k h = go (f k) refl
  where
    go : (b : Bool) → f k ≡ b → f k ≡ false
    go true t = absurd (false≢true (sym e ∙ some-hit f k n h t))
    go false t = t

-- it holds of none so far, and not of the next
pub some-miss : (f : ℕ → Bool) (k : ℕ) → some_below f k ≡ false → f k ≡ false → some_below f (k + 1) ≡ false
unfolding some_below
some-miss f k a b = rw (add-one, a, b)

-- it holds of none
pub some-none : (f : ℕ → Bool) (n : ℕ) → ((k : ℕ) → k < n → f k ≡ false) → some_below f n ≡ false
unfolding some_below
some-none f zero h = refl
some-none f (suc n) h = λ i. some-none f n (λ k s. h k (omega arith)) i || h n (omega arith) i

pub some_same : (f g : ℕ → Bool) (n : ℕ) → ((k : ℕ) → k < n → f k ≡ g k) → some_below f n ≡ some_below g n
unfolding some_below
some_same f g zero h = refl
some_same f g (suc n) h = λ i. some_same f g n (λ k s. h k (omega arith)) i || h n (omega arith) i

-- of the first k of a list and the next
pub or-false : (b : Bool) → b || false ≡ b
or-false true = refl
or-false false = refl

pub some_next : {A : Type 0} (f : A → Bool) (l : List A) (k : ℕ) (d : A) → k < length l → some_of f (take (k + 1) l) ≡ some_of f (take k l) || f (get_or l k d)
some_next {A} f l k d h = ap (λ (n : ℕ). some_of f (take n l)) (add-one k) ∙ go l k h
  where
    assoc : (a b c : Bool) → a || (b || c) ≡ (a || b) || c
    assoc true b c = refl
    assoc false b c = refl

    go : (l : List A) (k : ℕ) → k < length l → some_of f (take (suc k) l) ≡ some_of f (take k l) || f (get_or l k d)
    go [] k h = absurd (not-suc-le-zero h)
    go (x ∷ l) zero h = or-false (f x)
    go (x ∷ l) (suc k) h = ap (λ (b : Bool). f x || b) (go l k (le_of_suc-le-suc h)) ∙ assoc (f x) (some_of f (take k l)) (f (get_or l k d))

-- of the first n of a list: it holds of one; it holds of none of the first k, and not of the next
pub some_first : {A : Type 0} (f : A → Bool) (l : List A) (n k : ℕ) (d : A) → k < n → k < length l → f (get_or l k d) ≡ true → some_of f (take n l) ≡ true
some_first f [] n k d h g e = absurd (not-suc-le-zero g)
some_first f (x ∷ l) zero k d h g e = absurd (not-suc-le-zero h)
some_first f (x ∷ l) (suc n) zero d h g e = or_left (f x) (some_of f (take n l)) e
some_first f (x ∷ l) (suc n) (suc k) d h g e =
    or_right (f x) (some_of f (take n l)) (some_first f l n k d (le_of_suc-le-suc h) (le_of_suc-le-suc g) e)

pub none_first : {A : Type 0} (f : A → Bool) (l : List A) (k : ℕ) (d : A) → k < length l → some_of f (take k l) ≡ false → f (get_or l k d) ≡ false → some_of f (take (k + 1) l) ≡ false
none_first f l k d g n e = some_next f l k d g ∙ (λ i. n i || e i)

-- it holds of none, so not of the one with a number, nor of what would stand past the end
pub at_none : {A : Type 0} (f : A → Bool) (l : List A) (z : A) → f z ≡ false → some_of f l ≡ false → (k : ℕ) → f (get_or l k z) ≡ false
at_none f [] z n h k = n
at_none f (x ∷ xs) z n h zero = (or-none (f x) (some_of f xs) h).0
at_none f (x ∷ xs) z n h (suc k) = at_none f xs z n (or-none (f x) (some_of f xs) h).1 k

-- a question that holds of none, and what is known of each: the one gives the other
pub none_of : {A : Type 0} (f : A → Bool) (P : A → Type 0) → ((x : A) → f x ≡ false → P x) → (l : List A) → some_of f l ≡ false → Each P l
none_of f P h [] e = tt
none_of f P h (x ∷ l) e = let o = or-none (f x) (some_of f l) e in (h x o.0, none_of f P h l o.1)

pub of_none : {A : Type 0} (f : A → Bool) (P : A → Type 0) → ((x : A) → P x → f x ≡ false) → (l : List A) → Each P l → some_of f l ≡ false
of_none f P h [] p = refl
of_none f P h (x ∷ l) p = rw (h x p.0) (of_none f P h l p.1)

-- what two rules give of each
pub each_both : {A : Type 0} (P Q R : A → Type 0) → ((x : A) → P x → Q x → R x) → (l : List A) → Each P l → Each Q l → Each R l
each_both P Q R f [] p q = tt
each_both P Q R f (x ∷ l) p q = (f x p.0 q.0, each_both P Q R f l p.1 q.1)

-- what every element has, the one with a number has
pub each_at : {A : Type 0} (P : A → Type 0) (l : List A) (k : ℕ) (d : A) → k < length l → Each P l → P (get_or l k d)
each_at P [] k d b e = absurd (not-suc-le-zero b)
each_at P (x ∷ l) zero d b e = e.0
each_at P (x ∷ l) (suc k) d b e = each_at P l k d (le_of_suc-le-suc b) e.1

-- how long a list by number is
pub length-list_of : {A : Type 0} (f : ℕ → A) (n : ℕ) → length (list_of f n) ≡ n
unfolding list_of
length-list_of f zero = refl
length-list_of f (suc n) = length-append (list_of f n) (f n ∷ []) ∙ rw (length-list_of f n) (omega arith)

-- what stands at a number, and so whatever follows the list
pub get_d-list_of : {A : Type 0} (f : ℕ → A) (n k : ℕ) (d : A) → k < n → get_or (list_of f n) k d ≡ f k
unfolding list_of
get_d-list_of f zero k d h = absurd (not-suc-le-zero h)
get_d-list_of f (suc n) k d h = go (eq-or-lt_of_le (le_of_suc-le-suc h)) (λ l. get_d-list_of f n k d l)
  where
    go : (k ≡ n) ⊎ (k < n) → (k < n → get_or (list_of f n) k d ≡ f k) → get_or (list_of f n ++ (f n ∷ [])) k d ≡ f k
    go (inl e) below = get_or_at (list_of f n) (f n) [] d k (length-list_of f n ∙ sym e) ∙ ap f (sym e)
    go (inr l) below = get_or-append (list_of f n) (f n ∷ []) d k (omega (arith, length-list_of f n)) ∙ below l

pub at_number : {A : Type 0} (f : ℕ → A) (n k : ℕ) (rest : List A) (d : A) → k < n → get_or (list_of f n ++ rest) k d ≡ f k
at_number f n k rest d h = get_or-append (list_of f n) rest d k (omega (arith, length-list_of f n)) ∙ get_d-list_of f n k d h

-- every element of a list by number has what each of them has
pub each_number : {A : Type 0} (P : A → Type 0) (f : ℕ → A) (n : ℕ) → ((k : ℕ) → k < n → P (f k)) → Each P (list_of f n)
unfolding list_of
each_number P f zero h = tt
each_number {A} P f (suc n) h = snoc (list_of f n) (each_number P f n (λ k l. h k (omega arith)))
  where
    snoc : (l : List A) → Each P l → Each P (l ++ (f n ∷ []))
    snoc [] e = (h n (omega arith), tt)
    snoc (x ∷ l) e = (e.0, snoc l e.1)

-- a function of each element is the element of another list by number
pub map-number : {A B : Type 0} (g : A → B) (f : ℕ → A) (e : ℕ → B) (n : ℕ) → ((k : ℕ) → k < n → g (f k) ≡ e k) → map g (list_of f n) ≡ list_of e n
unfolding list_of
map-number g f e zero h = refl
map-number {A} {B} g f e (suc n) h =
    map-append g (list_of f n) (f n ∷ []) ∙ ap₂ (λ (l : List B) (x : B). l ++ (x ∷ [])) (map-number g f e n (λ k l. h k (omega arith))) (h n (omega arith))

-- lists by number that agree below n are the same
pub number_same : {A : Type 0} (f g : ℕ → A) (n : ℕ) → ((k : ℕ) → k < n → f k ≡ g k) → list_of f n ≡ list_of g n
unfolding list_of
number_same f g zero h = refl
number_same f g (suc n) h = λ i. number_same f g n (λ k s. h k (omega arith)) i ++ (h n (omega arith) i ∷ [])

-- none of sixteen is filled yet
pub none_yet : {A : Type 0} (f : ℕ → A) (d : A) → replicate 16 d ≡ list_of f 0 ++ replicate (16 - 0) d
unfolding list_of
none_yet f d = refl

-- a turn of a loop that fills m places, of which i are filled
pub filled : {A : Type 0} (f : ℕ → A) (d : A) (m i : ℕ) (l : List A) → i < m → l ≡ list_of f i ++ replicate (m - i) d → set l i (f i) ≡ list_of f (i + 1) ++ replicate (m - (i + 1)) d
unfolding list_of
filled {A} f d m i l h e =
    let r : replicate (m - i) d ≡ d ∷ replicate (m - (i + 1)) d = ap (λ (n : ℕ). replicate n d) (less m i h) in
    ap (λ (x : List A). set x i (f i)) (e ∙ ap (λ (x : List A). list_of f i ++ x) r)
    ∙ set_at (list_of f i) d (replicate (m - (i + 1)) d) (f i) i (length-list_of f i)
    ∙ sym (ap (λ (n : ℕ). list_of f n ++ replicate (m - (i + 1)) d) (add-one i) ∙ append_snoc (list_of f i) (f i) (replicate (m - (i + 1)) d))
  where
    less : (m i : ℕ) → i < m → m - i ≡ suc (m - (i + 1))
    less m i h = omega arith
