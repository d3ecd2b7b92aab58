-- Laws of the questions over lists, of a decision that came out accepted, and of ranges.
-- Assumes nothing.
use mathlib.Core.Path.{◌≡◌, refl, sym, ◌∙◌, ap}
use mathlib.Core.Bool.{Bool, true, false, ◌||◌}
use mathlib.Core.List.{List, [], ◌∷◌, ◌++◌, map}
use mathlib.Core.Logic.{◌⊎◌, inl, inr}
use mathlib.Core.Option.{Option, none, some}
use Prim.Native.Nat.{ℕ, zero, suc, ◌+◌, ◌≤◌, ◌<◌}
use native.Mathlib.Nat.{not-suc-le-zero, le_of_suc-le-suc}
use native.Mathlib.Decide.{ℕ_discrete}
use native.Mathlib.Omega.{arith}
use lib.ListN.{length, get_or, set}
use lib.Dec.{ltb}
use borrow.Author.Tests.{ltb-true, ltb-false}
use Rattle.wire.specs.Outcome.{refused, accepted, Refusal, decide}
use Rattle.wire.proofs.Order.{never}
use Rattle.wire.specs.Lists.{Each, some_of}
use Rattle.translation.specs.Translate.{first_said}

pub either : (b : Bool) → (b ≡ true) ⊎ (b ≡ false)
either true = inl refl
either false = inr refl

pub same_or_not : (m n : ℕ) → (m ≡ n) ⊎ (m ≡ n → ⊥)
same_or_not m n = go (ℕ_discrete m n)
  where
    go : Dec (m ≡ n) → (m ≡ n) ⊎ (m ≡ n → ⊥)
    go (yes e) = inl e
    go (no e) = inr e

-- none of the refusals of an accepted call holds
abbrev pub NoneHolds : List Refusal → Type 0
NoneHolds rs = Each (λ (r : Refusal). r.holds ≡ false) rs

pub accepted-none : {A : Type 0} (rs : List Refusal) (x y : A) → decide rs x ≡ accepted y → NoneHolds rs
accepted-none [] x y e = tt
accepted-none (r ∷ rs) x y e = go (either r.holds) (accepted-none rs x y)
  where
    go : (r.holds ≡ true) ⊎ (r.holds ≡ false) → (decide rs x ≡ accepted y → NoneHolds rs) → (r.holds ≡ false) × NoneHolds rs
    go (inl h) i = let z : refused r.number ≡ accepted y = rw h at e in absurd (never z)
    go (inr h) i = let z : decide rs x ≡ accepted y = rw h at e in (h, i z)

-- and where none holds, the call is accepted
pub none-accepted : {A : Type 0} (rs : List Refusal) (x : A) → NoneHolds rs → decide rs x ≡ accepted x
none-accepted [] x c = refl
none-accepted (r ∷ rs) x c = rw c.0 (none-accepted rs x c.1)

-- a question asks only what `map` shows; and it holds of none exactly if at no place
pub some-map : {A : Type 0} (f : A → Bool) (l m : List A) → map f l ≡ map f m → some_of f l ≡ some_of f m
some-map {A = A} f l m e = shown l ∙ ap (some_of (λ b. b)) e ∙ sym (shown m)
  where
    shown : (l : List A) → some_of f l ≡ some_of (λ b. b) (map f l)
    shown [] = refl
    shown (x ∷ xs) = ap (λ (b : Bool). f x || b) (shown xs)

pub none-at : {A : Type 0} (f : A → Bool) (l : List A) (z : A) → ((k : ℕ) → f (get_or l k z) ≡ false) → some_of f l ≡ false
none-at f [] z h = refl
none-at f (x ∷ xs) z h = rw (h 0) (none-at f xs z (λ k. h (suc k)))

pub each_map : {A : Type 0} (P Q : A → Type 0) → ((x : A) → P x → Q x) → (l : List A) → Each P l → Each Q l
each_map P Q f [] e = tt
each_map P Q f (x ∷ xs) e = (f x e.0, each_map P Q f xs e.1)

pub each_of : {A : Type 0} (P : A → Type 0) → ((x : A) → P x) → (l : List A) → Each P l
each_of P f [] = tt
each_of P f (x ∷ xs) = (f x, each_of P f xs)

-- what each of two lists together has, each of either has
pub each-parts : {A : Type 0} (P : A → Type 0) (l m : List A) → Each P (l ++ m) → Each P l × Each P m
each-parts P [] m e = (tt, e)
each-parts P (x ∷ xs) m e = let s = each-parts P xs m e.1 in ((e.0, s.0), s.1)

-- where nothing is said; where the new one alone says something; and who said what was said
pub first-none : {A B : Type 0} (f : A → Option B) (l : List A) (z : A) → ((k : ℕ) → f (get_or l k z) ≡ none) → first_said (map f l) ≡ none
unfolding first_said
first-none f [] z h = refl
first-none f (x ∷ xs) z h = rw (h 0) (first-none f xs z (λ k. h (suc k)))

pub first-new : {A B : Type 0} (b : B) (f : A → Option B) (l : List A) (z : A) (k : ℕ) (y : A) → k < length l → ((j : ℕ) → f (get_or l j z) ≡ none) → f y ≡ some b
    → first_said (map f (set l k y)) ≡ some b
unfolding first_said
first-new b f [] z k y h n e = absurd (not-suc-le-zero h)
first-new b f (x ∷ xs) z zero y h n e = rw e refl
first-new b f (x ∷ xs) z (suc k) y h n e = rw (n 0) (first-new b f xs z k y (le_of_suc-le-suc h) (λ j. n (suc j)) e)

pub never-none : {B : Type 0} {b : B} → some b ≡ none → ⊥
never-none {B} {b} e = let z : ◌≡◌ {A = ℕ} 0 1 = cc in omega arith

pub record SaidBy {A B : Type 0} (f : A → Option B) (l : List A) (z : A) (b : B) : Type 0 where
  pub place : ℕ
  pub there : place < length l
  pub said : f (get_or l place z) ≡ some b

pub said-by : {A B : Type 0} (f : A → Option B) (l : List A) (z : A) (b : B) → first_said (map f l) ≡ some b → SaidBy f l z b
unfolding first_said
said-by f [] z b e = absurd (never-none (sym e))
said-by {A} {B} f (x ∷ xs) z b e = go (f x) refl (said-by f xs z b)
  where
    go : (o : Option B) → f x ≡ o → (first_said (map f xs) ≡ some b → SaidBy f xs z b) → SaidBy f (x ∷ xs) z b
    go none h i =
        let w : first_said (map f xs) ≡ some b = rw h at e in
        let s = i w in
        let t : s.place < length xs = s.there in
        record { place = suc s.place; there = omega arith; said = s.said }
    go (some c) h i = record { place = 0; there = omega arith; said = h ∙ (let w : some c ≡ some b = rw h at e in w) }

-- inside, or not: by the two ends
pub where-is : (s n a : ℕ) → (a < s) ⊎ (((s ≤ a) × (a < s + n)) ⊎ (s + n ≤ a))
where-is s n a = go (either (ltb a s)) (either (ltb a (s + n)))
  where
    go : (ltb a s ≡ true) ⊎ (ltb a s ≡ false) → (ltb a (s + n) ≡ true) ⊎ (ltb a (s + n) ≡ false) → (a < s) ⊎ (((s ≤ a) × (a < s + n)) ⊎ (s + n ≤ a))
    go (inl f) g = inl (ltb-true a s f)
    go (inr f) (inl g) = inr (inl (ltb-false a s f, ltb-true a (s + n) g))
    go (inr f) (inr g) = inr (inr (ltb-false a (s + n) g))
