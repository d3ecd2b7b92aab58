-- Little-endian numbers over any width, big-endian ones of two bytes, and an image written out over any length.
-- Assumes nothing.
use mathlib.Core.Path.{◌≡◌, refl, sym, ◌∙◌, ap, ap₂}
use mathlib.Core.List.{List, [], ◌∷◌, ◌++◌}
use Prim.Native.Nat.{ℕ, zero, suc, ◌+◌, ◌*◌, ◌/◌, ◌%◌, ◌^◌, ◌<◌}
use native.Mathlib.Nat.{add-zero, zero-add, pow-suc}
use native.Mathlib.Numerals.{add-one}
use native.Mathlib.Omega.{arith}
use lib.Arith.{mod-mul}
use lib.ListN.{length, get_or, drop}
use lib.Seq.{drop-cons, drop-length}
use Rattle.wire.specs.Number.{little_at, little_of, big_at, big_of}
use Rattle.wire.specs.Image.{Bytes, Image}

-- the number that x's n bytes are: what `little_at` of a list that begins with them computes to
abbrev pub joined : ℕ → ℕ → ℕ
joined zero x = zero
joined (suc n) x = x % 256 + 256 * joined n (x / 256)

-- a number that fits, written and read
pub joined_is : (n x : ℕ) → x < 256 ^ n → joined n x ≡ x
joined_is zero x h = omega arith
joined_is (suc n) x h =
    let p = pow-suc 256 n in
    let r = joined_is n (x / 256) (omega arith) in
    omega arith

-- the n elements of l from `at`, written out
abbrev pub spread : ℕ → ℕ → List ℕ → List ℕ
spread zero at l = []
spread (suc n) at l = get_or l at 0 ∷ spread n (at + 1) l

spread-from : (n at : ℕ) (l : List ℕ) → length l ≡ at + n → spread n at l ≡ drop at l
spread-from zero at l e = let h : length l ≡ at = omega arith in rw (← h, drop-length)
spread-from (suc n) at l e =
    ap (λ (t : List ℕ). get_or l at 0 ∷ t) (spread-from n (at + 1) l (omega arith) ∙ rw add-one) ∙ sym (drop-cons l at 0 (omega arith))

-- an image is its bytes written out
pub spread-is : {n : ℕ} {l : List ℕ} → Image n l → spread n 0 l ≡ l
spread-is {n} {l} h = spread-from n 0 l (omega arith)

-- those bytes in two parts, and how many they are
pub spread-append : (m n at : ℕ) (l : List ℕ) → spread (m + n) at l ≡ spread m at l ++ spread n (at + m) l
spread-append zero n at l = rw (zero-add n, add-zero at)
spread-append (suc m) n at l =
    let s : suc m + n ≡ suc (m + n) = omega arith in
    let p : at + 1 + m ≡ at + suc m = omega arith in
    ap (λ (k : ℕ). spread k at l) s ∙ ap (λ (t : List ℕ). get_or l at 0 ∷ t) (spread-append m n (at + 1) l ∙ ap (λ (k : ℕ). spread m (at + 1) l ++ spread n k l) p)

pub spread-length : (n at : ℕ) (l : List ℕ) → length (spread n at l) ≡ n
spread-length zero at l = refl
spread-length (suc n) at l = ap suc (spread-length n (at + 1) l)

-- bytes of a number that stand in a list
pub little-stands : (n x : ℕ) (l : List ℕ) (at : ℕ) → spread n at l ≡ little_of n x → little_at l at n ≡ joined n x
little-stands zero x l at e = refl
little-stands (suc n) x l at e =
    ap₂ (λ (b r : ℕ). b + 256 * r) (ap (λ (m : List ℕ). get_or m 0 0) e) (little-stands n (x / 256) l (at + 1) (ap (drop 1) e))

-- a number read and written
pub little-back : {l : List ℕ} (n at : ℕ) → Bytes l → little_of n (little_at l at n) ≡ spread n at l
little-back zero at h = refl
little-back {l} (suc n) at h =
    let b = h.below at in
    let v = little_at l (at + 1) n in
    let e : (get_or l at 0 + 256 * v) / 256 ≡ v = omega arith in
    ap₂ (λ (x : ℕ) (t : List ℕ). x ∷ t) (omega arith) (ap (little_of n) e ∙ little-back n (at + 1) h)

-- a number of two bytes, the high one first: read and written, and written and read
pub big-back : {l : List ℕ} (at : ℕ) → Bytes l → big_of 2 (big_at l at 2) ≡ spread 2 at l
big-back at h =
    let a = h.below at in
    let b = h.below (at + 1) in
    ap₂ (λ (x y : ℕ). x ∷ y ∷ []) (omega arith) (omega arith)

pub big-joined : (x : ℕ) → x < 65536 → big_at (big_of 2 x) 0 2 ≡ x
big-joined x h = omega arith

-- the n bytes of a number take no notice of what is above them
pub little-wraps : (n x : ℕ) → little_of n (x % 256 ^ n) ≡ little_of n x
little-wraps zero x = refl
little-wraps (suc n) x =
    let y = x / 256 % 256 ^ n in
    let m : x % 256 ^ suc n ≡ y * 256 + x % 256 = ap (λ (k : ℕ). x % k) (pow-suc 256 n) ∙ mod-mul x (pow_pos n) (omega arith) in
    ap₂ (λ (a : ℕ) (l : List ℕ). a ∷ l) (ap (λ (k : ℕ). k % 256) m ∙ omega arith) (ap (λ (k : ℕ). little_of n (k / 256)) m ∙ ap (little_of n) (omega arith) ∙ little-wraps n (x / 256))
  where
    pow_pos : (n : ℕ) → 0 < 256 ^ n
    pow_pos zero = omega arith
    pow_pos (suc n) = let p = pow-suc 256 n in let q = pow_pos n in omega arith
