-- A copy from the front, over any length.
-- Assumes nothing.
use mathlib.Core.Path.{◌≡◌, sym, ◌∙◌, ap, ap₂}
use mathlib.Core.List.{List, ◌++◌, append-nil}
use Prim.Native.Nat.{ℕ, suc, ◌+◌, ◌-◌, ◌<◌, ◌≤◌, min}
use native.Mathlib.Nat.{zero-add, min-eq_left}
use native.Mathlib.Numerals.{add-one}
use native.Mathlib.Omega.{arith}
use lib.ListN.{length, get_or, take, drop, set, length-take, length-drop, length-append, drop_of_length-le}
use lib.Seq.{paste-suc, take-length, take_all}
use Rattle.wire.specs.Room.{over}

-- a turn of the loop: l is d with the first i of s over it; of any element type
pub copied : {A : Type 0} (z : A) (s d l : List A) (i : ℕ) → i < length s → i < length d → l ≡ take i s ++ drop i d → set l i (get_or s i z) ≡ take (i + 1) s ++ drop (i + 1) d
copied {A} z s d l i hs hd e =
    let h : 0 + i < length d = omega arith in
    let p : set (take i s ++ drop i d) i (get_or s i z) ≡ take (suc i) s ++ drop (suc i) d = simp zero-add at (paste-suc d 0 s i z h hs) in
    ap (λ (x : List A). set x i (get_or s i z)) e ∙ p ∙ ap (λ (n : ℕ). take n s ++ drop n d) (sym (add-one i))

-- both as long: at the loop's end s stands there
pub copied-whole : {A : Type 0} (s d l : List A) (i : ℕ) → length s ≤ i → length d ≤ i → l ≡ take i s ++ drop i d → l ≡ s
copied-whole s d l i hs hd e = e ∙ ap₂ (λ x y. x ++ y) (take_all i s hs) (drop_of_length-le d hd) ∙ append-nil s

-- the loop's end: as far as both go
pub copied_all : (s d l : List ℕ) (i : ℕ) → i ≡ min (length s) (length d) → l ≡ take i s ++ drop i d → l ≡ over s d
copied_all s d l i e q = q ∙ ap (λ (n : ℕ). take n s ++ drop n d) e

-- s over a list that is long enough, and over one of its own length
pub over-front : (s d : List ℕ) → length s ≤ length d → over s d ≡ s ++ drop (length s) d
over-front s d h = rw (min-eq_left h, take-length)

pub over-same : (s d : List ℕ) → length s ≡ length d → over s d ≡ s
over-same s d e =
    let h : length d ≤ length s = omega arith in
    over-front s d (omega arith) ∙ rw (drop_of_length-le d h) (append-nil s)

-- s over a list leaves its length
pub length_over : (s d : List ℕ) → length (over s d) ≡ length d
length_over s d =
    let m = min (length s) (length d) in
    let front : length (take m s) ≡ m = length-take m s ∙ (let z : min m (length s) ≡ m = omega arith in z) in
    length-append (take m s) (drop m d) ∙ ap₂ (λ (a b : ℕ). a + b) front (length-drop m d) ∙ (let z : m + (length d - m) ≡ length d = omega arith in z)
