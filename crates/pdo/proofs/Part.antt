-- The sum of a part of a list, from its front and by number.
-- Assumes nothing.
use mathlib.Core.Path.{◌≡◌, refl, sym, ◌∙◌, ap}
use mathlib.Core.Bool.{Bool, true, false}
use mathlib.Core.List.{List, [], ◌∷◌, ◌++◌}
use Prim.Native.Nat.{ℕ, zero, suc, ◌+◌, ◌≤◌, ◌<◌}
use native.Mathlib.Numerals.{add-one}
use native.Mathlib.Omega.{arith}
use lib.ListN.{length, get_or, take, drop, drop_of_length-le, get_or-eq_default}
use lib.Seq.{take-suc, take_all, drop-cons, get_or-drop}
use lib.Dec.{ltb}
use borrow.Author.Tests.{ltb-true, ltb-false}
use Rattle.wire.specs.Lists.{list_of, sum}

-- a turn of a loop that sums l, and its end
pub sum-turn : (l : List ℕ) (k : ℕ) → k < length l → sum (drop k l) ≡ get_or l k 0 + sum (drop (k + 1) l)
sum-turn l k h = rw (add-one, drop-cons l k 0 h)

pub sum-end : (l : List ℕ) (k : ℕ) → length l ≤ k → sum (drop k l) ≡ 0
sum-end l k h = rw (drop_of_length-le l h)

sum-append : (l m : List ℕ) → sum (l ++ m) ≡ sum l + sum m
sum-append [] m = omega arith
sum-append (x ∷ l) m = let e = sum-append l m in omega arith

-- one more from the front; past the end it counts as 0
sum_more : (l : List ℕ) (m : ℕ) → sum (take m l) + get_or l m 0 ≡ sum (take (suc m) l)
sum_more l m = go (ltb m (length l)) refl
  where
    go : (t : Bool) → ltb m (length l) ≡ t → sum (take m l) + get_or l m 0 ≡ sum (take (suc m) l)
    go true e = let a = sum-append (take m l) (get_or l m 0 ∷ []) in rw (take-suc l m 0 (ltb-true m (length l) e)) (omega arith)
    go false e =
        let h = ltb-false m (length l) e in
        rw (take_all m l h, take_all (suc m) l (omega arith), get_or-eq_default l 0 h) (omega arith)

sum-upto : (l : List ℕ) (from m : ℕ) → sum (list_of (λ k. get_or l (from + k) 0) m) ≡ sum (take m (drop from l))
unfolding list_of
sum-upto l from zero = refl
sum-upto l from (suc m) =
    let a = sum-append (list_of (λ k. get_or l (from + k) 0) m) (get_or l (from + m) 0 ∷ []) in
    let b = sum-upto l from m in
    let d = sum_more (drop from l) m in
    let e = get_or-drop from l m 0 in
    omega arith

-- m of them from a place on by number, r being the sum of a part n long: it has all of them
pub sum-part : (l : List ℕ) (from m n r : ℕ) → r ≡ sum (take n (drop from l)) → n ≡ m → r ≡ sum (list_of (λ k. get_or l (from + k) 0) m)
sum-part l from m n r e h = e ∙ ap (λ (x : ℕ). sum (take x (drop from l))) h ∙ sym (sum-upto l from m)
