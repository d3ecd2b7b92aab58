-- A turn of the loop that reads digits, and its ends.
-- Assumes nothing.
use mathlib.Core.Path.{◌≡◌, refl}
use mathlib.Core.Bool.{Bool, true, false, cond, ◌||◌}
use mathlib.Core.List.{List, [], ◌∷◌}
use Prim.Native.Nat.{ℕ, ◌+◌, ◌*◌, ◌-◌, ◌≤◌, ◌<◌}
use native.Mathlib.Numerals.{add-one}
use native.Mathlib.Omega.{arith}
use lib.ListN.{length, get_or, drop, drop_of_length-le}
use lib.Seq.{drop-cons}
use borrow.Author.Tests.{lt-ltb, le-ltb}
use Rattle.std.specs.Prelude.{Some, None}
use Rattle.wire.specs.Lists.{some_of}
use Rattle.lockersheet.specs.Decimal.{no_digit, value_from, number_from}

-- further digits make no number less
grows : (v : ℕ) (bs : List ℕ) → v ≤ value_from v bs
grows v [] = omega arith
grows v (b ∷ bs) = let e = grows (10 * v + (b - 48)) bs in omega arith

-- a number that is more than the most already is none
pub past : (most v : ℕ) (bs : List ℕ) → most < v → number_from most v bs ≡ None
unfolding number_from
past most v bs h = let e = lt-ltb most (value_from v bs) (omega (arith, grows v bs)) in rw e (go (some_of no_digit bs))
  where
    go : (t : Bool) → cond (t || true) None (Some (value_from v bs)) ≡ None
    go true = refl
    go false = refl

-- a byte that is no digit makes it none, and a digit is taken
module _ (most v i : ℕ) (text : List ℕ) (within : i < length text) where
  abbrev b : ℕ
  b = get_or text i 0

  pub stops : no_digit b ≡ true → number_from most v (drop i text) ≡ None
  unfolding number_from
  stops h = rw (drop-cons text i 0 within, h) refl

  pub turn : no_digit b ≡ false → number_from most v (drop i text) ≡ number_from most (10 * v + (b - 48)) (drop (i + 1) text)
  unfolding number_from
  turn h = rw (add-one, drop-cons text i 0 within, h) refl

-- the number that is left at the end
pub at-end : (most v i : ℕ) (text : List ℕ) → length text ≤ i → v ≤ most → number_from most v (drop i text) ≡ Some v
unfolding number_from
at-end most v i text h l = rw (drop_of_length-le text h, le-ltb most v l) refl
