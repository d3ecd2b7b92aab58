-- What counts, or doesn't, is no more than it would be.
-- Assumes nothing.
use mathlib.Core.Bool.{Bool, true, false, cond}
use Prim.Native.Nat.{ℕ, ◌≤◌}
use native.Mathlib.Omega.{arith}

pub at_most : (t : Bool) (x : ℕ) → cond t x 0 ≤ x
at_most true x = omega arith
at_most false x = omega arith
