-- Counting as code goes: what one sync manager says of an address, the first of two, and pieces laid out from an offset on.
-- Assumes nothing.
use Rattle.std.specs.Prelude.{◌≡◌, cond, List, ℕ, ◌+◌, ◌-◌}
use Rattle.std.specs.Prelude as std
use Rattle.std.proofs.Math.Option.{Option, none, some}
use Rattle.pdo.specs.Bits.{Piece}
use Rattle.passes.specs.Use.{own, total}
use Rattle.translation.specs.Translate.{within}
use Rattle.counting.specs.Count.{Spot, spot_at, spot_in, found_of}
use Rattle.counting.specs.declared.Position.{Position}

abbrev pub spot_here : ℕ → ℕ → ℕ → ℕ → ℕ → Option Spot
spot_here start size number address a = cond (within start size a) (some (spot_at number address (a - start))) none

abbrev pub or_next : Option Spot → Option Spot → Option Spot
or_next none next = next
or_next (some s) next = some s

-- the promise of laying pieces out from an offset on: where the last one ends, and where the address lies
pub record LaysOut (ps : List Piece) (offset a end : ℕ) (found : std.Option Position) : Type 0 where
  pub ends : end ≡ offset + total (own ps)
  pub finds : found_of found ≡ spot_in offset ps a
