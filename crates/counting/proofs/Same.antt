-- Counting looks at the multipliers through the exact bits alone.
-- Assumes nothing.
use mathlib.Core.Path.{◌≡◌}
use mathlib.Core.List.{List, [], ◌∷◌, ◌++◌}
use Prim.Native.Nat.{ℕ, ◌+◌}
use Rattle.wire.specs.Outcome.{when, decide}
use Rattle.pdi.specs.Offset.{past_end}
use Rattle.sheet.specs.Sheet.{sheet_refusals, sheet_data}
use Rattle.pdo.specs.declared.PdoDirection.{PdoDirection}
use Rattle.pdo.proofs.Lacking.{SameBits}
use Rattle.passes.proofs.Same.{pieces-same, size_same, wanted-same}
use Rattle.counting.specs.Count.{spot_in, count}

pub count_same :
    (sheet ws vs : List ℕ) (r : PdoDirection) (a offset : ℕ) → SameBits (sheet_data sheet).pdos ws vs
    → count r a sheet ws offset ≡ count r a sheet vs offset
unfolding count
count_same sheet ws vs r a offset same =
    λ i.
    decide
    (sheet_refusals sheet ++ (wanted-same sheet ws vs same r i ++ (when 9 (past_end (offset + size_same sheet ws vs same r i)) ∷ [])))
    (spot_in offset (pieces-same sheet ws vs same r i) a)
