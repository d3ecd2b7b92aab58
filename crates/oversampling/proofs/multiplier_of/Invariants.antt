-- `oversampling::multiplier_of`: no record so far matches.
-- Assumes nothing.
use mathlib.Core.Path.{◌≡◌}
use lib.ListN.{drop}
use Rattle.pdo.specs.Bits.{multiplier_of}
use Rattle.oversampling.proofs.multiplier_of.Given as goal

abbrev pub invariant-loop-record : goal.invariant-loop-record
invariant-loop-record l = multiplier_of (drop l.record-index l.table) l.index ≡ multiplier_of l.table l.index
