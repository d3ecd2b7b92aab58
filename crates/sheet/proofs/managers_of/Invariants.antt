-- `sheet::managers_of`: after k turns the first k sync managers stand in the list.
-- Assumes nothing.
use mathlib.Core.Path.{◌≡◌}
use Rattle.sheet.specs.Sheet.{managers_of}
use Rattle.sheet.proofs.managers_of.Given as goal

abbrev pub invariant-loop-k : goal.invariant-loop-k
invariant-loop-k l = l.list ≡ managers_of l.sheet l.k
