-- `dump::managers_of`: after k turns the first k sync managers stand in the list.
-- Assumes nothing.
use mathlib.Core.Path.{◌≡◌}
use mathlib.Core.List.{◌++◌}
use Prim.Native.Nat.{◌-◌}
use lib.ListN.{replicate}
use Rattle.wire.specs.Lists.{list_of}
use Rattle.sheet.specs.Sheet.{no_manager}
use Rattle.dump.proofs.Managers.{nth_manager}
use Rattle.dump.proofs.managers_of.Given as goal

abbrev pub invariant-loop-k : goal.invariant-loop-k
invariant-loop-k l = l.list ≡ list_of (nth_manager l.records) l.k ++ replicate (16 - l.k) no_manager
