-- `dump::usages_of`: after k turns the first k usages stand in the list.
-- Assumes nothing.
use mathlib.Core.Path.{◌≡◌}
use mathlib.Core.List.{◌++◌}
use Prim.Native.Nat.{◌-◌}
use lib.ListN.{replicate}
use Rattle.wire.specs.Lists.{list_of}
use Rattle.dump.proofs.Usages.{usage_at}
use Rattle.dump.proofs.usages_of.Given as goal

abbrev pub invariant-loop-k : goal.invariant-loop-k
invariant-loop-k l = l.list ≡ list_of (usage_at l.bytes) l.k ++ replicate (16 - l.k) 0
