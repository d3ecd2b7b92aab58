-- `dump::bits`: so far the bits of the first k entries, each at most 255.
-- Assumes nothing.
use mathlib.Core.Path.{◌≡◌}
use Prim.Native.Nat.{◌+◌, ◌*◌, ◌≤◌}
use lib.ListN.{get_or}
use Rattle.wire.specs.Lists.{list_of}
use Rattle.wire.specs.Lists as Lists
use Rattle.dump.proofs.bits.Given as goal

abbrev pub invariant-loop-k : goal.invariant-loop-k
invariant-loop-k l = (l.sum ≡ Lists.sum (list_of (λ j. get_or l.rest (8 + 8 * j + 5) 0) l.k)) × (l.sum ≤ 255 * l.k)
