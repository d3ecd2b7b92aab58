-- `counting::lay_out`: what is found and where the rest ends are what all find and where all end.
-- Assumes nothing.
use Prim.Native.Nat.{◌+◌, ◌*◌, ◌≤◌}
use lib.ListN.{drop}
use Rattle.sheet.specs.Sheet.{managers_in}
use Rattle.channels.specs.Channels.{size_at}
use Rattle.pdo.specs.Bits.{pieces_from}
use Rattle.passes.specs.Handed.{pieces_by}
use Rattle.counting.proofs.Counting.{Laying}
use Rattle.counting.proofs.lay_out.Given as goal

abbrev pub invariant-loop-k : goal.invariant-loop-k
invariant-loop-k l =
    (l.end ≤ 4294967295 + l.k * 65535)
    × Laying (pieces_by l.usage l.sizes (managers_in l.sheet)) l.initial.end l.address (pieces_from l.usage (λ j. 8 * size_at l.sizes j) l.k (drop l.k (managers_in l.sheet))) l.end l.found
