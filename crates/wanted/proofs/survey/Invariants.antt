-- `wanted::survey`: what is known of the uses of the numbers from k on.
-- Assumes nothing.
use Prim.Native.Nat.{◌≤◌}
use Rattle.wanted.proofs.Surveying.{Seen, uses_after}
use Rattle.wanted.proofs.survey.Given as goal

abbrev pub invariant-loop-k : goal.invariant-loop-k
invariant-loop-k l = (l.k ≤ 16) × Seen (uses_after l.bits l.entries l.k) l.seen
