-- `said_by`: once the pairs that are left are written too, the entries are those of all; and whether one of those read has a number above 15.
-- Assumes nothing.
use Rattle.pairs.proofs.Backwards.{Said}
use Rattle.pairs.proofs.said_by.Given as goal

abbrev pub invariant-loop-k : goal.invariant-loop-k
invariant-loop-k l = Said l.pairs l.k l.entries l.above
