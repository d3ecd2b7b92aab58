-- `area::put`: after k turns the first k bytes stand over the others.
-- Assumes nothing.
use Rattle.std.proofs.Common.{◌≡◌, ◌++◌, length, take, drop}
use Rattle.area.proofs.put.Given as goal

abbrev pub invariant-loop-k : goal.invariant-loop-k
invariant-loop-k l = (length l.initial.to ≡ length l.from) × (length l.to ≡ length l.from) × (l.to ≡ take l.k l.from ++ drop l.k l.initial.to)
