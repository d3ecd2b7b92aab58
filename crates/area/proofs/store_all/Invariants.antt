-- `area::store_all`: after k turns the first k entries of the area are the given ones.
-- Assumes nothing.
use Rattle.std.proofs.Common.{◌≡◌, ◌++◌, length, take, drop}
use Rattle.area.specs.Area.{entries_of}
use Rattle.area.proofs.store_all.Given as goal

abbrev pub invariant-loop-k : goal.invariant-loop-k
invariant-loop-k l =
    (length l.entries ≡ 16) × (length l.area ≡ 256) × (entries_of 16 l.area ≡ take l.k l.entries ++ drop l.k (entries_of 16 l.initial.area))
