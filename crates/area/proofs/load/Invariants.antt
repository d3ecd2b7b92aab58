-- `area::load`: after k turns the first k entries stand in the array.
-- Assumes nothing.
use Rattle.std.proofs.Common.{◌≡◌, ◌++◌, length, take, drop}
use Rattle.area.specs.Area.{area_of, entries_of}
use Rattle.area.proofs.load.Given as goal

abbrev pub invariant-loop-k : goal.invariant-loop-k
invariant-loop-k l =
    (length l.initial.entries ≡ 16) × (length l.entries ≡ 16) × (l.entries ≡ take l.k (entries_of 16 (area_of 256 l.area)) ++ drop l.k l.initial.entries)
