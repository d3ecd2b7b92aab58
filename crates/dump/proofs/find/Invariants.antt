-- `dump::find`: what is noted and counted where the walk stands, and what is still to come, is what there is of all.
-- Assumes nothing.
use Prim.Native.Nat.{◌-◌}
use lib.ListN.{length}
use Rattle.dump.proofs.Noted.{Seen}
use Rattle.dump.proofs.find.Given as goal

abbrev pub invariant-loop-long : goal.invariant-loop-long
invariant-loop-long l = Seen l.dump l.places.fmmus l.places.managers l.places.inputs l.places.outputs l.known l.end

abbrev pub decreases-loop-long : goal.decreases-loop-long
decreases-loop-long l = length l.initial.dump - l.end
