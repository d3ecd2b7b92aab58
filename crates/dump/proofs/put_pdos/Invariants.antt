-- `dump::put_pdos`: what is left, put from where the walk stands, gives what all of them give.
-- Assumes nothing.
use Prim.Native.Nat.{◌-◌}
use lib.ListN.{length}
use Rattle.dump.specs.Looked.{number_of}
use Rattle.dump.proofs.Pdos.{Put}
use Rattle.dump.proofs.put_pdos.Given as goal

abbrev pub invariant-loop-long : goal.invariant-loop-long
invariant-loop-long l = Put (number_of l.kind) l.to l.bytes l.initial.room l.at l.place l.room

abbrev pub decreases-loop-long : goal.decreases-loop-long
decreases-loop-long l = length l.initial.bytes - l.at
