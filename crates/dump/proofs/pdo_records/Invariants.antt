-- `dump::pdo_records`: so many records are passed up to where the walk stands.
-- Assumes nothing.
use Prim.Native.Nat.{◌-◌}
use lib.ListN.{length}
use Rattle.dump.specs.Records.{pdo_long}
use Rattle.dump.proofs.Parts.{Walk}
use Rattle.dump.proofs.Pdos.{pdo-fits}
use Rattle.dump.proofs.pdo_records.Given as goal

abbrev pub invariant-loop-long : goal.invariant-loop-long
invariant-loop-long l = Walk pdo_long pdo-fits l.bytes l.count l.end

abbrev pub decreases-loop-long : goal.decreases-loop-long
decreases-loop-long l = length l.initial.bytes - l.end
