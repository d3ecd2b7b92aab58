-- `probe::arrivals::call_by_call`: each call takes its head at least off the rest.
-- Assumes nothing.
use Rattle.std.proofs.Common.{length}
use Rattle.probe.proofs.arrivals.call_by_call.Given as goal

abbrev pub decreases-loop-rest : goal.decreases-loop-rest
decreases-loop-rest g l = length l.rest
