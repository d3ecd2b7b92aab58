-- `dump::not_records`: something stands behind the last sync manager exactly if a remainder is left.
-- Assumes nothing.
use Rattle.std.proofs.Common.{arith}
use Rattle.std.proofs.lemmas.Grind.{common_steps}
use Rattle.dump.proofs.Managers.{managers-cut}
use Rattle.dump.proofs.not_records.Goals as goal

pub returns-then-inputs_cut : goal.returns-then-inputs_cut
returns-then-inputs_cut c = rw (managers-cut c.args.records.now) (grind (arith, common_steps))

pub returns-else-inputs_cut : goal.returns-else-inputs_cut
returns-else-inputs_cut c = rw (managers-cut c.args.records.now) (grind (arith, common_steps))
