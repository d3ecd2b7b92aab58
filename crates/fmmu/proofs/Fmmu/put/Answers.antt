-- `fmmu::Fmmu::put`: the one half is typed after the other.
-- Assumes nothing.
use Rattle.wire.proofs.Typing.{puts-then}
use Rattle.fmmu.specs.Text.{fmmu_text}
use Rattle.fmmu.proofs.Fmmu.put.Goals as goal

pub returns : goal.returns
unfolding fmmu_text
returns c = puts-then c.put_logical.ensures c.put_physical.ensures
