-- `fmmu::Fmmu::put_access`: each part is typed after the one before it.
-- Assumes nothing.
use Rattle.wire.proofs.Typing.{puts-then}
use Rattle.fmmu.specs.Text.{access_text}
use Rattle.fmmu.proofs.Fmmu.put_access.Goals as goal

pub returns : goal.returns
unfolding access_text
returns c = puts-then (puts-then c.put_either.ensures c.put_either-2.ensures) c.put_either-3.ensures
