-- `fmmu::Fmmu::put_physical`: each part is typed after the one before it.
-- Assumes nothing.
use mathlib.Core.Path.{sym}
use Rattle.wire.proofs.Typing.{puts-then}
use Rattle.fmmu.specs.Text.{access_text, physical_text}
use Rattle.fmmu.proofs.Fmmu.put_physical.Goals as goal

pub returns : goal.returns
unfolding physical_text access_text
returns c = rw (sym c.from.ensures) (puts-then (puts-then c.put_hex4.ensures c.put_decimal.ensures) c.put_access.ensures)
