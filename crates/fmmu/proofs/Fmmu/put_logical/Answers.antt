-- `fmmu::Fmmu::put_logical`: each part is typed after the one before it.
-- Assumes nothing.
use mathlib.Core.Path.{sym}
use Rattle.wire.proofs.Typing.{puts-then}
use Rattle.fmmu.specs.Text.{logical_text}
use Rattle.fmmu.proofs.Fmmu.put_logical.Goals as goal

pub returns : goal.returns
unfolding logical_text
returns c = rw (sym c.from.ensures, sym c.from-2.ensures) (puts-then (puts-then (puts-then c.put_hex8.ensures c.put_decimal.ensures) c.put_decimal-2.ensures) c.put_decimal-3.ensures)
