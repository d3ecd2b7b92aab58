-- `put_segment`: each part is typed after the one before it.
-- Assumes nothing.
use Rattle.wire.proofs.Typing.{puts-then}
use Rattle.lines.proofs.put_segment.Goals as goal

pub returns : goal.returns
returns c = puts-then c.put_bytes.ensures (puts-then c.put.ensures c.put_bytes-2.ensures)
