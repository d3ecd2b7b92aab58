-- `put_front`: the colon is typed after the number.
-- Assumes nothing.
use Rattle.wire.proofs.Typing.{puts-then}
use Rattle.lines.proofs.put_front.Goals as goal

pub returns : goal.returns
returns c = puts-then c.put_decimal.ensures c.put_bytes.ensures
