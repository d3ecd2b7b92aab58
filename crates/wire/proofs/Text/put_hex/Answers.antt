-- `wire::Text::put_hex`: the digits after the label.
-- Assumes nothing.
use Rattle.wire.proofs.Typing.{puts-then}
use Rattle.wire.proofs.Text.put_hex.Goals as goal

pub returns : goal.returns
returns c = puts-then c.put_bytes.ensures c.put_digits.ensures
