-- `put_channel`: an image gets its line.
-- Assumes nothing.
use Rattle.wire.proofs.Typing.{puts-then}
use Rattle.lines.proofs.Lines.{image-typed}
use Rattle.lines.proofs.put_channel.Goals as goal

pub returns : goal.returns
returns c =
    let a = c.args in
    image-typed a.k a.image c.unpack-channel.result c.unpack-channel.ensures (puts-then c.put_front.ensures (puts-then c.put.ensures c.put_bytes.ensures))
