-- `put_entry`: an entry that is enabled gets its line.
-- Assumes nothing.
use Rattle.wire.proofs.Typing.{puts-then}
use Rattle.lines.proofs.Lines.{entry-typed, entry-left-out}
use Rattle.lines.proofs.put_entry.Goals as goal

pub returns-then-entry : goal.returns-then-entry
returns-then-entry c =
    let a = c.args in
    entry-typed a.k a.image c.unpack-entry.result c.unpack-entry.ensures c.if-entry.true (puts-then c.put_front.ensures (puts-then c.put.ensures c.put_bytes.ensures))

pub returns-else-entry : goal.returns-else-entry
returns-else-entry c =
    let a = c.args in
    entry-left-out a.k a.image c.unpack-entry.result c.unpack-entry.ensures c.if-entry.false
