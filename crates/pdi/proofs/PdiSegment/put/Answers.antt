-- `pdi::PdiSegment::put`: each part is typed after the one before it.
-- Assumes nothing.
use borrow.Author.Tests.{lt-ltb, le-ltb}
use Rattle.wire.proofs.Typing.{puts-then}
use Rattle.pdi.specs.Segment.{segment_text}
use Rattle.pdi.proofs.PdiSegment.put.Goals as goal

pub returns-then-self : goal.returns-then-self
unfolding segment_text
returns-then-self c = rw (le-ltb _ _ c.if-self.true) c.put_bytes.ensures

pub returns-else-self : goal.returns-else-self
unfolding segment_text
returns-else-self c = rw (lt-ltb _ _ c.if-self.false) (puts-then c.put_hex8.ensures c.put_hex8-else-self.ensures)
