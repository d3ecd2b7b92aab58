-- `pdi::PdiSegment::fmt`: the text is typed to one side, where it always fits, and then written.
-- Assumes nothing.
use Rattle.wire.proofs.Typing.{into_room}
use Rattle.pdi.proofs.Text.{segment-length}
use Rattle.pdi.proofs.PdiSegment.fmt.Goals as goal

pub returns : goal.returns
returns c = into_room (segment-length c.args.self) c.new-text.ensures.blank c.put.ensures c.write.ensures
