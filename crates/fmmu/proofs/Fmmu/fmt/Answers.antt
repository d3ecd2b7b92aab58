-- `fmmu::Fmmu::fmt`: the text is typed to one side, where it always fits, and then written.
-- Assumes nothing.
use Rattle.wire.proofs.Typing.{into_room}
use Rattle.fmmu.proofs.Text.{fmmu-length}
use Rattle.fmmu.proofs.Fmmu.fmt.Goals as goal

pub returns : goal.returns
returns c = into_room (fmmu-length c.args.self) c.new-text.ensures.blank c.put.ensures c.write.ensures
