-- `SyncManagerChannel::fmt`: the text is typed to one side, where it always fits, and then written.
-- Assumes nothing.
use Rattle.wire.proofs.Typing.{into_room}
use Rattle.sync_manager_channel.proofs.Text.{channel-length}
use Rattle.sync_manager_channel.proofs.SyncManagerChannel.fmt.Goals as goal

pub returns : goal.returns
returns c = into_room (channel-length c.args.self) c.new-text.ensures.blank c.put.ensures c.write.ensures
