-- `SyncManagerChannel::put`: the one half is typed after the other.
-- Assumes nothing.
use Rattle.wire.proofs.Typing.{puts-then}
use Rattle.sync_manager_channel.specs.Text.{channel_text}
use Rattle.sync_manager_channel.proofs.SyncManagerChannel.put.Goals as goal

pub returns : goal.returns
unfolding channel_text
returns c = puts-then c.put_area.ensures c.put_settings.ensures
