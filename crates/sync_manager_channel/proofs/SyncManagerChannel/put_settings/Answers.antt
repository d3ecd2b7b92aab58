-- `SyncManagerChannel::put_settings`: each part is typed after the one before it.
-- Assumes nothing.
use Rattle.wire.proofs.Typing.{puts-then}
use Rattle.sync_manager_channel.specs.Text.{settings_text}
use Rattle.sync_manager_channel.proofs.SyncManagerChannel.put_settings.Goals as goal

pub returns : goal.returns
unfolding settings_text
returns c = puts-then (puts-then (puts-then c.put_direction.ensures c.put_mode.ensures) c.put_bytes.ensures) c.put_either.ensures
