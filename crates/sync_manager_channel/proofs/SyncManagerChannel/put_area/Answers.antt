-- `SyncManagerChannel::put_area`: each part is typed after the one before it.
-- Assumes nothing.
use Rattle.wire.proofs.Typing.{puts-then}
use Rattle.sync_manager_channel.specs.Text.{area_text}
use Rattle.sync_manager_channel.proofs.SyncManagerChannel.put_area.Goals as goal

pub returns : goal.returns
unfolding area_text
returns c = puts-then (puts-then (puts-then c.put_hex4.ensures c.put_hex4-2.ensures) c.put_decimal.ensures) c.put_bytes.ensures
