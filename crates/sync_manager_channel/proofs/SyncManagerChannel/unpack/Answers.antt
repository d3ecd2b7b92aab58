-- `SyncManagerChannel::unpack`: each field is read from its bytes.
-- Assumes nothing.
use mathlib.Core.Path.{◌≡◌}
use borrow.Author.Rules.{rules}
use Rattle.wire.specs.Number.{little_at}
use Rattle.sync_manager_channel.specs.Image.{channel_of}
use Rattle.sync_manager_channel.proofs.SyncManagerChannel.unpack.Goals as goal

pub returns : goal.returns
unfolding channel_of
returns c =
    let l = c.args.image in
    let start : c.from_le_bytes.result ≡ little_at l 0 2 = search rules in
    let size : c.from_le_bytes-2.result ≡ little_at l 2 2 = search rules in
    λ i.
    record {
      physical_start_address = start i;
      length_bytes = record { 0 = size i };
      control = c.unpack.ensures i;
      status = c.unpack-2.ensures i;
      enable = c.unpack-3.ensures i;
    }
