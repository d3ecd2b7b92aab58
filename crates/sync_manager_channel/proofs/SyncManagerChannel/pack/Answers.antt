-- `SyncManagerChannel::pack`: the bytes of each field, in their order.
-- Assumes nothing.
use mathlib.Core.Path.{◌≡◌}
use borrow.Author.Rules.{rules}
use Rattle.wire.specs.Number.{little_of}
use Rattle.sync_manager_channel.specs.Image.{image_of}
use Rattle.sync_manager_channel.proofs.SyncManagerChannel.pack.Goals as goal

pub returns : goal.returns
unfolding image_of
returns c =
    let s = c.args.self in
    let start : c.to_le_bytes-start.result ≡ little_of 2 s.physical_start_address = search rules in
    let size : c.to_le_bytes-length.result ≡ little_of 2 s.length_bytes.0 = search rules in
    rw (start, size, c.pack-enables.ensures, c.pack.ensures, c.pack-2.ensures)
