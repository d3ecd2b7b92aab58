-- `SyncManagerChannel::pack_to_slice`: the numbers that it is called with.
-- Assumes nothing.
use borrow.Author.Rules.{rules}
use Rattle.sync_manager_channel.specs.Image.{InRange}
use Rattle.sync_manager_channel.proofs.SyncManagerChannel.pack_to_slice.Lts as steps
use Rattle.sync_manager_channel.proofs.SyncManagerChannel.pack_to_slice.Reads as reads
use Rattle.sync_manager_channel.proofs.SyncManagerChannel.pack_to_slice.Tie as tie

-- at every call the numbers are in the range of their types
pub in-range : (c : steps.Start tie.the-claims reads.Pre reads.Post) → InRange c.args.self
in-range c = record { start = search rules; length = search rules }
