-- `channels::write_channels`: the sync managers that are left, written into the area, give the area with all of them written.
-- Assumes nothing.
use Rattle.std.proofs.Common.{◌≡◌, drop}
use Rattle.sheet.specs.Sheet.{managers_in}
use Rattle.channels.specs.Channels.{channels_after, channel_area, size_by}
use Rattle.channels.proofs.write_channels.Given as goal

abbrev pub invariant-loop-k : goal.invariant-loop-k
invariant-loop-k l =
    channel_area (channels_after (size_by l.sizes) l.k (drop l.k (managers_in l.sheet))) l.area
    ≡ channel_area (channels_after (size_by l.sizes) 0 (managers_in l.sheet)) l.initial.area
