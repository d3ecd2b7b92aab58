-- `put_channels`: typing the lines that are left where the loop stands is typing all of them from the start.
-- Assumes nothing.
use lib.ListN.{take, drop}
use Rattle.wire.proofs.Typing.{Left}
use Rattle.area.specs.Area.{area_of, entries_of}
use Rattle.lines.specs.Text.{lines, image_line}
use Rattle.lines.proofs.put_channels.Given as goal

abbrev pub invariant-loop-k : goal.invariant-loop-k
invariant-loop-k l = Left l.initial.text l.text (lines image_line 0 (take l.n (entries_of 8 (area_of 128 l.channels)))) (lines image_line l.k (drop l.k (take l.n (entries_of 8 (area_of 128 l.channels)))))
