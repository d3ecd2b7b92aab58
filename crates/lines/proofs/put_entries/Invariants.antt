-- `put_entries`: typing the lines that are left where the loop stands is typing all of them from the start.
-- Assumes nothing.
use lib.ListN.{drop}
use Rattle.wire.proofs.Typing.{Left}
use Rattle.area.specs.Area.{area_of, entries_of}
use Rattle.lines.specs.Text.{lines, enabled_line}
use Rattle.lines.proofs.put_entries.Given as goal

abbrev pub invariant-loop-k : goal.invariant-loop-k
invariant-loop-k l = Left l.initial.text l.text (lines enabled_line 0 (entries_of 16 (area_of 256 l.fmmus))) (lines enabled_line l.k (drop l.k (entries_of 16 (area_of 256 l.fmmus))))
