-- `put_entries`: typing the lines that are left where the loop stands is typing all of them from the start.
-- Assumes nothing.
use mathlib.Core.Path.{sym, ◌∙◌, ap}
use mathlib.Core.List.{[]}
use native.Mathlib.Omega.{arith}
use Rattle.wire.specs.Text.{page_of}
use Rattle.area.specs.Area.{area_of, entries_of, entry_at}
use Rattle.area.proofs.Flat.{length-chunks}
use Rattle.area.proofs.Entry.{entry-any}
use Rattle.lines.specs.Text.{enabled_line}
use Rattle.lines.proofs.Lines.{lines-turn, lines_end}
use Rattle.lines.proofs.put_entries.Goals as goal

pub loop-k-preserved : goal.loop-k-preserved
loop-k-preserved c =
    let l = c.loop-k in
    let area = c.args.fmmus.now in
    let many = length-chunks 16 16 (area_of 256 area) in
    let read = c.entry_at-image in
    let is = sym (read.ensures ∙ ap (entry_at 16 area) c.from.ensures ∙ entry-any 16 area l.k [] (omega arith)) in
    let put = c.put_entry.ensures in
    record {
      left = lines-turn enabled_line (entries_of 16 (area_of 256 area)) l.k read.result (omega arith) is put.types ∙ l.invariant.left;
      same_room = put.same_room ∙ l.invariant.same_room;
    }

pub returns : goal.returns
returns c =
    let l = c.loop-k in
    let area = area_of 256 c.args.fmmus.now in
    let many = length-chunks 16 16 area in
    record {
      types = record { is = sym (lines_end enabled_line (entries_of 16 area) l.k {p = page_of l.text} (omega arith)) ∙ l.invariant.left };
      same_room = l.invariant.same_room;
    }
