-- `area::load`: after k turns the first k entries stand in the array.
-- Assumes nothing.
use Rattle.std.proofs.Common.{◌∙◌, ap, [], set, length-set, arith}
use Rattle.wire.proofs.Copied.{copied, copied-whole}
use Rattle.area.specs.Area.{area_of, entries_of}
use Rattle.area.proofs.Flat.{length-chunks}
use Rattle.area.proofs.Entry.{entry-any}
use Rattle.area.proofs.load.Goals as goal

pub loop-k-preserved : goal.loop-k-preserved
loop-k-preserved c =
    let l = c.loop-k in
    let b = c.args.area.now in
    let many = length-chunks 16 16 (area_of 256 b) in (
      l.invariant.0,
      length-set l.entries l.k c.entry_at.result ∙ l.invariant.1,
      ap (set l.entries l.k) (c.entry_at.ensures ∙ entry-any 16 b l.k [] (omega arith))
          ∙ copied [] (entries_of 16 (area_of 256 b)) _ l.entries l.k (omega arith) (omega arith) l.invariant.2,
    )

pub returns : goal.returns
returns c =
    let l = c.loop-k in
    let b = c.args.area.now in
    let many = length-chunks 16 16 (area_of 256 b) in
    copied-whole (entries_of 16 (area_of 256 b)) _ l.entries l.k (omega arith) (omega arith) l.invariant.2
