-- `area::store_all`: after k turns the first k entries of the area are the given ones.
-- Assumes nothing.
use Rattle.std.proofs.Common.{◌∙◌, ap, [], ◌*◌, length, get_or, arith}
use Rattle.wire.proofs.Copied.{copied, copied-whole}
use Rattle.area.specs.Area.{entries_of}
use Rattle.area.proofs.Flat.{length-chunks}
use Rattle.area.proofs.Entry.{length-stored, stored-entry, all-stored}
use Rattle.area.proofs.store_all.Goals as goal

pub loop-k-preserved : goal.loop-k-preserved
loop-k-preserved c =
    let l = c.loop-k in
    let xs = c.args.entries.now in
    let b = c.args.area.now in
    let e = get_or xs l.k [] in
    let stored = c.store_entry.ensures in
    let many = length-chunks 16 16 b in (
      l.invariant.0,
      ap length stored ∙ length-stored (16 * l.k) e l.area ∙ l.invariant.1,
      ap (entries_of 16) stored
          ∙ stored-entry 16 16 l.area e l.k (16 * l.k) l.invariant.1 (omega arith) (omega arith) (omega arith) (omega arith)
          ∙ copied [] xs (entries_of 16 b) (entries_of 16 l.area) l.k (omega arith) (omega arith) l.invariant.2,
    )

pub returns-after-loop-k : goal.returns-after-loop-k
returns-after-loop-k c =
    let l = c.loop-k in
    let xs = c.args.entries.now in
    let b = c.args.area.now in
    let many = length-chunks 16 16 b in
    all-stored xs b l.area c.if-area-eq256.true l.invariant.1 (copied-whole xs (entries_of 16 b) (entries_of 16 l.area) l.k (omega arith) (omega arith) l.invariant.2)
