-- `area::entry_at`: the bytes at the entry's place; else the area has another length, or the number is past the last.
-- Assumes nothing.
use Rattle.std.proofs.Common.{◌∙◌, ◌+◌, ◌-◌, ◌*◌, arith}
use Rattle.area.proofs.Entry.{entry-of-none, entry_past, entry-there}
use Rattle.area.proofs.entry_at.Goals as goal
use Rattle.area.proofs.entry_at.Goals.{else-area-via-then-area+then-area-eq0+else-k-lt16, else-area-via-then-area+else-area-eq0, else-area-via-else-area}

pub returns-then-k-lt16 : goal.returns-then-k-lt16
returns-then-k-lt16 g c =
    let a = c.args in
    let n = g.row.N in
    c.copy_from_slice.ensures.after
    ∙ entry-there n a.area.now a.k (a.k * n) (a.k * n + n - a.k * n) (omega arith) c.if-k-lt16.true (omega arith) (omega arith)

pub returns-else-area : goal.returns-else-area
returns-else-area g c =
    let a = c.args in
    let n = g.row.N in
    elim c.else-area.branch [
      | else-area-via-then-area+then-area-eq0+else-k-lt16 w ↦ entry_past n a.area.now a.k (omega arith)
      | else-area-via-then-area+else-area-eq0 w ↦ entry-of-none n a.area.now a.k (λ e. omega arith)
      | else-area-via-else-area w ↦ entry-of-none n a.area.now a.k (λ e. omega arith)
    ]
