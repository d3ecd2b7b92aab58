-- `lockersheet::convert`: the buffer is too long to be written out, so its length is cited, and what `read_full` ensures.
-- Assumes nothing.
use Rattle.std.proofs.Common.{sym, ℕ}
use Rattle.std.proofs.lemmas.List.{length-replicate}
use Rattle.lockersheet.proofs.convert.Goals as goal

pub slice_bounds-read_full-end : goal.slice_bounds-read_full-end
slice_bounds-read_full-end g c = sym (length-replicate {0} {A = ℕ} 524289 0)

pub slice_bounds-dump-end : goal.slice_bounds-dump-end
slice_bounds-dump-end g c = c.in_ok-n.ensures.0

pub slice_bounds-write-end : goal.slice_bounds-write-end
slice_bounds-write-end g c = c.in_ok-n.ensures.1
