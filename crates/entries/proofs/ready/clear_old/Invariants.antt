-- `entries::ready::clear_old`: the entries before the loop's place are cleared, and what is still enabled among them is known.
-- Assumes nothing.
use Rattle.std.proofs.Common.{◌≡◌, length}
use Rattle.entries.proofs.Clearing.{Clearing}
use Rattle.entries.proofs.ready.clear_old.Given as goal

abbrev pub invariant-loop-entry : goal.invariant-loop-entry
invariant-loop-entry l = (length l.entries ≡ length l.initial.entries) × Clearing l.initial.entries l.entry-index l.entries l.left.enabled l.left.both
