-- `entries::ready::clear_old`: a turn clears the entry at the loop's place if it is an old one, and notes what is left of another.
-- Assumes nothing.
use mathlib.Core.Path.{◌≡◌, refl, sym, ◌∙◌, ap}
use mathlib.Core.List.{[]}
use Prim.Native.Nat.{◌+◌, ◌<◌}
use native.Mathlib.Omega.{arith}
use lib.ListN.{length, length-set, replicate}
use lib.Seq.{set-get_or}
use Rattle.entries.proofs.Clearing.{Clearing, clearing-starts, clearing-at, clearing-ends, turned-old, turned-off, turned-left}
use Rattle.entries.proofs.ready.clear_old.Goals as goal
use Rattle.entries.proofs.ready.clear_old.Goals.{then-is_on+then-is_old, then-is_on+else-is_old, else-is_on}

pub loop-entry-init : goal.loop-entry-init
loop-entry-init c = (refl, clearing-starts c.args.entries.now)

pub loop-entry-preserved : goal.loop-entry-preserved
loop-entry-preserved c =
    let l = c.loop-entry in
    let i = l.invariant.1 in
    let n = l.entry-index in
    let h : n < length c.args.entries.now = omega arith in
    let before = c.args.entries.now in
    let turned : (length c.if-is_on.entries ≡ length l.entries) × Clearing before (n + 1) c.if-is_on.entries c.if-is_on.left.enabled c.if-is_on.left.both = elim c.if-is_on.branch [
      | then-is_on+then-is_old w ↦
          (ap length w.entries-is ∙ length-set l.entries n (replicate 16 0), clearing-at (turned-old i h (sym w.is_old.ensures ∙ w.if-is_old.true)) w.entries-is w.left-is)
      | then-is_on+else-is_old w ↦
          let same = w.entries-is ∙ set-get_or l.entries n [] in (
            ap length same,
            clearing-at (turned-left i h (sym w.is_old.ensures ∙ w.if-is_old.false) (sym c.is_on.ensures ∙ w.if-is_on.true) (sym w.has_both.ensures)) same w.left-is,
          )
      | else-is_on w ↦
          let same = w.entries-is ∙ set-get_or l.entries n [] in
          (ap length same, clearing-at (turned-off i h (sym c.is_on.ensures ∙ w.if-is_on.false)) same w.left-is)
    ] in
    (turned.0 ∙ l.invariant.0, turned.1)

pub returns : goal.returns
returns c = clearing-ends c.loop-entry.invariant.1 (omega arith)
