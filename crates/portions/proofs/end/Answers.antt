-- `portions::end`: 14, then 2 by what is remembered; else what reading answers for the bytes that are held.
-- Assumes nothing.
use mathlib.Core.Path.{◌≡◌, refl, sym, ◌∙◌, ap}
use mathlib.Core.Bool.{true, false}
use borrow.Author.Tests.{lt-ltb, le-ltb}
use Rattle.sheet.specs.Sheet.{read_sheet}
use Rattle.sheet.proofs.Reading.{reads_nothing}
use Rattle.portions.specs.Portions.{too_many}
use Rattle.portions.proofs.Steps.{short, enough, ending-short, ending-many, ending-reads, reads-by}
use Rattle.portions.proofs.end.Goals.{then-state-via-then-state, then-state-via-else-state+then-state-gt-MOST}
use Rattle.portions.proofs.end.Goals as goal

pub returns-then-room-lt-MOST : goal.returns-then-room-lt-MOST
returns-then-room-lt-MOST c =
    let a = c.args in
    reads_nothing _ (ending-short a.state a.room.now (short a.room.now c.if-room-lt-MOST.true))

pub returns-then-state : goal.returns-then-state
returns-then-state c =
    let a = c.args in
    let many : too_many a.state ≡ true =
    elim c.then-state.branch [
      | then-state-via-then-state w ↦ rw w.if-state.true refl
      | then-state-via-else-state+then-state-gt-MOST w ↦ rw (w.if-state.false, lt-ltb 16386 a.state.held w.if-state-gt-MOST.true) refl
    ] in
    reads_nothing _ (ending-many a.state a.room.now (enough a.room.now c.if-room-lt-MOST.false) many)

pub returns : goal.returns
returns c =
    let a = c.args in
    let few : too_many a.state ≡ false = rw (c.if-state.false, le-ltb 16386 a.state.held c.if-state-gt-MOST.false) refl in
    let held = c.front.ensures in
    reads-by (ap read_sheet held ∙ sym (ending-reads a.state a.room.now (enough a.room.now c.if-room-lt-MOST.false) few)) held c.read.ensures
