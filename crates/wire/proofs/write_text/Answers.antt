-- `wire::write_text`: the test decides between 12, with the room as it was, and the copy.
-- Assumes nothing.
use mathlib.Core.Path.{refl}
use borrow.Author.Tests.{lt-ltb, le-ltb}
use Rattle.wire.proofs.write_text.Goals as goal

pub returns-then-room-text : goal.returns-then-room-text
returns-then-room-text c = simp (lt-ltb _ _ c.if-room-text.true) (record { says = refl; holds = refl })

pub returns : goal.returns
returns c = simp (le-ltb _ _ c.if-room-text.false) (record { says = refl; holds = c.copy.ensures })
