-- `wire::Text::put_byte`: the test decides between the two cases of `typed`.
-- Assumes nothing.
use mathlib.Core.Path.{refl}
use borrow.Author.Tests.{lt-ltb, le-ltb}
use Rattle.wire.specs.Text.{typed, typed_all}
use Rattle.wire.proofs.Text.put_byte.Goals as goal

pub returns-then-self : goal.returns-then-self
unfolding typed typed_all
returns-then-self c = record { types = record { is = rw (lt-ltb _ _ c.if-self.true) }; same_room = refl }

pub returns-else-self : goal.returns-else-self
unfolding typed typed_all
returns-else-self c = record { types = record { is = rw (le-ltb _ _ c.if-self.false) }; same_room = refl }
