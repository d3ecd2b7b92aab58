-- `put_refused`: the newline is typed after the number, into the room that was lent.
-- Assumes nothing.
use mathlib.Core.Path.{refl, ap}
use borrow.Author.Rules.{rules}
use Rattle.wire.proofs.Typing.{puts-then, puts, lent_back}
use Rattle.lines.specs.Text.{refused_text}
use Rattle.lines.proofs.put_refused.Goals as goal

pub returns : goal.returns
unfolding refused_text
returns c =
    let new = c.new-text.ensures in
    let line = puts (ap refused_text c.from.ensures) (puts-then c.put_decimal.ensures c.put_bytes.ensures) in
    lent_back new.blank line new.same_reference refl (search rules)
