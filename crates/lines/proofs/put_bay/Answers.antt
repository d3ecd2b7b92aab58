-- `put_bay`: each part is typed after the one before it, into the room that was lent.
-- Assumes nothing.
use mathlib.Core.Path.{refl}
use borrow.Author.Rules.{rules}
use Rattle.wire.proofs.Typing.{puts-then, lent_back}
use Rattle.lines.specs.Text.{bay_text}
use Rattle.lines.proofs.put_bay.Goals as goal

pub returns : goal.returns
unfolding bay_text
returns c =
    let lines = puts-then (puts-then (puts-then c.put_segment.ensures c.put_segment-2.ensures) c.put_channels.ensures) c.put_entries.ensures in
    let new = c.new-text.ensures in
    lent_back new.blank lines new.same_reference refl (search rules)
