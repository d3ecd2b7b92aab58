-- `wire::Text::put_bytes`: typing the rest of the text where the loop stands is typing all of it from the start.
-- Assumes nothing.
use mathlib.Core.Path.{sym, ◌∙◌}
use native.Mathlib.Omega.{arith}
use Rattle.wire.specs.Text.{page_of}
use Rattle.wire.proofs.Typing.{typed-turn, typed-end}
use Rattle.wire.proofs.Text.put_bytes.Goals as goal

pub loop-byte-preserved : goal.loop-byte-preserved
loop-byte-preserved c =
    let l = c.loop-byte in
    let put = c.put_byte.ensures in
    record {
      left = typed-turn c.args.text.now l.byte-index (omega arith) put.types ∙ l.invariant.left;
      same_room = put.same_room ∙ l.invariant.same_room;
    }

pub returns : goal.returns
returns c =
    let l = c.loop-byte in
    record {
      types = record { is = sym (typed-end (page_of l.self) c.args.text.now l.byte-index (omega arith)) ∙ l.invariant.left };
      same_room = l.invariant.same_room;
    }
