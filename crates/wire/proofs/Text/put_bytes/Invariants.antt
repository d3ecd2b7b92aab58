-- `wire::Text::put_bytes`: typing the rest of the text where the loop stands is typing all of it from the start.
-- Assumes nothing.
use lib.ListN.{drop}
use Rattle.wire.proofs.Typing.{Left}
use Rattle.wire.proofs.Text.put_bytes.Given as goal

abbrev pub invariant-loop-byte : goal.invariant-loop-byte
invariant-loop-byte l = Left l.initial.self l.self l.text (drop l.byte-index l.text)
