-- `wire::glyph`: the test that led to each return says which case of `glyph_of` holds.
-- Assumes nothing.
use borrow.Author.Tests.{lt-ltb, le-ltb}
use Rattle.wire.proofs.glyph.Goals as goal

pub returns-then-digit-lt10 : goal.returns-then-digit-lt10
returns-then-digit-lt10 c = search (lt-ltb, le-ltb)

pub returns : goal.returns
returns c = search (lt-ltb, le-ltb)
