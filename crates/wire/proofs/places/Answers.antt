-- `wire::places`: the tests that led to each return say which case of `places_of` holds.
-- Assumes nothing.
use borrow.Author.Tests.{lt-ltb, le-ltb}
use Rattle.wire.proofs.places.Goals as goal

pub returns-then-x-lt10 : goal.returns-then-x-lt10
returns-then-x-lt10 c = search (lt-ltb, le-ltb)

pub returns-then-x-lt100 : goal.returns-then-x-lt100
returns-then-x-lt100 c = search (lt-ltb, le-ltb)

pub returns-then-x-lt1000 : goal.returns-then-x-lt1000
returns-then-x-lt1000 c = search (lt-ltb, le-ltb)

pub returns-then-x-lt10000 : goal.returns-then-x-lt10000
returns-then-x-lt10000 c = search (lt-ltb, le-ltb)

pub returns : goal.returns
returns c = search (lt-ltb, le-ltb)
