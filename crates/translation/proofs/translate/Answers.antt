-- `translation::translate`: 1, then 11, then the first entry that holds the address.
-- Assumes nothing.
use Rattle.std.proofs.Common.{rules, sym, ◌∙◌}
use Rattle.std.proofs.lemmas.Iterator.{YieldsList-from_slice}
use Rattle.std.proofs.lemmas.Iterator.Search.{any_from_yields_List}
use borrow.Author.Tests.{tests}
use Rattle.translation.specs.Translate.{odd}
use Rattle.translation.proofs.Saying.{one, eleven, answers}
use Rattle.translation.proofs.translate.Goals as goal

pub returns-then-fmmus-ne256 : goal.returns-then-fmmus-ne256
returns-then-fmmus-ne256 c = let a = c.args in one a.direction a.fmmus.now a.address c.if-fmmus-ne256.true

pub returns-then-any : goal.returns-then-any
returns-then-any c =
    let a = c.args in
    let cut = c.as_chunks.ensures.front in
    eleven a.direction a.fmmus.now a.address c.if-fmmus-ne256.false _ cut
    (sym c.if-any.true ∙ any_from_yields_List (odd a.direction) _ _ _ c.any.ensures.ran (YieldsList-from_slice _ (cc)) (λ x b q k. search (rules, tests)))

pub returns : goal.returns
returns c =
    let a = c.args in
    let cut = c.as_chunks.ensures.front in
    answers a.direction a.fmmus.now a.address c.if-fmmus-ne256.false _ cut
    (sym c.if-any.false ∙ any_from_yields_List (odd a.direction) _ _ _ c.any.ensures.ran (YieldsList-from_slice _ (cc)) (λ x b q k. search (rules, tests)))
    c.first_said.ensures
