-- `wanted::some_past_last`: asked of each entry.
-- Assumes nothing.
use Rattle.std.proofs.Common.{rules, ◌≡◌, ◌∙◌, ap, length, get_or, ltb}
use Rattle.std.proofs.lemmas.Iterator.{YieldsList-from_slice}
use Rattle.std.proofs.lemmas.Iterator.Search.{any_from_yields_List}
use borrow.Author.Tests.{tests}
use Rattle.wire.specs.Lists.{some_below}
use Rattle.wanted.proofs.Surveying.{some-element}
use Rattle.wanted.proofs.some_past_last.Goals as goal

pub returns : goal.returns
returns c =
    let entries = c.args.entries in
    let long : length entries ≡ 16 = search rules in
    any_from_yields_List (ltb 15) _ _ _ c.any.ensures.ran (YieldsList-from_slice entries cc) (λ x b q k. search (rules, tests))
    ∙ some-element (ltb 15) 0 entries ∙ ap (some_below (λ k. ltb 15 (get_or entries k 0))) long
