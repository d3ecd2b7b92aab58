-- `pdo::some_usage`: asked of each number of a sync manager.
-- Assumes nothing.
use Rattle.std.proofs.Common.{rules, arith, refl, ◌∙◌, ap, ◌==◌}
use Rattle.std.proofs.lemmas.Iterator.{YieldsList-from_range}
use Rattle.std.proofs.lemmas.Iterator.Search.{any_from_yields_List}
use borrow.Author.Tests.{tests}
use Rattle.wire.specs.Lists.{list_of, some_of}
use Rattle.sheet.specs.Sheet.{manager_place, manager_at, sheet_data}
use Rattle.sheet.proofs.Managers.{some-numbered}
use Rattle.pdo.proofs.some_usage.Goals as goal

pub returns : goal.returns
unfolding sheet_data
returns c =
    let s = c.args.sheet.now in
    let n = c.manager_count.result in
    any_from_yields_List (λ k. (manager_at s (manager_place k)).usage_type == c.args.usage) _ _ _ c.any.ensures.ran
    (YieldsList-from_range 0 n n refl (omega arith)) (λ x b q k. search (rules, tests))
    ∙ some-numbered (λ m. m.usage_type == c.args.usage) (λ k. manager_at s (manager_place k)) n
    ∙ ap (λ k. some_of (λ m. m.usage_type == c.args.usage) (list_of (λ j. manager_at s (manager_place j)) k)) c.manager_count.ensures
