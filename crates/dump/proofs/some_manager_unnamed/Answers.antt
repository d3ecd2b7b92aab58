-- `dump::some_manager_unnamed`: asked of each record by its number.
-- Assumes nothing.
use Rattle.std.proofs.Common.{◌≡◌, rules, arith, refl, sym, ◌∙◌}
use lib.ListN.{length}
use Prim.Native.Nat.{◌/◌, ◌-◌}
use borrow.Author.Tests.{tests}
use Rattle.std.proofs.lemmas.Iterator.{YieldsList-from_range}
use Rattle.std.proofs.lemmas.Iterator.Search.{any_from_yields_List}
use Rattle.dump.proofs.Managers.{usage_unnamed_at, some-usage-numbered}
use Rattle.dump.proofs.some_manager_unnamed.Goals as goal

pub returns : goal.returns
returns c =
    let l = c.args.records.now in
    let n : length l / 8 - 0 ≡ length l / 8 = omega arith in
    any_from_yields_List (usage_unnamed_at l) _ _ _ c.any.ensures.ran (YieldsList-from_range 0 (length l / 8) (length l / 8) refl n) (λ x b q k. search (rules, tests))
    ∙ sym (some-usage-numbered l)
