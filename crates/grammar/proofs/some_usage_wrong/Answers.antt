-- `grammar::some_usage_wrong`: asked of each byte of the row.
-- Assumes nothing.
use Rattle.std.proofs.Common.{rules, ℕ, ◌+◌, ◌-◌, arith, ◌∙◌, ap, get_or, take, drop, length-drop}
use Rattle.std.proofs.lemmas.Iterator.{YieldsList-from_slice}
use Rattle.std.proofs.lemmas.Iterator.Search.{any_from_yields_List}
use Rattle.std.proofs.lemmas.List.{get_or-drop}
use borrow.Author.Tests.{tests}
use lib.Dec.{ltb}
use Rattle.wire.specs.Lists.{some_below}
use Rattle.wire.proofs.Lists.{some_same}
use Rattle.grammar.specs.Grammar.{usages_place, some_usage_wrong}
use Rattle.grammar.proofs.Asked.{some-row}
use Rattle.grammar.proofs.some_usage_wrong.Goals as goal

pub returns : goal.returns
unfolding some_usage_wrong
returns c =
    let s = c.args.sheet.now in
    let at = c.usages_place.result in
    let n = c.pdos_place.result - at in
    let row = drop at s in
    let wrong = λ (k : ℕ). ltb 3 (get_or s (usages_place s + k) 0) in
    any_from_yields_List (ltb 3) _ _ _ c.any.ensures.ran (YieldsList-from_slice (take n row) cc) (λ x b q k. search (rules, tests))
    ∙ some-row (ltb 3) row n (omega (arith, length-drop at s))
    ∙ some_same (λ (k : ℕ). ltb 3 (get_or row k 0)) wrong n (λ k h. ap (ltb 3) (get_or-drop at s k 0 ∙ ap (λ (x : ℕ). get_or s x 0) (omega arith)))
    ∙ ap (some_below wrong) (omega arith)
