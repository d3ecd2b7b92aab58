-- `grammar::some_manager_wrong`: none so far is wrong.
-- Assumes nothing.
use Rattle.std.proofs.Common.{◌≡◌, refl, sym, ◌∙◌, ap, ◌+◌, arith, ℕ, get_or}
use borrow.Author.Tests.{lt-ltb, le-ltb}
use Rattle.wire.specs.Lists.{some_below}
use Rattle.wire.proofs.Lists.{some-hit, some-miss}
use Rattle.grammar.specs.Grammar.{manager_count, manager_place, some_manager_wrong}
use Rattle.grammar.proofs.some_manager_wrong.Invariants.{wrong}
use Rattle.grammar.proofs.some_manager_wrong.Goals as goal

pub loop-k-init : goal.loop-k-init
unfolding some_below
loop-k-init c = refl

pub returns-then-sheet-manager_place-gt4 : goal.returns-then-sheet-manager_place-gt4
unfolding some_manager_wrong
returns-then-sheet-manager_place-gt4 c =
    let s = c.args.sheet.now in
    let k = c.loop-k.k in
    let place : c.manager_place.result + 4 ≡ manager_place k + 4 = omega (arith, c.manager_place.ensures.0) in
    let above = ap (λ (i : ℕ). get_or s i 0) place in
    sym (some-hit (wrong s) k (manager_count s) (omega arith) (lt-ltb 4 (get_or s (manager_place k + 4) 0) (omega (arith, above, c.if-sheet-manager_place-gt4.true))))

pub loop-k-preserved : goal.loop-k-preserved
loop-k-preserved c =
    let s = c.args.sheet.now in
    let k = c.loop-k.k in
    let place : c.manager_place.result + 4 ≡ manager_place k + 4 = omega (arith, c.manager_place.ensures.0) in
    let above = ap (λ (i : ℕ). get_or s i 0) place in
    some-miss (wrong s) k c.loop-k.invariant (le-ltb 4 (get_or s (manager_place k + 4) 0) (omega (arith, above, c.if-sheet-manager_place-gt4.false)))

pub returns : goal.returns
unfolding some_manager_wrong
returns c =
    let s = c.args.sheet.now in
    let all : c.loop-k.k ≡ manager_count s = omega (arith, c.manager_count-k-end.ensures) in
    sym (ap (some_below (wrong s)) (sym all) ∙ c.loop-k.invariant)
