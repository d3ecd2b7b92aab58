-- `counting::count`: what is wanted decides 2 to 7; the sizes laid decide 9 and the position.
-- Assumes nothing.
use mathlib.Core.Path.{ap}
use Rattle.std.proofs.lemmas.Result.{err_from_is_err_and}
use Rattle.pdo.specs.declared.Terms.{Terms}
use Rattle.counting.proofs.Counting.{unwanted-counts, nine-counts, found-counts}
use Rattle.counting.proofs.count.Goals as goal

pub returns-in_err-sizes : goal.returns-in_err-sizes
returns-in_err-sizes c =
    let a = c.args in
    let p = err_from_is_err_and c.from_residual.result c.from_residual.ensures.1 in
    rw (p.1, p.2) (unwanted-counts a.sheet.now a.multipliers.now a.direction a.offset.start_address a.address _ c.in_err-sizes.ensures)

pub returns-in_err-at : goal.returns-in_err-at
returns-in_err-at c =
    let a = c.args in
    let p = err_from_is_err_and c.from_residual-in_err-at.result c.from_residual-in_err-at.ensures.1 in
    rw (p.1, p.2)
    (nine-counts a.sheet.now a.multipliers.now a.direction a.offset.start_address a.address c.in_ok-sizes.sizes c.in_ok-sizes.ensures
    (ap (λ (t : Terms). t.usage) c.filter_terms.ensures) c.lay_out-laid.ensures _ c.in_err-at.ensures)

pub returns : goal.returns
returns c =
    let a = c.args in
    found-counts a.sheet.now a.multipliers.now a.direction a.offset.start_address a.address c.in_ok-sizes.sizes c.in_ok-sizes.ensures
    (ap (λ (t : Terms). t.usage) c.filter_terms.ensures) c.lay_out-laid.ensures _ c.in_ok-at.ensures
