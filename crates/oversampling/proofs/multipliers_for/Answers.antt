-- `oversampling::multipliers_for`: a turn fills the next place; at the end all are filled.
-- Assumes nothing.
use Rattle.std.proofs.Common.{arith, sym, ◌∙◌, ap, ℕ, ◌<◌, ◌≤◌, ◌++◌, length, set, take, drop, List}
use Rattle.wire.specs.Room.{over}
use Rattle.wire.proofs.Copied.{over-front}
use Rattle.grammar.specs.Grammar.{pdo_count, pdos_place}
use Rattle.oversampling.proofs.Filled.{those, all-those, length-those, filling-turn, filled_next, filled-all}
use Rattle.oversampling.proofs.multipliers_for.Goals as goal

pub loop-multiplier-preserved : goal.loop-multiplier-preserved
loop-multiplier-preserved c =
    let t = c.args.table.now in
    let s = c.args.sheet.now in
    let n = pdo_count s in
    let at = pdos_place s in
    let l = c.loop-multiplier in
    let k = l.multiplier-index in
    let room = take c.from.result c.args.out.now in
    let wide : n ≤ length room = omega arith in
    let below : k < n = omega arith in (
      filling-turn t s n at k l.place c.next_pdo-place.result l.invariant.0 below c.next_pdo-place.ensures.0 c.next_pdo-place.ensures.1,
      ap (λ (o : List ℕ). set o k c.multiplier_of.result) l.invariant.1
          ∙ filled_next t s n at room wide k l.place c.index_at.result c.multiplier_of.result l.invariant.0 below c.index_at.ensures c.multiplier_of.ensures,
    )

pub returns : goal.returns
returns c =
    let t = c.args.table.now in
    let s = c.args.sheet.now in
    let n = pdo_count s in
    let at = pdos_place s in
    let l = c.loop-multiplier in
    let out = c.args.out.now in
    let ws = those t s n at in
    let many = length-those t s n at in
    ap (λ (f : List ℕ). f ++ drop c.from.result out) (l.invariant.1 ∙ filled-all t s n at (take c.from.result out) l.multiplier-index l.place (omega arith) l.invariant.0 (omega arith))
    ∙ ap (λ (k : ℕ). ws ++ drop k out) (omega arith)
    ∙ sym (over-front ws out (omega arith))
    ∙ ap (λ (x : List ℕ). over x out) (all-those t s)
