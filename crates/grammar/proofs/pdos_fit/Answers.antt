-- `grammar::pdos_fit`: whether the records left fit from where the walk stands is whether all fit from the start.
-- Assumes nothing.
use mathlib.Core.Path.{◌≡◌, sym, ◌∙◌, ap}
use mathlib.Core.Bool.{true, false}
use Prim.Native.Nat.{ℕ, ◌+◌, ◌-◌}
use native.Mathlib.Omega.{arith}
use lib.ListN.{get_or}
use borrow.Author.Tests.{ne_eqb}
use Rattle.grammar.specs.Grammar.{kind_fits, next_pdo, pdos_fit}
use Rattle.grammar.proofs.Walk.{walk-past, walk-odd, walk_step}
use Rattle.grammar.proofs.pdos_fit.Goals as goal

pub returns-then-p-eq0 : goal.returns-then-p-eq0
unfolding pdos_fit
returns-then-p-eq0 c = sym (ap (λ (j : ℕ). pdos_fit c.args.bytes.now j c.args.at) c.if-p-eq0.true)

pub returns-else-p-eq0 : goal.returns-else-p-eq0
returns-else-p-eq0 c =
    let some = c.if-p-eq0.false in
    let short = c.in_default.ensures in
    ne_eqb c.args.p 0 some ∙ sym (walk-past c.args.bytes.now c.args.p c.args.at (omega (arith, some)) (omega (arith, short)))

pub returns-then-last-place : goal.returns-then-last-place
returns-then-last-place c =
    let l = c.loop in
    sym (walk-past c.args.bytes.now (c.args.p - l.counter) l.place (omega arith) (omega arith)) ∙ l.invariant.0

pub returns-then-not-kind_fits : goal.returns-then-not-kind_fits
returns-then-not-kind_fits c =
    let l = c.loop in
    let s = c.args.bytes.now in
    let odd : kind_fits (get_or s l.place 0) (get_or s (l.place + 4) 0) ≡ false = cc in
    sym (walk-odd s (c.args.p - l.counter) l.place (omega arith) odd) ∙ l.invariant.0

pub loop-preserved : goal.loop-preserved
loop-preserved c =
    let l = c.loop in
    let s = c.args.bytes.now in
    let fits : kind_fits (get_or s l.place 0) (get_or s (l.place + 4) 0) ≡ true = cc in
    let left : c.args.p - (l.counter + 1) ≡ c.args.p - l.counter - 1 = omega arith in
    let next : l.place + (5 + c.from.result) ≡ next_pdo s l.place = omega arith in
    (rw left (walk_step s (c.args.p - l.counter) l.place (l.place + (5 + c.from.result)) (omega arith) next fits) ∙ l.invariant.0, omega arith)

pub returns : goal.returns
unfolding pdos_fit
returns c =
    let l = c.loop in
    let none : c.args.p - l.counter ≡ 0 = omega arith in
    rw none at l.invariant.0
