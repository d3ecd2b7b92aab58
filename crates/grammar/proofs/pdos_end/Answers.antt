-- `grammar::pdos_end`: where the records left end from where the walk stands is where all end.
-- Assumes nothing.
use mathlib.Core.Path.{◌≡◌, ◌∙◌}
use Prim.Native.Nat.{◌+◌, ◌-◌}
use native.Mathlib.Omega.{arith}
use Rattle.grammar.specs.Grammar.{pdos_end, next_pdo}
use Rattle.grammar.proofs.Walk.{end-turn}
use Rattle.grammar.proofs.pdos_end.Goals as goal

pub loop-preserved : goal.loop-preserved
loop-preserved c =
    let l = c.loop in
    let s = c.args.bytes.now in
    let next : l.place + 5 + c.from.result ≡ next_pdo s l.place = omega arith in
    let left : c.args.p - (l.counter + 1) ≡ c.args.p - l.counter - 1 = omega arith in
    (rw left (end-turn s (c.args.p - l.counter) l.place (l.place + 5 + c.from.result) (omega arith) next) ∙ l.invariant.0, omega arith)

pub returns : goal.returns
unfolding pdos_end
returns c =
    let l = c.loop in
    let none : c.args.p - l.counter ≡ 0 = omega arith in
    (rw none at l.invariant.0, omega arith)
