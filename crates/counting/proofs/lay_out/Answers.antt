-- `counting::lay_out`: what is found and where the rest ends are what all find and where all end.
-- Assumes nothing.
use mathlib.Core.Path.{◌≡◌, sym, ◌∙◌, ap}
use Prim.Native.Nat.{ℕ, ◌*◌}
use native.Mathlib.Nat.{min-le_left, min-le_right}
use native.Mathlib.Omega.{arith}
use Rattle.grammar.specs.Grammar.{manager_count}
use Rattle.sheet.proofs.Managers.{front-manager, front-over}
use Rattle.channels.specs.Channels.{size_at}
use Rattle.passes.proofs.Pieces.{bytes_back}
use Rattle.counting.proofs.Counting.{laying-starts, laying-takes, laying-skips, laying-ends}
use Rattle.counting.proofs.lay_out.Goals as goal
use Rattle.counting.proofs.lay_out.Goals.{then-usage_of-usage, else-usage_of-usage}

pub loop-k-init : goal.loop-k-init
loop-k-init c = (omega arith, laying-starts _ _ _)

pub loop-k-preserved : goal.loop-k-preserved
loop-k-preserved c =
    let n = manager_count c.args.sheet.now in
    let left = min-le_left n 16 in
    let right = min-le_right n 16 in
    let l = c.loop-k in
    let a = c.args in
    let e = front-manager a.sheet.now l.k (omega arith) (omega arith) in
    let bits : ℕ → ℕ = λ j. 8 * size_at a.sizes j in
    elim c.if-usage_of-usage.branch [
      | then-usage_of-usage w ↦
          let k : w.from.result ≡ l.k = omega arith in
          let at : size_at a.sizes w.from.result ≡ size_at a.sizes l.k = ap (size_at a.sizes) k in (
            omega (arith, w.end-is),
            laying-takes a.usage bits l.k e l.invariant.1 w.position_in.result (sym c.usage_of.ensures ∙ w.if-usage_of-usage.true)
                (ap (size_at a.sizes) k ∙ sym (bytes_back (size_at a.sizes l.k))) (omega arith) w.position_in.ensures (w.found-is ∙ w.or-found.ensures),
          )
      | else-usage_of-usage w ↦
          (omega arith, laying-skips a.usage bits l.k e l.invariant.1 (λ q. w.if-usage_of-usage.false (c.usage_of.ensures ∙ q)) w.end-is w.found-is)
    ]

pub returns : goal.returns
returns c =
    let l = c.loop-k in
    let a = c.args in
    let from : c.from-end.result ≡ a.offset.start_address = omega arith in
    rw (← from) (laying-ends a.usage (λ j. 8 * size_at a.sizes j) l.k (front-over a.sheet.now l.k (omega arith)) l.invariant.1)
