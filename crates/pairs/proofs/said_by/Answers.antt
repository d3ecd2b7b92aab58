-- `said_by`: the last pair that is left is written, or is for none of sixteen; and whether it has a number above 15 is asked.
-- Assumes nothing.
use mathlib.Core.Path.{sym}
use native.Mathlib.Omega.{arith}
use borrow.Author.Tests.{ltb-true, ltb-false}
use Rattle.pairs.proofs.Backwards.{none-said, said-with, said-without, said-all}
use Rattle.pairs.proofs.said_by.Goals as goal

pub loop-k-init : goal.loop-k-init
loop-k-init c = none-said c.args.pairs.now

pub loop-k-preserved-then-not-past_last : goal.loop-k-preserved-then-not-past_last
loop-k-preserved-then-not-past_last c =
    let few = ltb-false 15 _ (sym c.if-not-past_last.ensures) in
    said-with _ _ c.is_above-above.ensures (omega arith) c.loop-k.invariant c.from.ensures (omega (arith, few))

pub loop-k-preserved : goal.loop-k-preserved
loop-k-preserved c = said-without _ _ c.is_above-above.ensures (omega arith) c.loop-k.invariant (ltb-true 15 _ (sym c.if-not-past_last.ensures))

pub returns : goal.returns
returns c = said-all c.args.pairs.now c.loop-k.k c.loop-k.entries c.loop-k.above (omega arith) c.loop-k.invariant
