-- `wanted::sound::Sound::of_usage`: what is picked so far, and nothing yet of the numbers ahead.
-- Assumes nothing.
use native.Mathlib.Omega.{arith}
use Rattle.wanted.proofs.Apart.{picked-start, picked-here, picked-on, picked-end}
use Rattle.wanted.proofs.sound.Sound.of_usage.Goals as goal
use Rattle.wanted.proofs.sound.Sound.of_usage.Goals.{then-usage_of-usage, else-usage_of-usage}

pub loop-k-init : goal.loop-k-init
loop-k-init c = picked-start _ _ _

pub loop-k-preserved : goal.loop-k-preserved
loop-k-preserved c =
    let l = c.loop-k in
    let u = c.usage_of in
    elim c.if-usage_of-usage.branch [
      | then-usage_of-usage h ↦
          picked-here _ _ _ l.invariant u.result (omega arith) (omega arith) u.ensures _ _ _ h.if-usage_of-usage.true (omega arith) (omega arith) h.out-is
      | else-usage_of-usage h ↦ picked-on _ _ _ l.invariant u.result (omega arith) (omega arith) u.ensures _ h.if-usage_of-usage.false h.out-is
    ]

pub returns : goal.returns
returns c = picked-end _ _ _ c.loop-k.invariant (omega arith)
