-- `wanted::sound::Sound::some_size`: no size of the usage so far is above 0.
-- Assumes nothing.
use mathlib.Core.Path.{◌≡◌, sym, ◌∙◌, ap}
use native.Mathlib.Omega.{arith}
use Rattle.channels.specs.Channels.{size_at}
use Rattle.wanted.proofs.Sized.{no-size-start, size-here, size-empty, size-other, size-nowhere}
use Rattle.wanted.proofs.sound.Sound.some_size.Goals as goal
use Rattle.wanted.proofs.sound.Sound.some_size.Goals.{else-usage_of-usage-via-then-usage_of-usage+else-sizes-from-gt0, else-usage_of-usage-via-else-usage_of-usage}

pub loop-k-init : goal.loop-k-init
loop-k-init c = no-size-start c.args.self.now.bytes.now c.args.usage c.args.sizes

pub returns-then-sizes-from-gt0 : goal.returns-then-sizes-from-gt0
returns-then-sizes-from-gt0 c =
    let a = c.args in
    let k : c.from.result ≡ c.loop-k.k = omega arith in
    let at : size_at a.sizes c.from.result ≡ size_at a.sizes c.loop-k.k = ap (size_at a.sizes) k in
    size-here a.self.now.bytes.now a.usage a.sizes c.loop-k.k (omega arith) (sym c.usage_of.ensures ∙ c.if-usage_of-usage.true) (omega arith)

pub loop-k-preserved : goal.loop-k-preserved
loop-k-preserved c =
    let l = c.loop-k in
    let a = c.args in
    elim c.else-usage_of-usage.branch [
      | else-usage_of-usage-via-then-usage_of-usage+else-sizes-from-gt0 w ↦
          let k : w.from.result ≡ l.k = omega arith in
          let at : size_at a.sizes w.from.result ≡ size_at a.sizes l.k = ap (size_at a.sizes) k in
          size-empty a.self.now.bytes.now a.usage a.sizes l.k l.invariant (omega arith)
      | else-usage_of-usage-via-else-usage_of-usage w ↦ size-other a.self.now.bytes.now a.usage a.sizes l.k (omega arith) l.invariant (λ e. w.if-usage_of-usage.false (c.usage_of.ensures ∙ e))
    ]

pub returns : goal.returns
returns c = size-nowhere c.args.self.now.bytes.now c.args.usage c.args.sizes c.loop-k.k (omega arith) c.loop-k.invariant
