-- `wanted::sound::Sound::first_with`: the places passed, and the first place among the rest, are the first place.
-- Assumes nothing.
use mathlib.Core.Path.{◌∙◌}
use native.Mathlib.Omega.{arith}
use Rattle.wanted.proofs.Managers.{first-here, first-not-here, first-nowhere, first-some, first-none}
use Rattle.wanted.proofs.sound.Sound.first_with.Goals as goal

pub returns-then-byte_at-usage : goal.returns-then-byte_at-usage
returns-then-byte_at-usage c =
    let l = c.loop-k in
    let a = c.args in
    first-some a.self.now.bytes.now a.usage l.k (omega arith)
    (first-here a.self.now.bytes.now a.usage l.k c.byte_at.result _ (omega arith) (omega arith) c.byte_at.ensures c.if-byte_at-usage.true ∙ l.invariant)

pub loop-k-preserved : goal.loop-k-preserved
loop-k-preserved c =
    let l = c.loop-k in
    let a = c.args in
    first-not-here a.self.now.bytes.now a.usage l.k c.byte_at.result _ (omega arith) (omega arith) c.byte_at.ensures c.if-byte_at-usage.false ∙ l.invariant

pub returns : goal.returns
returns c =
    let l = c.loop-k in
    let a = c.args in
    first-none a.self.now.bytes.now a.usage l.k (omega arith) (first-nowhere a.self.now.bytes.now a.usage l.k (omega arith) ∙ l.invariant)
