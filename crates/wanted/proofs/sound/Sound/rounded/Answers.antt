-- `wanted::sound::Sound::rounded`: after k turns k sizes stand there, and none of them is too wide.
-- Assumes nothing.
use native.Mathlib.Omega.{arith}
use Rattle.std.proofs.lemmas.Result.{err_from_is_err_and}
use Rattle.grammar.specs.Grammar.{manager_count}
use Rattle.wanted.proofs.Sized.{rounding-start, rounding-turn, rounding-refused}
use Rattle.wanted.proofs.sound.Sound.rounded.Goals as goal

pub loop-k-init : goal.loop-k-init
loop-k-init c = rounding-start _

pub returns-in_err-sizes : goal.returns-in_err-sizes
returns-in_err-sizes c =
    let p = err_from_is_err_and c.from_residual.result c.from_residual.ensures.1 in
    rw (p.1, p.2) (rounding-refused c.args.bits (manager_count c.args.self.now.bytes.now) c.loop-k.k _ (omega arith) c.in_err-sizes.ensures)

pub loop-k-preserved : goal.loop-k-preserved
loop-k-preserved c =
    let l = c.loop-k in
    rounding-turn c.args.bits l.sizes l.k c.in_ok-sizes.field-0 (omega arith) (c.in_ok-sizes.ensures) l.invariant
