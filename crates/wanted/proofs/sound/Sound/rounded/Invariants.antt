-- `wanted::sound::Sound::rounded`: after k turns k sizes stand there, and none of them is too wide.
-- Assumes nothing.
use Rattle.wanted.proofs.Sized.{Rounding}
use Rattle.wanted.proofs.sound.Sound.rounded.Given as goal

abbrev pub invariant-loop-k : goal.invariant-loop-k
invariant-loop-k l = Rounding l.bits l.sizes l.k
