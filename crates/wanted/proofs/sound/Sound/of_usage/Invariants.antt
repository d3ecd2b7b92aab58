-- `wanted::sound::Sound::of_usage`: what is picked so far, and nothing yet of the numbers ahead.
-- Assumes nothing.
use Rattle.wanted.proofs.Apart.{Picked}
use Rattle.wanted.proofs.sound.Sound.of_usage.Given as goal

abbrev pub invariant-loop-k : goal.invariant-loop-k
invariant-loop-k l = Picked l.self.bytes.now l.usage l.bits l.out l.k
