-- `wanted::sound::Sound::checked`: what an accepted sheet keeps.
-- Assumes nothing.
use native.Mathlib.Omega.{arith}
use Rattle.sheet.proofs.Reading.{checked-accepts}
use Rattle.wanted.proofs.sound.Sound.checked.Goals as goal

pub invariant_of-result : goal.invariant_of-result
invariant_of-result c =
    let k = checked-accepts c.args.sheet.now c.in_ok-check.ensures in
    record { short = k.high; whole = k.whole; few = k.managers; places = omega (arith, k.places) }
