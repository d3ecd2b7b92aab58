-- Each public function's contract leaves one answer.
-- Assumes nothing.
use mathlib.Core.Path.{refl}
use Rattle.wire.proofs.Pins.{Pins, same_result}
use Rattle.wanted.proofs.sizes_of.Reads as sizes-of
use Rattle.wanted.proofs.wanted_of.Reads as wanted-of

pub sizes-of-pins : Pins sizes-of.Post (λ κs r s. r)
sizes-of-pins κs a x y s t p q = same_result (λ l. l) (λ l. l) (λ l. refl) p q

pub wanted-of-pins : Pins wanted-of.Post (λ κs r s. r)
wanted-of-pins κs a x y s t p q = same_result (λ w. w) (λ w. w) (λ w. refl) p q
