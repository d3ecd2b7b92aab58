-- Each public function's contract leaves one answer.
-- Assumes nothing.
use Rattle.wire.proofs.Pins.{Pins, same}
use Rattle.passes.proofs.Chosen.none.Reads as none
use Rattle.passes.proofs.Settings.clean.Reads as clean

pub none-pins : Pins none.Post (λ κs r s. r)
none-pins κs a x y s t p q = same p q

pub clean-pins : Pins clean.Post (λ κs r s. r)
clean-pins κs a x y s t p q = same p q
