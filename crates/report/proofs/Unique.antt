-- The public function's contract leaves one answer, and one content of the room lent to it.
-- Assumes nothing.
use Rattle.wire.proofs.Pins.{Pins, with_room}
use Rattle.wire.proofs.Unique.{same-in-room}
use Rattle.report.proofs.report.Reads as report

pub report-pins : Pins report.Post (λ κs r s. with_room r s.1.1.1.0.now)
report-pins κs a x y s t p q = same-in-room p q
