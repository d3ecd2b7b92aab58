-- The contract of `write` leaves one answer, and one content of the room lent to it.
-- Assumes nothing.
use Rattle.wire.proofs.Pins.{Pins, with_room}
use Rattle.wire.proofs.Unique.{same-in-room}
use Rattle.writer.proofs.write.Reads as write

pub write-pins : Pins write.Post (λ κs r s. with_room r s.1.1.0.now)
write-pins κs a x y s t p q = same-in-room p q
