-- Each public function's contract leaves one answer, and one content of the room lent to it.
-- Assumes nothing.
use mathlib.Core.Path.{refl}
use Rattle.wire.specs.Text.{page_of}
use Rattle.wire.proofs.Pins.{Pins, with_room, same, same_result}
use Rattle.wire.proofs.Unique.{same-in-room}
use Rattle.pdi.proofs.BitLen.round_up.Reads as round_up
use Rattle.pdi.proofs.PdiOffset.increment.Reads as increment
use Rattle.pdi.proofs.PdiOffset.increment_byte_aligned.Reads as increment-byte-aligned
use Rattle.pdi.proofs.PdiOffset.at.Reads as at_exact
use Rattle.pdi.proofs.PdiOffset.up_to.Reads as up-to
use Rattle.pdi.proofs.PdiSegment.len.Reads as len
use Rattle.pdi.proofs.PdiSegment.less.Reads as less
use Rattle.pdi.proofs.PdiSegment.fmt.Reads as fmt
use Rattle.pdi.proofs.PdiSegment.put.Reads as put

pub round-up-pins : Pins round_up.Post (λ κs r s. r)
round-up-pins κs a x y s t p q = same_result (λ b. b.0) (λ n. record { 0 = n }) (λ b. refl) p q

pub increment-pins : Pins increment.Post (λ κs r s. r)
increment-pins κs a x y s t p q = same_result (λ o. o.start_address) (λ n. record { start_address = n }) (λ o. refl) p q

pub increment-byte-aligned-pins : Pins increment-byte-aligned.Post (λ κs r s. r)
increment-byte-aligned-pins κs a x y s t p q = same_result (λ o. o.start_address) (λ n. record { start_address = n }) (λ o. refl) p q

pub at-pins : Pins at_exact.Post (λ κs r s. r)
at-pins κs a x y s t p q = same_result (λ o. o.start_address) (λ n. record { start_address = n }) (λ o. refl) p q

pub up-to-pins : Pins up-to.Post (λ κs r s. r)
up-to-pins κs a x y s t p q = same p q

pub len-pins : Pins len.Post (λ κs r s. r)
len-pins κs a x y s t p q = same p q

pub less-pins : Pins less.Post (λ κs r s. r)
less-pins κs a x y s t p q = same_result (λ s. s) (λ s. s) (λ s. refl) p q

pub fmt-pins : Pins fmt.Post (λ κs r s. with_room r s.1.0.now)
fmt-pins κs a x y s t p q = same-in-room p q

pub put-pins : Pins put.Post (λ κs r s. page_of s.1.0.now)
put-pins κs a x y s t p q = same p.types.is q.types.is
