-- Each public function's contract leaves one answer, and one content of the room lent to it.
-- Assumes nothing.
use mathlib.Core.Path.{refl}
use Rattle.wire.specs.Text.{page_of}
use Rattle.wire.proofs.Pins.{Pins, with_room, same, same_result}
use Rattle.wire.proofs.Unique.{same-in-room}
use Rattle.fmmu.proofs.Fmmu.unpack.Reads as unpack
use Rattle.fmmu.proofs.Fmmu.unpack_from_slice.Reads as unpack-from-slice
use Rattle.fmmu.proofs.Fmmu.pack.Reads as pack
use Rattle.fmmu.proofs.Fmmu.pack_to_slice.Reads as pack-to-slice
use Rattle.fmmu.proofs.Fmmu.fmt.Reads as fmt
use Rattle.fmmu.proofs.Fmmu.put.Reads as put

pub unpack-pins : Pins unpack.Post (λ κs r s. r)
unpack-pins κs a x y s t p q = same p q

pub unpack-from-slice-pins : Pins unpack-from-slice.Post (λ κs r s. r)
unpack-from-slice-pins κs a x y s t p q = same_result (λ f. f) (λ f. f) (λ f. refl) p q

pub pack-pins : Pins pack.Post (λ κs r s. r)
pack-pins κs a x y s t p q = same p q

pub pack-to-slice-pins : Pins pack-to-slice.Post (λ κs r s. with_room r s.1.0.now)
pack-to-slice-pins κs a x y s t p q = same-in-room p q

pub fmt-pins : Pins fmt.Post (λ κs r s. with_room r s.1.0.now)
fmt-pins κs a x y s t p q = same-in-room p q

pub put-pins : Pins put.Post (λ κs r s. page_of s.1.0.now)
put-pins κs a x y s t p q = same p.types.is q.types.is
