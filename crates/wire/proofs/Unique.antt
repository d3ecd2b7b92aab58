-- Each public function's contract leaves one answer, and one content of the room lent to it.
-- Assumes nothing.
use mathlib.Core.Path.{◌≡◌, refl}
use mathlib.Core.List.{List}
use Prim.Native.Nat.{ℕ}
use Rattle.std.proofs.Common.{Fits, w64}
use Rattle.std.specs.Prelude.{Result}
use Rattle.wire.specs.Outcome.{Outcome}
use Rattle.wire.specs.Room.{InRoom}
use Rattle.wire.specs.Text.{page_of}
use Rattle.wire.specs.declared.Reason.{Reason}
use Rattle.wire.proofs.Pins.{Pins, with_room, same, same_result}
use Rattle.wire.proofs.flag.Reads as flag
use Rattle.wire.proofs.Reason.number.Reads as number
use Rattle.wire.proofs.byte_at.Reads as byte_at
use Rattle.wire.proofs.front.Reads as front
use Rattle.wire.proofs.behind.Reads as behind
use Rattle.wire.proofs.le16.Reads as le16
use Rattle.wire.proofs.be16.Reads as be16
use Rattle.wire.proofs.copy.Reads as copy
use Rattle.wire.proofs.image_in.Reads as image-in
use Rattle.wire.proofs.write_image.Reads as write-image
use Rattle.wire.proofs.write_text.Reads as write-text
use Rattle.wire.proofs.Text.new.Reads as new-text
use Rattle.wire.proofs.Text.write.Reads as write
use Rattle.wire.proofs.Text.put_byte.Reads as put_byte
use Rattle.wire.proofs.Text.put_bytes.Reads as put-bytes
use Rattle.wire.proofs.Text.put_hex4.Reads as put-hex4
use Rattle.wire.proofs.Text.put_hex8.Reads as put-hex8
use Rattle.wire.proofs.Text.put_decimal.Reads as put-decimal
use Rattle.wire.proofs.Text.put_either.Reads as put-either

-- every answer into lent room, here and in the crates above
pub same-in-room : {o : Outcome ℕ} {text room : List ℕ} {x y : Result ℕ Reason} {l m : List ℕ} → InRoom o text room x l → InRoom o text room y m → with_room x l ≡ with_room y m
same-in-room {o} {text} {room} {x} {y} p q =
    let r : x ≡ y = same_result (λ n. n) (λ n. n) (λ n. refl) p.says q.says in
    λ i. (r i, same p.holds q.holds i)

pub number-pins : Pins number.Post (λ κs r s. r)
number-pins κs a x y s t p q = same p q

pub flag-pins : Pins flag.Post (λ κs r s. r)
flag-pins κs a x y s t p q = same p q

pub byte-at-pins : Pins byte_at.Post (λ κs r s. r)
byte-at-pins κs a x y s t p q = same p q

pub front-pins : Pins front.Post (λ κs r s. r.now)
front-pins κs a x y s t p q = same p q

pub behind-pins : Pins behind.Post (λ κs r s. r.now)
behind-pins κs a x y s t p q = same p q

pub le16-pins : Pins le16.Post (λ κs r s. r)
le16-pins κs a x y s t p q = same p q

pub be16-pins : Pins be16.Post (λ κs r s. r)
be16-pins κs a x y s t p q = same p q

pub copy-pins : Pins copy.Post (λ κs r s. s.1.0.now)
copy-pins κs a x y s t p q = same p q

pub image-in-pins : (n : ℕ) (fits : Fits w64 n) → Pins (image-in.Post n fits) (λ κs r s. r)
image-in-pins n fits κs a x y s t p q = same_result (λ image. image) (λ image. image) (λ image. refl) p q

pub write-image-pins : (n : ℕ) (fits : Fits w64 n) → Pins (write-image.Post n fits) (λ κs r s. with_room r s.1.1.0.now)
write-image-pins n fits κs a x y s t p q = same-in-room p q

pub write-text-pins : Pins write-text.Post (λ κs r s. with_room r s.1.0.now)
write-text-pins κs a x y s t p q = same-in-room p q

pub new-pins : Pins new-text.Post (λ κs r s. page_of r)
new-pins κs a x y s t p q = same p.1 q.1

pub write-pins : Pins write.Post (λ κs r s. with_room r s.1.0.now)
write-pins κs a x y s t p q = same-in-room p q

pub put-byte-pins : Pins put_byte.Post (λ κs r s. page_of s.0.now)
put-byte-pins κs a x y s t p q = same p.types.is q.types.is

pub put-bytes-pins : Pins put-bytes.Post (λ κs r s. page_of s.0.now)
put-bytes-pins κs a x y s t p q = same p.types.is q.types.is

pub put-hex4-pins : Pins put-hex4.Post (λ κs r s. page_of s.0.now)
put-hex4-pins κs a x y s t p q = same p.types.is q.types.is

pub put-hex8-pins : Pins put-hex8.Post (λ κs r s. page_of s.0.now)
put-hex8-pins κs a x y s t p q = same p.types.is q.types.is

pub put-decimal-pins : Pins put-decimal.Post (λ κs r s. page_of s.0.now)
put-decimal-pins κs a x y s t p q = same p.types.is q.types.is

pub put-either-pins : Pins put-either.Post (λ κs r s. page_of s.0.now)
put-either-pins κs a x y s t p q = same p.types.is q.types.is
