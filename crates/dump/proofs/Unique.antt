-- Each public function's contract leaves one answer, and one content of the room lent to it.
-- Assumes nothing.
use mathlib.Core.Path.{◌≡◌, refl}
use mathlib.Core.List.{List}
use Prim.Native.Nat.{ℕ}
use Rattle.std.specs.Prelude.{Result}
use Rattle.wire.specs.Outcome.{Outcome}
use Rattle.wire.specs.declared.Reason.{Reason}
use Rattle.wire.proofs.Pins.{Pins, with_room, same, same_result}
use Rattle.wire.proofs.Unique.{same-in-room}
use Rattle.sheet.specs.declared.Device.{Device}
use Rattle.sheet.specs.Device.{Data}
use Rattle.dump.specs.declared.Head.{Head}
use Rattle.dump.specs.Dump.{Gives}
use Rattle.dump.proofs.read.Reads as read
use Rattle.dump.proofs.write_sheet.Reads as write-sheet

-- of a call with an outcome: its number, every field of the device, the room
pub same-given : {h : Head} {o : Outcome Data} {room : List ℕ} (x y : Result Device Reason) (l m : List ℕ) → Gives h o room x l → Gives h o room y m → with_room x l ≡ with_room y m
same-given x y l m p q =
    let r : x ≡ y = same_result (λ d. d) (λ d. d) (λ d. refl) p.holds q.holds in
    λ i. (r i, same p.leaves q.leaves i)

pub read-pins : Pins read.Post (λ κs r s. with_room r s.1.1.0.now)
read-pins κs a x y s t p q = same-given x y _ _ p q

pub write-sheet-pins : Pins write-sheet.Post (λ κs r s. with_room r s.1.1.0.now)
write-sheet-pins κs a x y s t p q = same-in-room p q
