-- Each public function's contract leaves one answer.
-- Assumes nothing.
use mathlib.Core.Path.{◌≡◌, refl}
use mathlib.Core.List.{List}
use Prim.Native.Nat.{ℕ}
use Rattle.std.specs.Prelude.{Result}
use Rattle.wire.specs.Outcome.{Outcome}
use Rattle.wire.specs.declared.Reason.{Reason}
use Rattle.wire.proofs.Pins.{Pins, same, same_result}
use Rattle.sheet.specs.declared.Device.{Device}
use Rattle.sheet.specs.Device.{Data}
use Rattle.sheet.specs.Sheet.{Reads}
use Rattle.sheet.proofs.check.Reads as check
use Rattle.sheet.proofs.has_mailbox.Reads as has-mailbox
use Rattle.sheet.proofs.coe_protocol.Reads as coe-protocol
use Rattle.sheet.proofs.complete_access.Reads as complete-access
use Rattle.sheet.proofs.receive_size.Reads as receive-size
use Rattle.sheet.proofs.send_size.Reads as send-size
use Rattle.sheet.proofs.front_count.Reads as front-count
use Rattle.sheet.proofs.usage_of.Reads as usage-of
use Rattle.sheet.proofs.start_of.Reads as start-of
use Rattle.sheet.proofs.manager.Reads as manager
use Rattle.sheet.proofs.read.Reads as read

pub check-pins : Pins check.Post (λ κs r s. r)
check-pins κs a x y s t p q = same_result (λ u. tt) (λ u. tt) (λ u. refl) p q

pub has-mailbox-pins : Pins has-mailbox.Post (λ κs r s. r)
has-mailbox-pins κs a x y s t p q = same p q

pub coe-protocol-pins : Pins coe-protocol.Post (λ κs r s. r)
coe-protocol-pins κs a x y s t p q = same p q

pub complete-access-pins : Pins complete-access.Post (λ κs r s. r)
complete-access-pins κs a x y s t p q = same p q

pub receive-size-pins : Pins receive-size.Post (λ κs r s. r)
receive-size-pins κs a x y s t p q = λ i. record { 0 = same p q i }

pub send-size-pins : Pins send-size.Post (λ κs r s. r)
send-size-pins κs a x y s t p q = λ i. record { 0 = same p q i }

pub usage-of-pins : Pins usage-of.Post (λ κs r s. r)
usage-of-pins κs a x y s t p q = same p q

pub start-of-pins : Pins start-of.Post (λ κs r s. r)
start-of-pins κs a x y s t p q = same p q

pub manager-pins : Pins manager.Post (λ κs r s. r)
manager-pins κs a x y s t p q = same p q

-- of reading: its number, and every field of the device
pub same_read : {o : Outcome Data} (s : List ℕ) (x y : Result Device Reason) → Reads o s x → Reads o s y → x ≡ y
same_read s x y p q = same_result (λ d. d) (λ d. d) (λ d. refl) p.holds q.holds

pub read-pins : Pins read.Post (λ κs r s. r)
read-pins κs a x y s t p q = same_read _ x y p q

pub front-count-pins : Pins front-count.Post (λ κs r s. r)
front-count-pins κs a x y s t p q = same p q
