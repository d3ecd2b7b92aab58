-- The mailbox pass's contract leaves one answer, and one content of the area lent to it.
-- Assumes nothing.
use Rattle.std.proofs.Common.{◌≡◌, refl}
use Rattle.std.specs.Prelude as std
use Rattle.std.proofs.Math.Option.{Option, none, some}
use Rattle.wire.proofs.Pins.{Pins, with_room, same, same_result}
use Rattle.mailboxes.specs.Mailbox.{Recorded, slot_of, record_of}
use Rattle.mailboxes.specs.declared.Mailbox.{Mailbox}
use Rattle.mailboxes.specs.declared.MailboxConfig.{MailboxConfig}
use Rattle.mailboxes.proofs.configure_mailboxes.Reads as configure-mailboxes

-- what it says determines a mailbox, and all that is recorded
abbrev slot_back : Option Mailbox → std.Option Mailbox
slot_back none = std.None
slot_back (some m) = std.Some m

slot-determined : (x : std.Option Mailbox) → slot_back (slot_of x) ≡ x
slot-determined std.None = refl
slot-determined (std.Some m) = refl

abbrev config_back : Recorded → MailboxConfig
config_back r = record { read = slot_back r.read; write = slot_back r.write; has_coe = r.coe_on; complete_access = r.complete }

config-determined : (c : MailboxConfig) → config_back (record_of c) ≡ c
config-determined c =
    λ i. record { read = slot-determined c.read i; write = slot-determined c.write i; has_coe = c.has_coe; complete_access = c.complete_access }

pub configure-mailboxes-pins : Pins configure-mailboxes.Post (λ κs r s. with_room r s.1.0.now)
configure-mailboxes-pins κs a x y s t p q =
    let r : x ≡ y = same_result record_of config_back config-determined p.says q.says in
    λ i. (r i, same p.holds q.holds i)
