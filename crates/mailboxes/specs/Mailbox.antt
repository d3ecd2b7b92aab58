-- The mailbox pass.
-- Assumes nothing.
use Rattle.std.specs.Prelude.{◌≡◌, Bool, false, cond, List, [], ◌∷◌, ℕ, suc, eqb}
use Rattle.std.specs.Prelude as std
use Rattle.std.proofs.Math.Option.{Option, none, some}
use Rattle.wire.specs.Outcome.{Outcome, refused, accepted, Refusal, when, decide, outcome_by}
use Rattle.wire.specs.declared.Reason.{Reason}
use Rattle.sheet.specs.Device.{Data}
use Rattle.sheet.specs.Sheet.{sheet_refusals, sheet_data}
use Rattle.sheet.specs.declared.SyncManager.{SyncManager}
use Rattle.mailboxes.specs.declared.Mailbox.{Mailbox}
use Rattle.mailboxes.specs.declared.MailboxConfig.{MailboxConfig}
use Rattle.pdo.specs.Bits.{by_coe}
use Rattle.area.specs.Area.{entries_of, flat, not_channels}
use Rattle.channels.specs.Channels.{channels_after}

-- each usage 1 is written with the receive size and each usage 2 with the send size
abbrev pub size_for : ℕ → ℕ → SyncManager → Option ℕ
size_for receive send m = cond (eqb m.usage_type 1) (some receive) (cond (eqb m.usage_type 2) (some send) none)

abbrev pub mailbox_size : Data → ℕ → SyncManager → Option ℕ
mailbox_size d k m = size_for d.receive d.send m

-- the last of a usage (address, size, number); `before` is what was recorded so far
abbrev pub later_of : ℕ → ℕ → Option Mailbox → ℕ → SyncManager → Option Mailbox
later_of usage size before k m =
    cond (eqb m.usage_type usage) (some (record { address = m.start_addr; len = record { 0 = size }; sync_manager = k })) before

unfoldable pub last_of : ℕ → ℕ → Option Mailbox → ℕ → List SyncManager → Option Mailbox
last_of usage size before k [] = before
last_of usage size before k (m ∷ ms) = last_of usage size (later_of usage size before k m) (suc k) ms

-- what the pass records: the last read and the last write mailbox, whether CoE is on, complete access
pub record Recorded : Type 0 where
  pub read : Option Mailbox
  pub write : Option Mailbox
  pub coe_on : Bool
  pub complete : Bool

-- without flag bit 0 the answer is none, none, no CoE, no complete access
abbrev pub no_mailboxes : Recorded
no_mailboxes = record { read = none; write = none; coe_on = false; complete = false }

abbrev pub recorded_of : Data → Recorded
recorded_of d = record { read = last_of 2 d.send none 0 d.managers; write = last_of 1 d.receive none 0 d.managers; coe_on = by_coe d; complete = d.complete }

abbrev pub config_of : Data → Recorded
config_of d = cond d.mailbox (recorded_of d) no_mailboxes

-- the refusals in their order, and the answer
abbrev pub mailbox_refusals : List ℕ → List ℕ → List Refusal
mailbox_refusals sheet area = when 1 (not_channels area) ∷ sheet_refusals sheet

unfoldable pub mailbox_pass : List ℕ → List ℕ → Outcome Recorded
mailbox_pass sheet area = decide (mailbox_refusals sheet area) (config_of (sheet_data sheet))

-- what the pass writes
unfoldable pub mailbox_channels : Data → List ℕ → List ℕ
mailbox_channels d area = flat (channels_after (mailbox_size d) 0 d.managers (entries_of 8 area))

-- what the area then holds: a refusal writes nothing, and neither does a pass without flag bit 0
abbrev pub mailbox_area : Outcome Recorded → Data → List ℕ → List ℕ
mailbox_area (refused n) d area = area
mailbox_area (accepted c) d area = cond d.mailbox (mailbox_channels d area) area

-- what an answer says: a mailbox, if there is one, what is recorded, and what the pass does
abbrev pub slot_of : std.Option Mailbox → Option Mailbox
slot_of std.None = none
slot_of (std.Some m) = some m

abbrev pub record_of : MailboxConfig → Recorded
record_of c = record { read = slot_of c.read; write = slot_of c.write; coe_on = c.has_coe; complete = c.complete_access }

abbrev pub mailbox_of : std.Result MailboxConfig Reason → Outcome Recorded
mailbox_of r = outcome_by record_of r

-- the promise of the pass
pub record ConfiguresMailboxes (sheet area : List ℕ) (r : std.Result MailboxConfig Reason) (after : List ℕ) : Type 0 where
  pub says : mailbox_of r ≡ mailbox_pass sheet area
  pub holds : after ≡ mailbox_area (mailbox_pass sheet area) (sheet_data sheet) area
