-- The mailbox pass: what each way through the call answers.
-- Assumes nothing.
use mathlib.Core.Path.{◌≡◌, sym, ◌∙◌, ap}
use mathlib.Core.Bool.{Bool, true, false, cond}
use mathlib.Core.List.{List}
use Prim.Native.Nat.{ℕ}
use lib.ListN.{length}
use borrow.Author.Tests.{eq-eqb, ne_eqb}
use Rattle.std.specs.Prelude.{Ok, Err, None}
use Rattle.wire.specs.Outcome.{Outcome, refused, accepted, first, number_of}
use Rattle.wire.specs.declared.Reason.{Reason}
use Rattle.wire.specs.declared.Reason.TheVariants.{AreaLength}
use Rattle.sheet.specs.Sheet.{sheet_refusals, sheet_data}
use Rattle.channels.specs.Channels.{channels_after, channel_area}
use Rattle.channels.proofs.After.{area-whole}
use Rattle.mailboxes.specs.declared.MailboxConfig.{MailboxConfig}
use Rattle.mailboxes.specs.Mailbox.{Recorded, mailbox_size, recorded_of, record_of, config_of, no_mailboxes, mailbox_pass, mailbox_channels, mailbox_area, ConfiguresMailboxes}

-- what code records where there is nothing
abbrev none_recorded : MailboxConfig
none_recorded = record { read = None; write = None; has_coe = false; complete_access = false }

-- a refused call: the area stays
refused-call : (s area : List ℕ) (r : Reason) → refused (number_of r) ≡ mailbox_pass s area → ConfiguresMailboxes s area (Err r) area
refused-call s area r e = record { says = e; holds = ap (λ (o : Outcome Recorded). mailbox_area o (sheet_data s) area) e }

pub wrong-area : (s area : List ℕ) → (length area ≡ 128 → ⊥) → ConfiguresMailboxes s area (Err AreaLength) area
unfolding mailbox_pass
wrong-area s area h = refused-call s area AreaLength (rw (ne_eqb (length area) 128 h))

-- an area of 128 bytes leaves the sheet's refusals
module _ (s area : List ℕ) (long : length area ≡ 128) where
  sheet-left : first (sheet_refusals s) (accepted (config_of (sheet_data s))) ≡ mailbox_pass s area
  unfolding mailbox_pass
  sheet-left = rw (eq-eqb (length area) 128 long)

  pub wrong-sheet : (r : Reason) → first (sheet_refusals s) (accepted (config_of (sheet_data s))) ≡ refused (number_of r) → ConfiguresMailboxes s area (Err r) area
  wrong-sheet r e = refused-call s area r (sym e ∙ sheet-left)

  -- a sheet that keeps every rule
  module _ (kept : first (sheet_refusals s) (accepted (config_of (sheet_data s))) ≡ accepted (config_of (sheet_data s))) where
    accepted-call :
        (c : MailboxConfig) (after : List ℕ) → record_of c ≡ config_of (sheet_data s) → after ≡ cond (sheet_data s).mailbox (mailbox_channels (sheet_data s) area) area
        → ConfiguresMailboxes s area (Ok c) after
    accepted-call c after e w =
        let says : accepted (config_of (sheet_data s)) ≡ mailbox_pass s area = sym kept ∙ sheet-left in
        record { says = ap accepted e ∙ says; holds = w ∙ ap (λ (o : Outcome Recorded). mailbox_area o (sheet_data s) area) says }

    pub without-mailboxes : (sheet_data s).mailbox ≡ false → ConfiguresMailboxes s area (Ok none_recorded) area
    without-mailboxes h =
        let d = sheet_data s in
        accepted-call none_recorded area (sym (ap (λ (b : Bool). cond b (recorded_of d) no_mailboxes) h)) (sym (ap (λ (b : Bool). cond b (mailbox_channels d area) area) h))

    pub with-mailboxes :
        (c : MailboxConfig) (after : List ℕ) → (sheet_data s).mailbox ≡ true → record_of c ≡ recorded_of (sheet_data s)
        → after ≡ channel_area (channels_after (mailbox_size (sheet_data s)) 0 (sheet_data s).managers) area → ConfiguresMailboxes s area (Ok c) after
    unfolding mailbox_channels
    with-mailboxes c after h e w =
        let d = sheet_data s in
        accepted-call c after (e ∙ sym (ap (λ (b : Bool). cond b (recorded_of d) no_mailboxes) h))
        (w ∙ area-whole (channels_after (mailbox_size d) 0 d.managers) area long ∙ sym (ap (λ (b : Bool). cond b (mailbox_channels d area) area) h))
