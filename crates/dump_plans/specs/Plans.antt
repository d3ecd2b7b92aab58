-- Planning a dump is planning its sheet (document 02, 5/13): any sheet that reads as what a dump gave, typed by hand or written from it, is planned and
-- counted through as the one that is written from it.
-- Assumes nothing.
use Rattle.std.specs.Prelude.{◌≡◌, List, ℕ, Result, Ok}
use Rattle.wire.specs.Outcome.{accepted}
use Rattle.wire.specs.declared.Reason.{Reason}
use Rattle.sheet.specs.declared.Device.{Device}
use Rattle.sheet.specs.Sheet.{sheet_data, read_sheet}
use Rattle.pdo.specs.declared.PdoDirection.{PdoDirection}
use Rattle.pdo.specs.declared.Oversampling.{Oversampling}
use Rattle.pdo.specs.Bits.{multipliers_of}
use Rattle.mailboxes.specs.declared.MailboxConfig.{MailboxConfig}
use Rattle.mailboxes.specs.Mailbox.{ConfiguresMailboxes}
use Rattle.passes.specs.declared.FmmuPair.{FmmuPair}
use Rattle.passes.specs.declared.Settings.{Settings}
use Rattle.passes.specs.Start.{Offsets, Segments}
use Rattle.passes.specs.Use.{chosen_by}
use Rattle.passes.specs.Call.{Calls}
use Rattle.counting.specs.Count.{count}
use Rattle.report.specs.Plan.{Areas, report_text}
use Rattle.dump.specs.Calls.{Call, given, sheet_from}

-- what the mailbox pass and the call with any table and pairs promise for a sheet, what counting answers, and what `lockerplan` prints, they do for the other;
-- and both hold the same data
pub record PlannedAlike (s t : List ℕ) : Type 0 where
  pub holding : sheet_data s ≡ sheet_data t
  pub mailboxes : (area : List ℕ) (r : Result MailboxConfig Reason) (after : List ℕ) → ConfiguresMailboxes s area r after → ConfiguresMailboxes t area r after
  pub calls :
      (table : List Oversampling) (pairs : List FmmuPair) (o : Offsets) (settings : Settings) (fmmus channels : List ℕ)
      (answer : Segments) (offsets_then : Offsets) (fmmus_then channels_then : List ℕ)
      → Calls s (multipliers_of table (sheet_data s).pdos) (chosen_by settings.mode pairs) o settings fmmus channels answer offsets_then fmmus_then channels_then
      → Calls t (multipliers_of table (sheet_data t).pdos) (chosen_by settings.mode pairs) o settings fmmus channels answer offsets_then fmmus_then channels_then
  pub counting :
      (table : List Oversampling) (r : PdoDirection) (a offset : ℕ)
      → count r a s (multipliers_of table (sheet_data s).pdos) offset ≡ count r a t (multipliers_of table (sheet_data t).pdos) offset
  pub text : (areas : Areas) → report_text s areas ≡ report_text t areas

-- so of every call of `dump::read` that accepts
abbrev pub PlanningADump : Type 0
PlanningADump =
    (c : Call) (d : Device) (t : List ℕ) → c.read ≡ Ok d → read_sheet t ≡ accepted (given c d)
    → PlannedAlike t (sheet_from c d) × PlannedAlike (sheet_from c d) t
