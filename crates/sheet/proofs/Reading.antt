-- What `check` says of a call that goes on after it, and of reading.
-- Assumes nothing.
use mathlib.Core.Path.{◌≡◌, sym, ◌∙◌, ap}
use mathlib.Core.List.{List, ◌++◌}
use Prim.Native.Nat.{ℕ, ◌+◌, ◌-◌}
use lib.ListN.{get_or, replicate}
use lib.Seq.{take_at}
use Rattle.std.specs.Prelude.{Result, Ok, Err}
use Rattle.wire.specs.Field.{flag_at}
use Rattle.wire.specs.Number.{big_at}
use Rattle.wire.specs.Outcome.{Outcome, refused, accepted, Refusal, first, decide, number_of}
use Rattle.wire.specs.declared.Reason.{Reason}
use Rattle.wire.specs.Lists.{list_of}
use Rattle.wire.proofs.Order.{passed, stopped}
use Rattle.wire.proofs.Lists.{length-list_of}
use Rattle.sheet.specs.declared.SyncManager.{SyncManager}
use Rattle.sheet.specs.declared.Device.{Device}
use Rattle.sheet.specs.Device.{Data, pdos_from, data_of}
use Rattle.sheet.specs.Sheet.{manager_count, usage_count, pdo_count, manager_place, usages_place, pdos_place, manager_at, no_manager}
use Rattle.sheet.specs.Sheet.{sheet_refusals, sheet_data, read_sheet, device_of, answer_of, device_after, Reads, ReadsAs}
use Rattle.sheet.proofs.Kept.{Accepts, accepted-accepts}

-- a refusal has nothing beside it, whatever the bytes
pub reads_nothing : {o : Outcome Data} {e : Reason} (s : List ℕ) → o ≡ refused (number_of e) → Reads o s (Err e)
reads_nothing s p = record { says = sym p; holds = ap (λ (x : Outcome Data). device_after x s) (sym p) }

-- what `check` promises of its answer
abbrev pub Checked : List ℕ → Result (Unit {0}) Reason → Type 0
Checked s r = answer_of {A = Unit {0}} r tt ≡ decide (sheet_refusals s) tt

-- and where it refuses, with this number
abbrev pub StoppedBy : List ℕ → ℕ → Type 0
StoppedBy s n = ◌≡◌ {A = Outcome (Unit {0})} (refused n) (decide (sheet_refusals s) tt)

module _ (s : List ℕ) where
  -- the case that a `match` found
  pub checked-case : {a b : Result (Unit {0}) Reason} → Checked s a → a ≡ b → Checked s b
  checked-case e p = sym (ap (λ (x : Result (Unit {0}) Reason). answer_of {A = Unit {0}} x tt) p) ∙ e

  -- accepted: the sheet keeps what it has to, and what follows decides
  pub checked-accepts : Checked s (Ok tt) → Accepts s
  checked-accepts e = accepted-accepts s tt tt e

  pub checked-on : {B : Type 0} (o : Outcome B) → Checked s (Ok tt) → first (sheet_refusals s) o ≡ o
  checked-on o e = passed (sheet_refusals s) tt tt o e

  pub checked-more : {B : Type 0} (more : List Refusal) (x : B) → Checked s (Ok tt) → decide (sheet_refusals s ++ more) x ≡ decide more x
  checked-more more x e = checked-on (decide more x) e

  -- refused: so is whatever follows
  pub checked-stop : {B : Type 0} {n : ℕ} (o : Outcome B) → StoppedBy s n → first (sheet_refusals s) o ≡ refused n
  checked-stop {B} {n} o e = sym (stopped (sheet_refusals s) tt n o e)

  pub checked-whole : {B : Type 0} {n : ℕ} (more : List Refusal) (x : B) → StoppedBy s n → decide (sheet_refusals s ++ more) x ≡ refused n
  checked-whole more x e = checked-stop (decide more x) e

  -- the record that code holds says what the sheet says
  pub device-data : data_of (device_of s) s ≡ sheet_data s
  unfolding data_of device_of sheet_data
  device-data =
      let n = manager_count s in
      let f = usage_count s in
      let m : ℕ → SyncManager = λ k. manager_at s (manager_place k) in
      let u : ℕ → ℕ = λ k. get_or s (usages_place s + k) 0 in
      λ i.
      record {
        mailbox = flag_at (get_or s 3 0) 0;
        coe_protocol = flag_at (get_or s 3 0) 1;
        complete = flag_at (get_or s 3 0) 2;
        receive = big_at s 4 2;
        send = big_at s 6 2;
        managers = take_at (list_of m n) (replicate (16 - n) no_manager) n (length-list_of m n) i;
        usages = take_at (list_of u f) (replicate (16 - f) 0) f (length-list_of u f) i;
        pdos = pdos_from s (pdo_count s) (pdos_place s);
      }

  -- reading, after a refusal
  pub reads-refused : {r : Reason} → Checked s (Err r) → ReadsAs s (Err r)
  unfolding read_sheet
  reads-refused e = reads_nothing s (checked-stop (accepted (sheet_data s)) e)

  -- and of a sheet that keeps the rules
  pub reads-device : {d : Device} → Checked s (Ok tt) → d ≡ device_of s → ReadsAs s (Ok d)
  unfolding read_sheet
  reads-device {d} e p =
      let o : read_sheet s ≡ accepted (sheet_data s) = checked-on (accepted (sheet_data s)) e in
      record {
        says = ap (λ (x : Device). accepted (data_of x s)) p ∙ ap accepted device-data ∙ sym o;
        holds = ap accepted p ∙ ap (λ (x : Outcome Data). device_after x s) (sym o);
      }
