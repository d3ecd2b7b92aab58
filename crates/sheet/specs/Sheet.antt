-- Reading the device sheet (document 01, 'The device sheet'), big-endian: from bytes to device data or a refusal.
-- Assumes nothing.
use Rattle.std.specs.Prelude.{◌≡◌, Bool, false, List, [], ◌∷◌, ◌++◌, ℕ, ◌+◌, ◌-◌, get_or, take, replicate, Result}
use Rattle.wire.specs.Outcome.{Outcome, refused, accepted, Refusal, when, decide, outcome_by}
use Rattle.wire.specs.declared.Reason.{Reason}
use Rattle.wire.specs.Field.{flag_at}
use Rattle.wire.specs.Number.{big_at}
use Rattle.channel_bytes.specs.Bytes.{control_at, unnamed}
use Rattle.wire.specs.Lists.{list_of, some_of}
pub use Rattle.grammar.specs.Grammar.{manager_count, usage_count, pdo_count, manager_place, usages_place, pdos_place, wrong_version}
unfoldable pub use Rattle.grammar.specs.Length.{wrong_length}
unfoldable pub use Rattle.grammar.specs.Grammar.{kind_fits, pdos_fit, some_manager_wrong, some_usage_wrong, broken}
use Rattle.sheet.specs.Device.{Data, pdos_from, data_of}
use Rattle.sheet.specs.declared.SyncManager.{SyncManager}
use Rattle.sheet.specs.declared.Device.{Device}

-- a sync manager: start address (2), control, EEPROM enable (bit 0 is ENABLE, others ignored), usage
abbrev pub manager_at : List ℕ → ℕ → SyncManager
manager_at s at =
    record {
      start_addr = big_at s at 2;
      control = control_at (get_or s (at + 2) 0);
      enable = flag_at (get_or s (at + 3) 0) 0;
      usage_type = get_or s (at + 4) 0;
    }

-- 3: flags: bit 0 has a mailbox, bit 1 CoE among the protocols, bit 2 complete access; 4-5 receive size; 6-7 send size
unfoldable pub sheet_data : List ℕ → Data
sheet_data s =
    record {
      mailbox = flag_at (get_or s 3 0) 0;
      coe_protocol = flag_at (get_or s 3 0) 1;
      complete = flag_at (get_or s 3 0) 2;
      receive = big_at s 4 2;
      send = big_at s 6 2;
      managers = list_of (λ k. manager_at s (manager_place k)) (manager_count s);
      usages = list_of (λ k. get_or s (usages_place s + k) 0) (usage_count s);
      pdos = pdos_from s (pdo_count s) (pdos_place s);
    }

-- 5: any control, wanted or not, has an unnamed mode or direction
unfoldable pub some_unnamed : List SyncManager → Bool
some_unnamed ms = some_of (λ m. unnamed m.control) ms

-- the refusals in their order
abbrev pub sheet_refusals : List ℕ → List Refusal
sheet_refusals s = when 2 (wrong_length s) ∷ when 3 (wrong_version s) ∷ when 4 (broken s) ∷ when 5 (some_unnamed (sheet_data s).managers) ∷ []

-- the sync managers that code looks at: sixteen at most, and an accepted sheet has no more
abbrev pub managers_in : List ℕ → List SyncManager
managers_in s = take 16 (sheet_data s).managers

-- every list of bytes has exactly one answer
unfoldable pub read_sheet : List ℕ → Outcome Data
read_sheet s = decide (sheet_refusals s) (sheet_data s)

-- the same in the form that code holds it: places that are not used hold nothing
abbrev pub no_manager : SyncManager
no_manager = record { start_addr = 0; control = control_at 0; enable = false; usage_type = 0 }

abbrev pub managers_of : List ℕ → ℕ → List SyncManager
managers_of s n = list_of (λ k. manager_at s (manager_place k)) n ++ replicate (16 - n) no_manager

abbrev pub usages_of : List ℕ → ℕ → ℕ → List ℕ
usages_of s at f = list_of (λ k. get_or s (at + k) 0) f ++ replicate (16 - f) 0

unfoldable pub device_of : List ℕ → Device
device_of s =
    record {
      has_mailbox = flag_at (get_or s 3 0) 0;
      coe_protocol = flag_at (get_or s 3 0) 1;
      complete_access = flag_at (get_or s 3 0) 2;
      receive_size = record { 0 = big_at s 4 2 };
      send_size = record { 0 = big_at s 6 2 };
      managers = managers_of s (manager_count s);
      n = manager_count s;
      usages = usages_of s (usages_place s) (usage_count s);
      f = usage_count s;
      pdos = pdos_place s;
      p = pdo_count s;
    }

-- what checking says, beside a value
abbrev pub answer_of : {A : Type 0} → Result (Unit {0}) Reason → A → Outcome A
answer_of r x = outcome_by (λ u. x) r

-- what reading says: the record that code holds, or a refusal with nothing beside it
abbrev pub sheet_read_of : Result Device Reason → Outcome Device
sheet_read_of r = outcome_by (λ d. d) r

-- the same of a call with this outcome that reads these bytes
abbrev pub device_after : Outcome Data → List ℕ → Outcome Device
device_after (refused n) s = refused n
device_after (accepted d) s = accepted (device_of s)

-- the promise of a call with this outcome that reads these bytes: what its record says by them, and the record
pub record Reads (outcome : Outcome Data) (s : List ℕ) (r : Result Device Reason) : Type 0 where
  pub says : outcome_by (λ d. data_of d s) r ≡ outcome
  pub holds : sheet_read_of r ≡ device_after outcome s

-- the promise of reading: the grammar's answer
abbrev pub ReadsAs : List ℕ → Result Device Reason → Type 0
ReadsAs s r = Reads (read_sheet s) s r
