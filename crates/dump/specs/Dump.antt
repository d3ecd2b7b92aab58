-- Reading a dump (document 02, 5/13): device data of the EEPROM path from its categories and what the caller gives, or a refusal.
-- Assumes nothing.
use Rattle.std.specs.Prelude.{◌≡◌, Bool, ◌||◌, List, [], ◌∷◌, ◌++◌, map, ℕ, ◌-◌, length, replicate, ltb, Result}
use Rattle.wire.specs.Field.{flag_at}
use Rattle.wire.specs.Lists.{some_of}
use Rattle.wire.specs.Outcome.{Outcome, refused, accepted, Refusal, when, first, decide, outcome_by}
use Rattle.wire.specs.Room.{InRoom, text_in, over}
use Rattle.wire.specs.declared.Reason.{Reason}
use Rattle.area.specs.Area.{flat}
use Rattle.sheet.specs.declared.SyncManager.{SyncManager}
use Rattle.sheet.specs.declared.Device.{Device}
use Rattle.sheet.specs.Device.{Data, data_of}
use Rattle.sheet.specs.Sheet.{some_unnamed, no_manager, sheet_read_of}
use Rattle.writer.specs.Form.{pdo_bytes, sheet_of}
use Rattle.dump.specs.declared.Head.{Head}
use Rattle.dump.specs.Parts.{parts_of}
use Rattle.dump.specs.Categories.{categories, content_for, unended}
use Rattle.dump.specs.Records.{usage_for, manager_long, manager_for, pdos_in, not_records}

-- the SyncM records and the FMMU bytes of categories
abbrev pub manager_records : List (List ℕ) → List (List ℕ)
manager_records cs = parts_of manager_long (content_for 41 cs)

abbrev pub usages_for : List (List ℕ) → List ℕ
usages_for cs = map usage_for (content_for 40 cs)

-- device data: flags as in the sheet's byte 3 and both sizes from the caller, the rest from the dump; PDOs in dump order
unfoldable pub dump_data : Head → List (List ℕ) → Data
dump_data h cs =
    record {
      mailbox = flag_at h.flags 0;
      coe_protocol = flag_at h.flags 1;
      complete = flag_at h.flags 2;
      receive = h.receive_size.0;
      send = h.send_size.0;
      managers = map manager_for (manager_records cs);
      usages = usages_for cs;
      pdos = pdos_in cs;
    }

-- 4: another sheet rule is broken: flags above bit 2; over 16 sync managers, 16 usages or 255 PDOs; a usage that has no name (a sync manager's is
-- 0 to 4, an FMMU's 0 to 3)
abbrev pub rule_broken : (flags : ℕ) → List SyncManager → List ℕ → (p : ℕ) → Bool
rule_broken flags ms us p =
    ltb 7 flags || (ltb 16 (length ms) || (ltb 16 (length us) || (ltb 255 p || (some_of (λ m. ltb 4 m.usage_type) ms || some_of (ltb 3) us))))

-- the refusals in their order, 5 being the sheet's own; then 12 by the room
abbrev pub dump_refusals : Head → List ℕ → List Refusal
dump_refusals h dump =
    when 16 (unended dump)
    ∷ when 17 (not_records (categories dump))
    ∷ when 4 (rule_broken h.flags (map manager_for (manager_records (categories dump))) (usages_for (categories dump)) (length (pdos_in (categories dump))))
    ∷ when 5 (some_unnamed (map manager_for (manager_records (categories dump))))
    ∷ []

-- the PDO records in the sheet's own encoding
abbrev pub pdo_records : Data → List ℕ
pdo_records x = flat (map pdo_bytes x.pdos)

-- every dump has exactly one answer
unfoldable pub read_dump : Head → List ℕ → List ℕ → Outcome Data
read_dump h dump room =
    first (dump_refusals h dump)
    (decide (when 12 (ltb (length room) (length (pdo_records (dump_data h (categories dump))))) ∷ []) (dump_data h (categories dump)))

-- the same in the form that code holds it, p PDO records standing from place 0 of the room on; places that are not used hold nothing
abbrev pub device_with : Head → List SyncManager → List ℕ → (p : ℕ) → Device
device_with h ms us p =
    record {
      has_mailbox = flag_at h.flags 0;
      coe_protocol = flag_at h.flags 1;
      complete_access = flag_at h.flags 2;
      receive_size = record { 0 = h.receive_size.0 };
      send_size = record { 0 = h.send_size.0 };
      managers = ms ++ replicate (16 - length ms) no_manager;
      n = length ms;
      usages = us ++ replicate (16 - length us) 0;
      f = length us;
      pdos = 0;
      p = p;
    }

-- the record and what the room holds after a call with this outcome: nothing beside a refusal, which leaves the room
abbrev pub device_after : Head → Outcome Data → Outcome Device
device_after h (refused n) = refused n
device_after h (accepted x) = accepted (device_with h x.managers x.usages (length x.pdos))

abbrev pub records_after : Outcome Data → List ℕ → List ℕ
records_after (refused n) room = room
records_after (accepted x) room = over (pdo_records x) room

-- the promise of a call with this outcome: its answer, the record, and what the room holds then
pub record Gives (h : Head) (outcome : Outcome Data) (room : List ℕ) (r : Result Device Reason) (after : List ℕ) : Type 0 where
  pub says : outcome_by (λ d. data_of d after) r ≡ outcome
  pub holds : sheet_read_of r ≡ device_after h outcome
  pub leaves : after ≡ records_after outcome room

-- the promise of reading
abbrev pub ReadsDump : Head → List ℕ → List ℕ → Result Device Reason → List ℕ → Type 0
ReadsDump h dump room r after = Gives h (read_dump h dump room) room r after

-- the sheet of a dump, written into room by the rule for texts
unfoldable pub sheeting : Head → List ℕ → List ℕ → Outcome ℕ
sheeting h dump room = first (dump_refusals h dump) (text_in (sheet_of (dump_data h (categories dump))) room)

abbrev pub WritesSheet : Head → List ℕ → List ℕ → Result ℕ Reason → List ℕ → Type 0
WritesSheet h dump room r after = InRoom (sheeting h dump room) (sheet_of (dump_data h (categories dump))) room r after
