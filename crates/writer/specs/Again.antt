-- The theorems of document 02, 2/13, in words of the calls: what is written reads back, and what was read is written again.
-- `promise` is the function's own `ensures`, at the values of the call: `Contracts` in proofs/ makes these records of the contracts.
-- Assumes nothing.
use Rattle.std.specs.Prelude.{◌≡◌, true, List, [], ◌∷◌, ◌++◌, ◌⊎◌, ◌↔◌, ℕ, ◌+◌, ◌%◌, ◌<◌, ◌≤◌, length, get_or, take, drop, Result, Ok, Err}
use Rattle.wire.specs.Image.{Bytes}
use Rattle.wire.specs.Lists.{list_of, Each}
use Rattle.wire.specs.Outcome.{accepted}
use Rattle.wire.specs.Room.{InRoom, text_in}
use Rattle.wire.specs.declared.Reason.{Reason}
use Rattle.wire.specs.declared.Reason.TheVariants.{SheetLength, SheetRule, UnnamedControl}
use Rattle.area.specs.Area.{flat}
use Rattle.sheet.specs.declared.SyncManager.{SyncManager}
use Rattle.sheet.specs.declared.Device.{Device}
use Rattle.sheet.specs.Device.{Data, data_of}
use Rattle.sheet.specs.Sheet.{manager_count, manager_place, usages_place, pdos_fit, read_sheet, ReadsAs}
use Rattle.writer.specs.Writing.{records_of, Writes}

-- a record's numbers and the lent bytes are in range, as every call's are by their types
pub record InRange (d : Device) (s : List ℕ) : Type 0 where
  pub receive : d.receive_size.0 < 65536
  pub send : d.send_size.0 < 65536
  pub managers : length d.managers ≡ 16
  pub starts : Each (λ (m : SyncManager). m.start_addr < 65536) d.managers
  pub usages : length d.usages ≡ 16
  pub count : d.p < 256
  pub bytes : Bytes s

-- a call of `write`: what it was handed and lent, what it answered, and what it left in the room
pub record Call : Type 0 where
  pub device : Device
  pub bytes : List ℕ
  pub room : List ℕ
  pub answer : Result ℕ Reason
  pub left : List ℕ
  pub range : InRange device bytes
  pub promise : Writes device bytes room answer left

-- what is written reads back as the same data: of any call that answers a length, and any answer of `sheet::read` for what was written
abbrev pub ReadsBack : Type 0
ReadsBack =
    (c : Call) (n : ℕ) (r : Result Device Reason) → c.answer ≡ Ok n → ReadsAs (take n c.left) r
    → (d : Device) × ((r ≡ Ok d) × (data_of d (take n c.left) ≡ data_of c.device c.bytes))

-- a sync manager's five bytes, but that control bit 7 and the EEPROM enable bits that are ignored are 0
abbrev pub clean_manager : List ℕ → ℕ → List ℕ
clean_manager s at = get_or s at 0 ∷ get_or s (at + 1) 0 ∷ get_or s (at + 2) 0 % 128 ∷ get_or s (at + 3) 0 % 2 ∷ get_or s (at + 4) 0 ∷ []

-- a sheet with those bits 0, and otherwise byte for byte the sheet
unfoldable pub cleaned : List ℕ → List ℕ
cleaned s = take 11 s ++ (flat (list_of (λ k. clean_manager s (manager_place k)) (manager_count s)) ++ drop (usages_place s) s)

-- an accepted sheet, read and written again: the call writes `cleaned` of it by the rule for texts, so 12 is the one refusal that is left
abbrev pub WrittenAgain : Type 0
WrittenAgain =
    (s : List ℕ) (r : Result Device Reason) (c : Call) → ReadsAs s r → r ≡ Ok c.device → c.bytes ≡ s
    → InRoom (text_in (cleaned s) c.room) (cleaned s) c.room c.answer c.left

-- a sheet that reads as device data
pub record SheetFor (x : Data) : Type 0 where
  pub sheet : List ℕ
  pub bytes : Bytes sheet
  pub reads : read_sheet sheet ≡ accepted x

-- where n and f are at most 16 and the p records stand whole in the bytes, each kind going with its count, 2, 4 or 5 is given exactly if no sheet
-- reads as that data
abbrev pub RefusedExactly : Type 0
RefusedExactly =
    (c : Call) → c.device.n ≤ 16 → c.device.f ≤ 16 → pdos_fit (records_of c.device c.bytes) c.device.p 0 ≡ true
    → ((c.answer ≡ Err SheetLength) ⊎ ((c.answer ≡ Err SheetRule) ⊎ (c.answer ≡ Err UnnamedControl))) ↔ (SheetFor (data_of c.device c.bytes) → ⊥)
