-- The theorems aren't empty: sheets that are read, and what is written of them, computed; and calls that keep the promise, one that writes and two that are refused.
-- Assumes nothing.
use mathlib.Core.Path.{◌≡◌, refl}
use mathlib.Core.List.{List, [], ◌∷◌, ◌++◌}
use Prim.Native.Nat.{ℕ, ◌<◌}
use native.Mathlib.Omega.{arith}
use lib.ListN.{replicate}
use Rattle.wire.specs.Image.{Bytes}
use Rattle.wire.specs.Lists.{list_of, some_below, Each}
use Rattle.wire.specs.Outcome.{accepted}
use Rattle.wire.specs.Room.{room_after, written_of}
use Rattle.std.specs.Prelude.{Result, Ok, Err}
use Rattle.wire.specs.declared.Reason.{Reason}
use Rattle.wire.specs.declared.Reason.TheVariants.{SheetRule, UnnamedControl}
use Rattle.wire.proofs.Bytes.{no_bytes, cons-bytes}
use Rattle.area.specs.Area.{flat}
use Rattle.channel_bytes.specs.Bytes.{control_at, unnamed, control_byte}
use Rattle.grammar.specs.Length.{wrong_length}
use Rattle.grammar.specs.Grammar.{pdos_end, kind_fits, pdos_fit, some_manager_wrong, some_usage_wrong, broken}
use Rattle.sheet.specs.Device.{pdos_from, data_of}
use Rattle.sheet.specs.Sheet.{some_unnamed, sheet_data, read_sheet, device_of}
use Rattle.writer.specs.Form.{body_bytes, sheet_of}
use Rattle.writer.specs.Writing.{too_long, rule_broken, writing}
use Rattle.writer.specs.Again.{InRange, Call, cleaned}

-- the smallest sheet: it is accepted, and written again it is itself
abbrev pub smallest : List ℕ
smallest = 0 ∷ 9 ∷ 1 ∷ replicate 8 0

pub smallest-reads : read_sheet smallest ≡ accepted (sheet_data smallest)
unfolding read_sheet wrong_length broken some_manager_wrong some_usage_wrong pdos_fit some_unnamed some_below sheet_data list_of
smallest-reads = refl

pub smallest-again : sheet_of (sheet_data smallest) ≡ smallest
unfolding sheet_of sheet_data body_bytes list_of pdos_from flat
smallest-again = refl

-- a sheet with a sync manager at 0x1000, of this control, EEPROM enable and usage, and two PDOs, one by CoE and one by EEPROM
abbrev pub bay : (control enable usage : ℕ) → List ℕ
bay control enable usage =
    (0 ∷ 28 ∷ 1 ∷ replicate 5 0)
    ++ (1 ∷ 0 ∷ 2 ∷ 16 ∷ 0 ∷ control ∷ enable ∷ usage ∷ 0 ∷ 0 ∷ 26 ∷ 0 ∷ 2 ∷ 12 ∷ 5 ∷ 1 ∷ 0 ∷ 26 ∷ 1 ∷ 2 ∷ 2 ∷ 3 ∷ [])

-- control 0xA6, enable 0xFE: it is accepted; control bit 7 and the enable bits that are ignored are 0 in what is written again, 0x26 and 0x00
pub bay-reads : read_sheet (bay 166 254 1) ≡ accepted (sheet_data (bay 166 254 1))
unfolding read_sheet wrong_length broken some_manager_wrong some_usage_wrong kind_fits pdos_fit some_unnamed some_below unnamed sheet_data list_of control_at
bay-reads = refl

pub bay-cleaned : cleaned (bay 166 254 1) ≡ bay 38 0 1
unfolding cleaned list_of flat
bay-cleaned = refl

pub bay-again : sheet_of (sheet_data (bay 166 254 1)) ≡ bay 38 0 1
unfolding sheet_of sheet_data body_bytes list_of pdos_from flat control_at control_byte
bay-again = refl

pub bytes_of : (l : List ℕ) → Each (λ (b : ℕ). b < 256) l → Bytes l
bytes_of [] h = no_bytes
bytes_of (b ∷ l) h = cons-bytes h.0 (bytes_of l h.1)

pub bay-in-range : (control usage : ℕ) → control < 256 → usage < 256 → InRange (device_of (bay control 254 usage)) (bay control 254 usage)
unfolding device_of list_of
bay-in-range control usage g h =
    record {
      receive = omega arith;
      send = omega arith;
      managers = refl;
      starts = omega arith;
      usages = refl;
      count = omega arith;
      bytes = bytes_of (bay control 254 usage) (omega arith);
    }

-- what was read of it, with a usage, written again into a room of 34 bytes: what that says
abbrev pub says : (control usage : ℕ) → Result ℕ Reason → Type 0
says control usage r = written_of r ≡ writing (device_of (bay control 254 usage)) (bay control 254 usage) (replicate 34 7)

-- a call that answers so keeps the promise
abbrev pub call : (control usage : ℕ) → control < 256 → usage < 256 → (r : Result ℕ Reason) → says control usage r → Call
call control usage g h r e =
    let s = bay control 254 usage in
    let d = device_of s in
    let room : List ℕ = replicate 34 7 in
    record {
      device = d;
      bytes = s;
      room = room;
      answer = r;
      left = room_after (writing d s room) (sheet_of (data_of d s)) room;
      range = bay-in-range control usage g h;
      promise = record { says = e; holds = refl };
    }

-- usage 1 has a name: the sheet is written, and the rest of the room stays
pub says-written : says 166 1 (Ok 30)
unfolding writing too_long rule_broken pdos_end kind_fits pdos_fit device_of data_of sheet_of body_bytes list_of pdos_from flat control_at control_byte some_unnamed unnamed
says-written = refl

pub call-writes : (g : 166 < 256) (h : 1 < 256) → let c = call 166 1 g h (Ok 30) says-written in (c.answer ≡ Ok 30) × (c.left ≡ bay 38 0 1 ++ replicate 4 7)
unfolding writing too_long rule_broken pdos_end kind_fits pdos_fit device_of data_of sheet_of body_bytes list_of pdos_from flat control_at control_byte some_unnamed unnamed
call-writes g h = (refl, refl)

-- usage 5 has none: all of the room stays
pub says-refused : says 166 5 (Err SheetRule)
unfolding writing too_long rule_broken pdos_end device_of list_of
says-refused = refl

pub call-refused : (g : 166 < 256) (h : 5 < 256) → let c = call 166 5 g h (Err SheetRule) says-refused in (c.answer ≡ Err SheetRule) × (c.left ≡ c.room)
unfolding writing too_long rule_broken pdos_end device_of list_of
call-refused g h = (refl, refl)

-- control 0x23 has a mode without a name: so it does
pub says-nameless : says 35 1 (Err UnnamedControl)
unfolding writing too_long rule_broken pdos_end kind_fits pdos_fit device_of list_of control_at some_unnamed unnamed
says-nameless = refl

pub call-nameless : (g : 35 < 256) (h : 1 < 256) → let c = call 35 1 g h (Err UnnamedControl) says-nameless in (c.answer ≡ Err UnnamedControl) × (c.left ≡ c.room)
unfolding writing too_long rule_broken pdos_end kind_fits pdos_fit device_of list_of control_at some_unnamed unnamed
call-nameless g h = (refl, refl)
