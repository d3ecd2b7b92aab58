-- The theorems of document 02, 5/13, in words of the calls: what a dump gives has a sheet, written and read it comes back, and `write_sheet` writes it; a
-- category of an unknown type in between changes nothing, and neither do bytes after the end mark.
-- `promise` is the function's own `ensures`, at the values of the call: `Contracts` in proofs/ makes these records of the contracts.
-- Assumes nothing.
use Rattle.std.specs.Prelude.{◌≡◌, false, List, ◌++◌, map, ℕ, ◌*◌, ◌<◌, ◌≤◌, length, take, Result, Ok}
use Rattle.wire.specs.Image.{Bytes}
use Rattle.wire.specs.Number.{little_of}
use Rattle.wire.specs.Outcome.{accepted}
use Rattle.wire.specs.Room.{InRoom, text_in}
use Rattle.wire.specs.declared.Reason.{Reason}
use Rattle.area.specs.Area.{flat}
use Rattle.grammar.specs.Length.{follow}
use Rattle.sheet.specs.declared.Device.{Device}
use Rattle.sheet.specs.Device.{Data, data_of}
use Rattle.sheet.specs.Sheet.{read_sheet, ReadsAs}
use Rattle.writer.specs.Form.{sheet_of}
use Rattle.writer.specs.Again as Writing
use Rattle.dump.specs.declared.Head.{Head}
use Rattle.dump.specs.Categories.{unended}
use Rattle.dump.specs.Dump.{ReadsDump, WritesSheet}

-- the sizes and the lent bytes are in range, as every call's are by their types
pub record InRange (h : Head) (dump room : List ℕ) : Type 0 where
  pub receive : h.receive_size.0 < 65536
  pub send : h.send_size.0 < 65536
  pub bytes : Bytes dump
  pub room_bytes : Bytes room

-- a call of `read`: what it was handed and lent, what it answered, and what it left in the room
pub record Call : Type 0 where
  pub head : Head
  pub dump : List ℕ
  pub room : List ℕ
  pub read : Result Device Reason
  pub left : List ℕ
  pub range : InRange head dump room
  pub promise : ReadsDump head dump room read left

-- the data that it gives with a record that it answers, and the sheet of that
abbrev pub given : Call → Device → Data
given c d = data_of d c.left

abbrev pub sheet_from : Call → Device → List ℕ
sheet_from c d = sheet_of (given c d)

-- what is produced keeps every sheet rule: its sheet is accepted and reads as that data; and L is at most 1,890
abbrev pub HasSheet : Type 0
HasSheet = (c : Call) (d : Device) → c.read ≡ Ok d → (read_sheet (sheet_from c d) ≡ accepted (given c d)) × (follow (sheet_from c d) ≤ 1890)

-- written by `writer::write`, with the record and the room as they were left, it is that sheet by the rule for texts, so 12 is the one refusal; and
-- any answer of `sheet::read` for what was written is the data
pub record Back (c : Call) (w : Writing.Call) : Type 0 where
  pub written : InRoom (text_in (sheet_from c w.device) w.room) (sheet_from c w.device) w.room w.answer w.left
  pub read :
      (n : ℕ) (r : Result Device Reason) → w.answer ≡ Ok n → ReadsAs (take n w.left) r
      → (d : Device) × ((r ≡ Ok d) × (data_of d (take n w.left) ≡ given c w.device))

abbrev pub ComesBack : Type 0
ComesBack = (c : Call) (w : Writing.Call) → c.read ≡ Ok w.device → w.bytes ≡ c.left → Back c w

-- a call of `write_sheet`, likewise
pub record SheetCall : Type 0 where
  pub head : Head
  pub dump : List ℕ
  pub room : List ℕ
  pub answer : Result ℕ Reason
  pub left : List ℕ
  pub promise : WritesSheet head dump room answer left

-- where `read` accepts a dump, `write_sheet` of the same writes that very sheet by the rule for texts; so 12 is its one refusal, and not even that where
-- there are 1,892 bytes of room
abbrev pub SheetInOneCall : Type 0
SheetInOneCall =
    (c : Call) (d : Device) (w : SheetCall) → c.read ≡ Ok d → w.head ≡ c.head → w.dump ≡ c.dump
    → InRoom (text_in (sheet_from c d) w.room) (sheet_from c d) w.room w.answer w.left × (1892 ≤ length w.room → w.answer ≡ Ok (length (sheet_from c d)))

-- a category: any type but the end mark's, and any content of so many words
pub record Category : Type 0 where
  pub type_word : ℕ
  pub words : ℕ
  pub content : List ℕ
  pub no_mark : type_word < 65535
  pub fits : words < 65536
  pub even : length content ≡ 2 * words

-- its bytes: type word, length in words, so many words; and those of several, one behind the other
abbrev pub bytes_of : Category → List ℕ
bytes_of u = little_of 2 u.type_word ++ (little_of 2 u.words ++ u.content)

abbrev pub all_bytes : List Category → List ℕ
all_bytes us = flat (map bytes_of us)

-- of none of the four types
pub record Unknown (u : Category) : Type 0 where
  pub no_fmmu : u.type_word ≡ 40 → ⊥
  pub no_manager : u.type_word ≡ 41 → ⊥
  pub no_inputs : u.type_word ≡ 50 → ⊥
  pub no_outputs : u.type_word ≡ 51 → ⊥

-- two calls that are handed and lent the same, but for the dump, answer and leave the same
abbrev pub Same : Call → Call → Type 0
Same a b = b.head ≡ a.head → b.room ≡ a.room → (b.read ≡ a.read) × (b.left ≡ a.left)

abbrev pub SameSheet : SheetCall → SheetCall → Type 0
SameSheet a b = b.head ≡ a.head → b.room ≡ a.room → (b.answer ≡ a.answer) × (b.left ≡ a.left)

-- the one dump is the other with a category of an unknown type in it, behind any categories and before whatever follows
pub record Between (a b : List ℕ) : Type 0 where
  pub front : List Category
  pub category : Category
  pub back : List ℕ
  pub unknown : Unknown category
  pub without : a ≡ all_bytes front ++ back
  pub with : b ≡ all_bytes front ++ (bytes_of category ++ back)

-- that changes nothing
abbrev pub SteppedOver : Type 0
SteppedOver = ((a b : Call) → Between a.dump b.dump → Same a b) × ((a b : SheetCall) → Between a.dump b.dump → SameSheet a b)

-- the one dump has its end mark, and the other is that with bytes behind it
pub record Behind (a b : List ℕ) : Type 0 where
  pub bytes : Bytes a
  pub ended : unended a ≡ false
  pub more : List ℕ
  pub longer : b ≡ a ++ more

-- nor does that change anything
abbrev pub EndsThere : Type 0
EndsThere = ((a b : Call) → Behind a.dump b.dump → Same a b) × ((a b : SheetCall) → Behind a.dump b.dump → SameSheet a b)
