-- Bench cases P1 to P12 (document 01), one list: each with the answer of the entry point's own definition and the answer that the document has.
-- Calls are made in the default, the outputs straight after the inputs; P8 asks for keeping (document 02, 3/13).
-- Assumes nothing.
use Rattle.std.specs.Prelude.{List, [], ◌∷◌, ◌++◌, ℕ, ◌/◌, ◌%◌, get_or, set, replicate}
use Rattle.wire.specs.Field.{bit}
use Rattle.wire.specs.Outcome.{Outcome, refused, accepted}
use Rattle.pdi.specs.Unit.{rounded_up}
use Rattle.pdi.specs.Offset.{incremented, incremented_byte_aligned}
use Rattle.channel_bytes.specs.declared.Control.{Control}
use Rattle.channel_bytes.specs.Bytes.{mode_number, control_at, control_byte, unnamed}
use Rattle.sync_manager_channel.specs.declared.SyncManagerChannel.{SyncManagerChannel}
use Rattle.sync_manager_channel.specs.Image.{read_channel, image_of}
use Rattle.sheet.specs.Sheet.{sheet_data}
use Rattle.pdo.specs.Bits.{multipliers_of}
use Rattle.area.specs.Area.{entries_of}
use Rattle.passes.specs.declared.Settings.{Settings}
use Rattle.passes.specs.declared.FmmuMode.TheVariants.{OwnNumber}
use Rattle.passes.specs.declared.OutputStart.TheVariants.{AfterInputs}
use Rattle.passes.specs.Use.{nothing_chosen}
use Rattle.passes.specs.Old.{clean, keeping}
use Rattle.passes.specs.Start.{Offsets, offsets, Both}
use Rattle.passes.specs.Call.{call, entries_after, images_after}

-- a case: its number, what is computed, what the document says; answers as lists of numbers
pub record Row : Type 0 where
  pub case : ℕ
  pub computed : Outcome (List ℕ)
  pub expected : Outcome (List ℕ)

abbrev pub row : ℕ → Outcome (List ℕ) → Outcome (List ℕ) → Row
row n c e = record { case = n; computed = c; expected = e }

-- an answer that is one number
abbrev pub number : Outcome ℕ → Outcome (List ℕ)
number (refused n) = refused n
number (accepted x) = accepted (x ∷ [])

-- a control that is read, and written again: its mode's number, whether a mode or direction is unnamed, and the byte
abbrev pub control : Control → Outcome (List ℕ)
control c = accepted (mode_number c.operation_mode ∷ bit (unnamed c) ∷ control_byte c ∷ [])

-- a call: where the inputs start and end, and where both do
abbrev pub inputs_at : Outcome Both → Outcome (List ℕ)
inputs_at (refused n) = refused n
inputs_at (accepted b) = accepted (b.inputs.segment.start ∷ b.inputs.segment.end ∷ [])

abbrev pub both_at : Outcome Both → Outcome (List ℕ)
both_at (refused n) = refused n
both_at (accepted b) = accepted (b.inputs.segment.start ∷ b.inputs.segment.end ∷ b.outputs.segment.start ∷ b.outputs.segment.end ∷ [])

-- no oversampling: 1 for each PDO of the sheet
abbrev pub ones : List ℕ → List ℕ
ones sheet = multipliers_of [] (sheet_data sheet).pdos

-- a sync manager's image that is read, and written again
abbrev pub rewritten : Outcome SyncManagerChannel → Outcome (List ℕ)
rewritten (refused n) = refused n
rewritten (accepted s) = accepted (image_of s)

-- both areas as zeros
abbrev pub zeros : List ℕ
zeros = replicate 256 0

abbrev pub zero_channels : List ℕ
zero_channels = replicate 128 0

-- the offsets that a call is lent
abbrev pub lent_at : ℕ → ℕ → Offsets
lent_at inputs outputs = offsets (record { start_address = inputs }) (record { start_address = outputs })

-- a call with these settings from these offsets over FMMU bytes; in the default with group start 0, the inputs from an offset; and that from 0
abbrev pub call_by : Settings → Offsets → List ℕ → List ℕ → Outcome Both
call_by settings o sheet area = call sheet (ones sheet) nothing_chosen o settings area zero_channels

abbrev pub call_from : ℕ → List ℕ → List ℕ → Outcome Both
call_from inputs sheet area = call_by (clean OwnNumber AfterInputs 0) (lent_at inputs 0) sheet area

abbrev pub call_over : List ℕ → List ℕ → Outcome Both
call_over sheet area = call_from 0 sheet area

-- the same, keeping old entries
abbrev pub call_kept : List ℕ → List ℕ → Outcome Both
call_kept sheet area = call_by (keeping OwnNumber AfterInputs 0) (lent_at 0 0) sheet area

-- an accepted call: entry k, of so many bytes, of the area that it leaves
abbrev pub entry_of : ℕ → ℕ → List ℕ → Outcome Both → Outcome (List ℕ)
entry_of size k after (refused n) = refused n
entry_of size k after (accepted b) = accepted (get_or (entries_of size after) k [])

-- the FMMU entry k, and the image of the sync manager k
abbrev pub entry_after : ℕ → List ℕ → List ℕ → Outcome (List ℕ)
entry_after k sheet area =
    entry_of 16 k (entries_after (call_over sheet area) (sheet_data sheet) (ones sheet) nothing_chosen (lent_at 0 0) (clean OwnNumber AfterInputs 0) area) (call_over sheet area)

abbrev pub image_after : ℕ → List ℕ → Outcome (List ℕ)
image_after k sheet = entry_of 8 k (images_after (call_over sheet zeros) (sheet_data sheet) (ones sheet) zero_channels) (call_over sheet zeros)

-- the document's sheet: its inputs are 12 + 5 = 17 and 8 + 1 = 9 bits
abbrev pub sample_sheet : List ℕ
sample_sheet =
    (0x00 ∷ 0x38 ∷ 0x01 ∷ 0x03 ∷ 0x00 ∷ 0x80 ∷ 0x00 ∷ 0x80 ∷ 0x05 ∷ 0x02 ∷ 0x03 ∷ [])
    ++ (0x10 ∷ 0x00 ∷ 0x26 ∷ 0x01 ∷ 0x01 ∷ 0x10 ∷ 0x80 ∷ 0x22 ∷ 0x01 ∷ 0x02 ∷ 0x11 ∷ 0x00 ∷ 0x64 ∷ 0x01 ∷ 0x03 ∷ [])
    ++ (0x11 ∷ 0x80 ∷ 0x20 ∷ 0x01 ∷ 0x04 ∷ 0x11 ∷ 0x83 ∷ 0x20 ∷ 0x01 ∷ 0x04 ∷ 0x01 ∷ 0x02 ∷ [])
    ++ (0x00 ∷ 0x03 ∷ 0x1a ∷ 0x00 ∷ 0x02 ∷ 0x0c ∷ 0x05 ∷ 0x00 ∷ 0x04 ∷ 0x1a ∷ 0x01 ∷ 0x02 ∷ 0x08 ∷ 0x01 ∷ [])
    ++ (0x00 ∷ 0x02 ∷ 0x16 ∷ 0x00 ∷ 0x01 ∷ 0x10 ∷ [])

-- EEPROM, one input of so many bits, on the entry 0; and an entry 0 that is enabled with length 65,535
abbrev pub bits_sheet : ℕ → List ℕ
bits_sheet bits =
    (0x00 ∷ 0x15 ∷ 0x01 ∷ 0x00 ∷ 0x00 ∷ 0x00 ∷ 0x00 ∷ 0x00 ∷ 0x01 ∷ 0x00 ∷ 0x01 ∷ [])
    ++ (0x11 ∷ 0x80 ∷ 0x20 ∷ 0x01 ∷ 0x04 ∷ [])
    ++ (0x01 ∷ 0x00 ∷ 0x1a ∷ 0x00 ∷ 0x02 ∷ bits / 256 ∷ bits % 256 ∷ [])

abbrev pub full_entry : List ℕ
full_entry = (0 ∷ 0 ∷ 0 ∷ 0 ∷ 0xff ∷ 0xff ∷ 0 ∷ 7 ∷ 0 ∷ 0 ∷ 0 ∷ 1 ∷ 1 ∷ 0 ∷ 0 ∷ 0 ∷ []) ++ replicate 240 0

-- CoE, one input of 0 bits, no FMMU usage
abbrev pub no_bits_sheet : List ℕ
no_bits_sheet =
    (0x00 ∷ 0x13 ∷ 0x01 ∷ 0x03 ∷ 0x00 ∷ 0x80 ∷ 0x00 ∷ 0x80 ∷ 0x02 ∷ 0x00 ∷ 0x00 ∷ [])
    ++ (0x10 ∷ 0x80 ∷ 0x22 ∷ 0x01 ∷ 0x02 ∷ 0x11 ∷ 0x80 ∷ 0x20 ∷ 0x01 ∷ 0x04 ∷ [])

-- each case, by the step and by the call where both have it; a control byte by itself, in an image, and by the call that writes one
abbrev pub bench_cases : List Row
bench_cases =
    row 1 (number (rounded_up 65528)) (accepted (8191 ∷ []))
    ∷ row 1 (number (incremented_byte_aligned 0 65528)) (accepted (8191 ∷ []))
    ∷ row 1 (inputs_at (call_over (bits_sheet 65528) zeros)) (accepted (0 ∷ 8191 ∷ []))
    ∷ row 2 (number (rounded_up 65529)) (refused 6)
    ∷ row 2 (number (incremented_byte_aligned 0 65529)) (refused 6)
    ∷ row 2 (inputs_at (call_over (bits_sheet 65529) zeros)) (refused 6)
    ∷ row 3 (number (rounded_up 0)) (accepted (0 ∷ []))
    ∷ row 3 (number (incremented_byte_aligned 0 0)) (accepted (0 ∷ []))
    ∷ row 3 (inputs_at (call_over (bits_sheet 0) zeros)) (accepted (0 ∷ 0 ∷ []))
    ∷ row 4 (number (rounded_up 1)) (accepted (1 ∷ []))
    ∷ row 4 (number (incremented_byte_aligned 0 1)) (accepted (1 ∷ []))
    ∷ row 4 (inputs_at (call_over (bits_sheet 1) zeros)) (accepted (0 ∷ 1 ∷ []))
    ∷ row 5 (inputs_at (call_over sample_sheet zeros)) (accepted (0 ∷ 5 ∷ []))
    ∷ row 6 (number (incremented 4294967294 1)) (accepted (4294967295 ∷ []))
    ∷ row 6 (inputs_at (call_from 4294967294 (bits_sheet 8) zeros)) (accepted (4294967294 ∷ 4294967295 ∷ []))
    ∷ row 7 (number (incremented 4294967294 2)) (refused 9)
    ∷ row 7 (inputs_at (call_from 4294967294 (bits_sheet 16) zeros)) (refused 9)
    ∷ row 8 (inputs_at (call_kept (bits_sheet 8) full_entry)) (refused 8)
    ∷ row 9 (inputs_at (call_over no_bits_sheet zeros)) (accepted (0 ∷ 0 ∷ []))
    ∷ row 10 (entry_after 0 (bits_sheet 0) zeros) (accepted (0 ∷ 0 ∷ 0 ∷ 0 ∷ 0 ∷ 0 ∷ 0 ∷ 7 ∷ 0x80 ∷ 0x11 ∷ 0 ∷ 1 ∷ 1 ∷ 0 ∷ 0 ∷ 0 ∷ []))
    ∷ row 11 (inputs_at (call_over (set (bits_sheet 8) 13 0x23) zeros)) (refused 5)
    ∷ row 12 (control (control_at 0xa2)) (accepted (2 ∷ 0 ∷ 0x22 ∷ []))
    ∷ row 12 (rewritten (read_channel (0x80 ∷ 0x11 ∷ 1 ∷ 0 ∷ 0xa2 ∷ 0 ∷ 1 ∷ 0 ∷ []))) (accepted (0x80 ∷ 0x11 ∷ 1 ∷ 0 ∷ 0x22 ∷ 0 ∷ 1 ∷ 0 ∷ []))
    ∷ row 12 (image_after 0 (set (bits_sheet 8) 13 0xa2)) (accepted (0x80 ∷ 0x11 ∷ 1 ∷ 0 ∷ 0x22 ∷ 0 ∷ 1 ∷ 0 ∷ []))
    ∷ []
