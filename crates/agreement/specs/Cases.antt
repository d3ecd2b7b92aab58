-- Translation, counting, old entries, pairs, the two directions of a call and unnamed modes at their limits, lists of rows as the bench's: who decides, where an
-- entry and a range end, what 11, 13, 15 and 18 look at, which refusal comes first.
-- Assumes nothing.
use Rattle.std.specs.Prelude.{true, false, List, [], ◌∷◌, ◌++◌, ℕ, suc, ◌+◌, ◌-◌, ◌*◌, ◌/◌, ◌%◌, length, get_or, set, replicate}
use Rattle.std.proofs.Math.Option.{Option, none, some}
use Rattle.wire.specs.Outcome.{Outcome, refused, accepted}
use Rattle.wire.specs.Number.{little_of}
use Rattle.wire.specs.Lists.{list_of}
use Rattle.channel_bytes.specs.declared.OperationMode.{OperationMode}
use Rattle.channel_bytes.specs.declared.OperationMode.TheVariants as mode
use Rattle.channel_bytes.specs.declared.Direction.{Direction}
use Rattle.channel_bytes.specs.declared.Direction.TheVariants as direction
use Rattle.channel_bytes.specs.Bytes.{control_at, status_at, enable_at}
use Rattle.sync_manager_channel.specs.declared.SyncManagerChannel.{SyncManagerChannel}
use Rattle.sync_manager_channel.specs.Image.{image_of, read_channel, write_channel}
use Rattle.sync_manager_channel.specs.Text.{direction_text, mode_text}
use Rattle.pdo.specs.declared.PdoDirection.TheVariants.{MasterRead, MasterWrite}
use Rattle.sheet.specs.Sheet.{sheet_data}
use Rattle.area.specs.Area.{entries_of, flat}
use Rattle.passes.specs.declared.FmmuPair.{FmmuPair}
use Rattle.passes.specs.declared.FmmuMode.TheVariants.{OwnNumber, Paired}
use Rattle.passes.specs.declared.OutputStart.{OutputStart}
use Rattle.passes.specs.declared.OutputStart.TheVariants.{Given, AfterInputs}
use Rattle.passes.specs.declared.Settings.{Settings}
use Rattle.passes.specs.Use.{nothing_chosen, chosen_of, chosen_by}
use Rattle.passes.specs.Old.{clean, keeping}
use Rattle.passes.specs.Start.{Offsets, Both, offsets_after}
use Rattle.passes.specs.Call.{call, entries_after, images_after}
use Rattle.translation.specs.Translate.{translate}
use Rattle.counting.specs.Count.{Spot, count}
use Rattle.agreement.specs.Clean.{zeroed}
use Rattle.agreement.specs.Bench.{Row, row, number, control, rewritten, inputs_at, both_at, entry_of, ones, zeros, zero_channels, lent_at, call_by, call_over, entry_after, sample_sheet, bits_sheet, full_entry, no_bits_sheet}

-- a device address as a list: nothing where it is none
abbrev pub shown : Option ℕ → List ℕ
shown none = []
shown (some x) = x ∷ []

abbrev pub address : Outcome (Option ℕ) → Outcome (List ℕ)
address (refused n) = refused n
address (accepted x) = accepted (shown x)

-- a spot as sync manager, byte and device address
abbrev pub spot : Outcome (Option Spot) → Outcome (List ℕ)
spot (refused n) = refused n
spot (accepted none) = accepted []
spot (accepted (some p)) = accepted (p.manager ∷ p.byte ∷ shown p.device)

-- an entry's bytes: start, length, end bit, physical start, access byte, enable byte
abbrev pub entry : ℕ → ℕ → ℕ → ℕ → ℕ → ℕ → List ℕ
entry start size end physical access enable = little_of 4 start ++ little_of 2 size ++ (0 ∷ end ∷ []) ++ little_of 2 physical ++ (0 ∷ access ∷ enable ∷ 0 ∷ 0 ∷ 0 ∷ [])

-- these entries first, the others zero
abbrev pub with_zeros : List (List ℕ) → List ℕ
with_zeros es = flat es ++ replicate (16 * (16 - length es)) 0

-- inputs 0 to 4 at 0x1000, then 2 to 6 at 0x2000
abbrev pub overlapping : List ℕ
overlapping = with_zeros (entry 0 4 7 0x1000 1 1 ∷ entry 2 4 7 0x2000 1 1 ∷ [])

-- a good entry of 4 bytes, and one more
abbrev pub good_and : List ℕ → List ℕ
good_and e = with_zeros (entry 0 4 7 0x1000 1 1 ∷ e ∷ [])

abbrev pub translation_cases : List Row
translation_cases =
    row 1 (address (translate MasterRead overlapping 2)) (accepted (0x1002 ∷ []))  -- the first entry that holds the address decides
    ∷ row 2 (address (translate MasterRead overlapping 4)) (accepted (0x2002 ∷ []))  -- past the first one's end, the second
    ∷ row 3 (address (translate MasterRead overlapping 6)) (accepted [])  -- none holds it
    ∷ row 4 (address (translate MasterWrite overlapping 2)) (accepted [])  -- none has the other direction's bit
    ∷ row 5 (address (translate MasterRead (with_zeros (entry 0 4 7 0x1000 1 0 ∷ [])) 2)) (accepted [])  -- none is enabled
    ∷ row 6 (address (translate MasterRead (with_zeros (entry 0 4 7 0xfffe 1 1 ∷ [])) 1)) (accepted (0xffff ∷ []))  -- 65,535 is a device address
    ∷ row 7 (address (translate MasterRead (with_zeros (entry 0 4 7 0xfffe 1 1 ∷ entry 0 4 7 0x1000 1 1 ∷ [])) 2)) (accepted [])  -- 65,536 is none, whatever later entries say
    ∷ row 8 (address (translate MasterRead (with_zeros (entry 0xffffffff 2 7 0x1000 1 1 ∷ [])) 0xffffffff)) (accepted (0x1000 ∷ []))  -- the end is unbounded
    ∷ row 9 (address (translate MasterRead (with_zeros (entry 0xffffffff 2 7 0x1000 1 1 ∷ [])) 0)) (accepted [])  -- and doesn't wrap
    ∷ row 10 (address (translate MasterRead (good_and (entry 8 4 6 0x2000 1 1)) 2)) (refused 11)  -- 11 after the match, at the end bit
    ∷ row 11 (address (translate MasterRead (good_and (entry 8 0 6 0x2000 1 1)) 2)) (refused 11)  -- 11 at length 0
    ∷ row 12 (address (translate MasterRead (good_and (set (entry 8 4 7 0x2000 1 1) 6 1)) 2)) (refused 11)  -- 11 at the start bit
    ∷ row 13 (address (translate MasterRead (good_and (set (entry 8 4 7 0x2000 1 1) 10 1)) 2)) (refused 11)  -- 11 at the physical bit
    ∷ row 14 (address (translate MasterRead (good_and (entry 8 4 6 0x2000 2 1)) 2)) (accepted (0x1002 ∷ []))  -- not of the other direction
    ∷ row 15 (address (translate MasterRead (good_and (entry 8 4 6 0x2000 1 0)) 2)) (accepted (0x1002 ∷ []))  -- nor of a disabled one
    ∷ row 16 (address (translate MasterRead (0 ∷ good_and (entry 8 4 6 0x2000 1 1)) 2)) (refused 1)  -- 1 before 11
    ∷ []

abbrev pub count_inputs : ℕ → ℕ → Outcome (List ℕ)
count_inputs offset a = spot (count MasterRead a sample_sheet (ones sample_sheet) offset)

abbrev pub counting_cases : List Row
counting_cases =
    row 1 (count_inputs 10 9) (accepted [])  -- below the range
    ∷ row 2 (count_inputs 10 10) (accepted (3 ∷ 0 ∷ 0x1180 ∷ []))  -- its first byte
    ∷ row 3 (count_inputs 10 12) (accepted (3 ∷ 2 ∷ 0x1182 ∷ []))  -- 17 bits are 3 bytes
    ∷ row 4 (count_inputs 10 13) (accepted (4 ∷ 0 ∷ 0x1183 ∷ []))  -- then the next sync manager
    ∷ row 5 (count_inputs 10 14) (accepted (4 ∷ 1 ∷ 0x1184 ∷ []))  -- the last byte
    ∷ row 6 (count_inputs 10 15) (accepted [])  -- past the range
    ∷ row 7 (count_inputs 4294967290 4294967294) (accepted (4 ∷ 1 ∷ 0x1184 ∷ []))  -- an end of 4,294,967,295
    ∷ row 8 (count_inputs 4294967291 0) (refused 9)  -- and one more
    ∷ row 9 (spot (count MasterRead 0 no_bits_sheet (ones no_bits_sheet) 0)) (accepted [])  -- an empty range
    ∷ row 10 (spot (count MasterRead 0 (set sample_sheet 37 0) (ones sample_sheet) 0)) (refused 7)  -- no entry has the inputs' usage
    ∷ row 11 (spot (count MasterRead 0 [] [] 4294967296)) (refused 2)  -- the sheet's refusals first
    ∷ []

-- an entry of the inputs, one of the outputs, one with neither bit and one with both, each enabled with 65,535 bytes
abbrev pub full_with : ℕ → List ℕ
full_with access = entry 0 65535 7 0x1000 access 1

abbrev pub input_full : List ℕ
input_full = full_with 1

abbrev pub output_full : List ℕ
output_full = full_with 2

abbrev pub neither_full : List ℕ
neither_full = full_with 0

abbrev pub both_full : List ℕ
both_full = full_with 3

-- the entry 0, which is the wanted one, or the last
abbrev pub at_first : List ℕ → List ℕ
at_first e = with_zeros (e ∷ [])

abbrev pub at_last : List ℕ → List ℕ
at_last e = replicate 240 0 ++ e

-- the default and keeping by own numbers, the outputs straight after the inputs
abbrev pub clean_from : ℕ → Settings
clean_from group = clean OwnNumber AfterInputs group

abbrev pub keeping_from : ℕ → Settings
keeping_from group = keeping OwnNumber AfterInputs group

-- one input byte to map, on the entry 0: a call with these settings, the inputs from an offset
abbrev pub one_byte : Settings → ℕ → List ℕ → Outcome (List ℕ)
one_byte settings offset area = inputs_at (call_by settings (lent_at offset 0) (bits_sheet 8) area)

-- that byte from offset 0
abbrev pub mapped_byte : List ℕ
mapped_byte = entry 0 1 7 0x1180 1 1

-- CoE, a read mailbox, so many inputs of one bit each, all on the entry 0; each 65,528 times: 8,191 bytes
abbrev pub shared_sheet : ℕ → List ℕ
shared_sheet n =
    (0x00 ∷ (15 + 11 * n) ∷ 0x01 ∷ 0x03 ∷ 0x00 ∷ 0x80 ∷ 0x00 ∷ 0x80 ∷ (1 + n) ∷ 0x01 ∷ n ∷ [])
    ++ (0x10 ∷ 0x80 ∷ 0x22 ∷ 0x01 ∷ 0x02 ∷ [])
    ++ flat (list_of (λ k. 0x11 ∷ 0x80 ∷ 0x20 ∷ 0x01 ∷ 0x04 ∷ []) n)
    ++ (0x02 ∷ [])
    ++ flat (list_of (λ k. 0x00 ∷ (1 + k) ∷ 0x1a ∷ k ∷ 0x01 ∷ 0x01 ∷ []) n)

abbrev pub shared_by : Settings → ℕ → List ℕ → Outcome (List ℕ)
shared_by settings n area = inputs_at (call (shared_sheet n) (replicate n 65528) nothing_chosen (lent_at 0 0) settings area zero_channels)

abbrev pub old_cases : List Row
old_cases =
    row 1 (entry_after 0 (bits_sheet 8) full_entry) (accepted mapped_byte)  -- a full entry of the inputs is cleared, the call begins from zero
    ∷ row 2 (entry_after 15 (bits_sheet 8) (at_last input_full)) (accepted (replicate 16 0))  -- one that isn't wanted is cleared too, all sixteen bytes
    ∷ row 3 (entry_after 15 (bits_sheet 8) (at_last output_full)) (accepted (replicate 16 0))  -- so is one of the other direction
    ∷ row 4 (entry_after 15 no_bits_sheet (at_last input_full)) (accepted (replicate 16 0))  -- cleared also where nothing is mapped
    ∷ row 5 (entry_after 15 no_bits_sheet (at_last output_full)) (accepted (replicate 16 0))  -- of either direction
    ∷ row 6 (entry_after 0 (bits_sheet 8) (at_first output_full)) (accepted mapped_byte)  -- an input wants the entry of an old output: cleared, accepted
    ∷ row 7 (one_byte (keeping_from 0) 0 (at_first output_full)) (refused 8)  -- keeping gives 8
    ∷ row 8 (one_byte (clean_from 0) 0 (at_first neither_full)) (refused 15)  -- a wanted entry with neither bit isn't cleared: 15, and not 8, which counts from zero
    ∷ row 9 (one_byte (clean_from 0) 4294967295 (at_first neither_full)) (refused 9)  -- 9 comes before 15
    ∷ row 10 (one_byte (keeping_from 0) 4294967295 (zeroed (at_first neither_full))) (refused 8)  -- where keeping, with old entries zeroed, gives 8: `AsKeeping` asks for more than 'not answered 15'
    ∷ row 11 (one_byte (clean_from 1) 0 (at_first neither_full)) (refused 10)  -- 10 comes before 15
    ∷ row 12 (one_byte (clean_from 0) 0 (at_last neither_full)) (accepted (0 ∷ 1 ∷ []))  -- an entry with neither bit is in the way only if it is wanted
    ∷ row 13 (entry_after 15 (bits_sheet 8) (at_last neither_full)) (accepted neither_full)  -- and stays
    ∷ row 14 (inputs_at (call_over no_bits_sheet (at_first neither_full))) (accepted (0 ∷ 0 ∷ []))  -- so where nothing is mapped
    ∷ row 15 (one_byte (clean_from 0) 0 (at_last both_full)) (refused 15)  -- both bits, on whatever entry
    ∷ row 16 (inputs_at (call_over no_bits_sheet (at_first both_full))) (refused 15)  -- also where nothing is mapped
    ∷ row 17 (one_byte (keeping_from 0) 0 (at_last both_full)) (accepted (0 ∷ 1 ∷ []))  -- keeping never gives 15
    ∷ row 18 (one_byte (clean_from 0) 0 (at_last (set both_full 12 0))) (accepted (0 ∷ 1 ∷ []))  -- nor does a disabled entry
    ∷ row 19 (shared_by (clean_from 0) 8 full_entry) (accepted (0 ∷ 65528 ∷ []))  -- 8 counts from zero: eight inputs have room
    ∷ row 20 (shared_by (clean_from 0) 9 full_entry) (refused 8)  -- nine have not
    ∷ row 21 (shared_by (clean_from 0) 9 (at_last both_full)) (refused 8)  -- 8 comes before 15
    ∷ []

-- a sync manager of an EEPROM bay with one PDO of so many bits; the first is at 0x1180, each other 16 bytes behind the one before
pub record Manager : Type 0 where
  pub control : ℕ
  pub usage : ℕ
  pub kind : ℕ
  pub bits : ℕ

abbrev pub input : ℕ → Manager
input bits = record { control = 0x20; usage = 4; kind = 1; bits = bits }

abbrev pub output : ℕ → Manager
output bits = record { control = 0x64; usage = 3; kind = 2; bits = bits }

abbrev pub manager_bytes : ℕ → List Manager → List ℕ
manager_bytes k [] = []
manager_bytes k (m ∷ ms) = (0x11 ∷ (0x80 + 16 * k) ∷ m.control ∷ 0x01 ∷ m.usage ∷ []) ++ manager_bytes (suc k) ms

abbrev pub pdo_bytes : ℕ → List Manager → List ℕ
pdo_bytes k [] = []
pdo_bytes k (m ∷ ms) = (m.kind ∷ k ∷ 0x1a ∷ k ∷ 0x02 ∷ m.bits / 256 ∷ m.bits % 256 ∷ []) ++ pdo_bytes (suc k) ms

abbrev pub bay : List Manager → List ℕ
bay ms =
    (0x00 ∷ (9 + 12 * length ms) ∷ 0x01 ∷ 0x00 ∷ 0x00 ∷ 0x00 ∷ 0x00 ∷ 0x00 ∷ length ms ∷ 0x00 ∷ length ms ∷ [])
    ++ manager_bytes 0 ms
    ++ pdo_bytes 0 ms

-- FMMU `f` for the sync manager `m`
abbrev pub pair : ℕ → ℕ → FmmuPair
pair f m = record { fmmu = f; sync_manager = m }

-- the default and keeping by pairs, the outputs straight after the inputs
abbrev pub clean_paired : ℕ → Settings
clean_paired group = clean Paired AfterInputs group

abbrev pub keeping_paired : ℕ → Settings
keeping_paired group = keeping Paired AfterInputs group

-- a call that is lent pairs and multipliers, over FMMU bytes, from 0; in the default without oversampling over zeros; and an entry that it leaves
abbrev pub paired_by : Settings → Offsets → List FmmuPair → List ℕ → List ℕ → List ℕ → Outcome Both
paired_by settings o ps sheet ws area = call sheet ws (chosen_by settings.mode ps) o settings area zero_channels

abbrev pub paired_over : Settings → List FmmuPair → List ℕ → List ℕ → List ℕ → Outcome (List ℕ)
paired_over settings ps sheet ws area = inputs_at (paired_by settings (lent_at 0 0) ps sheet ws area)

abbrev pub paired_call : List FmmuPair → List ℕ → Outcome (List ℕ)
paired_call ps sheet = paired_over (clean_paired 0) ps sheet (ones sheet) zeros

abbrev pub paired_entry : ℕ → List FmmuPair → List ℕ → Outcome (List ℕ)
paired_entry k ps sheet =
    let x = paired_by (clean_paired 0) (lent_at 0 0) ps sheet (ones sheet) zeros in
    entry_of 16 k (entries_after x (sheet_data sheet) (ones sheet) (chosen_of ps) (lent_at 0 0) (clean_paired 0) zeros) x

-- FMMU 0 for the sync managers 1 to n
abbrev pub on_first : ℕ → List FmmuPair
on_first n = list_of (λ k. pair 0 (suc k)) n

abbrev pub pair_cases : List Row
pair_cases =
    row 1 (paired_entry 5 (pair 5 0 ∷ pair 6 0 ∷ []) (bay (input 8 ∷ []))) (accepted mapped_byte)  -- the first pair for a sync manager decides
    ∷ row 2 (paired_entry 6 (pair 5 0 ∷ pair 6 0 ∷ []) (bay (input 8 ∷ []))) (accepted (replicate 16 0))  -- the second doesn't
    ∷ row 3 (paired_entry 0 (pair 5 1 ∷ []) (bay (input 8 ∷ []))) (accepted mapped_byte)  -- none means its own number
    ∷ row 4 (paired_entry 0 [] (bay (input 0 ∷ []))) (accepted (replicate 16 0))  -- 0 bits write no entry, with an empty list too
    ∷ row 5 (paired_entry 0 (pair 0 1 ∷ []) (bay (input 8 ∷ input 8 ∷ []))) (accepted (entry 0 2 7 0x1180 1 1))  -- sharing merges, and the first one's address stays
    ∷ row 6 (paired_call (pair 16 0 ∷ []) sample_sheet) (accepted (0 ∷ 5 ∷ []))  -- a CoE sheet leaves bad pairs unread
    ∷ row 7 (paired_over (clean_from 0) (pair 16 0 ∷ []) (bay (input 8 ∷ [])) (1 ∷ []) zeros) (accepted (0 ∷ 1 ∷ []))  -- so do own numbers
    ∷ row 8 (paired_call (pair 15 0 ∷ []) (bay (input 8 ∷ []))) (accepted (0 ∷ 1 ∷ []))  -- the last FMMU
    ∷ row 9 (paired_call (pair 16 0 ∷ []) (bay (input 8 ∷ []))) (refused 18)  -- and one more
    ∷ row 10 (paired_call (pair 0 15 ∷ []) (bay (input 8 ∷ []))) (accepted (0 ∷ 1 ∷ []))  -- a sync manager that the sheet hasn't
    ∷ row 11 (paired_call (pair 0 0 ∷ pair 0 16 ∷ []) (bay (input 8 ∷ []))) (refused 18)  -- a number above 15 anywhere
    ∷ row 12 (paired_call (pair 0 1 ∷ []) (bay (input 8 ∷ output 8 ∷ []))) (refused 18)  -- an entry of both directions
    ∷ row 13 (paired_call (pair 0 1 ∷ []) (bay (input 8 ∷ output 0 ∷ []))) (accepted (0 ∷ 1 ∷ []))  -- unless one is empty
    ∷ row 14 (paired_over (clean_paired 0) (pair 0 1 ∷ []) (bay (input 8 ∷ output 8 ∷ [])) (1 ∷ 0 ∷ []) zeros) (accepted (0 ∷ 1 ∷ []))  -- by the table too
    ∷ row 15 (paired_call (pair 0 2 ∷ []) (bay (input 8 ∷ input 8 ∷ input 8 ∷ []))) (refused 18)  -- one on another entry between
    ∷ row 16 (paired_call (pair 0 2 ∷ []) (bay (input 8 ∷ input 0 ∷ input 8 ∷ []))) (accepted (0 ∷ 2 ∷ []))  -- unless it is empty
    ∷ row 17 (paired_call (pair 0 2 ∷ []) (bay (input 8 ∷ output 8 ∷ input 8 ∷ []))) (accepted (0 ∷ 2 ∷ []))  -- or of the other direction
    ∷ row 18 (paired_call (pair 1 3 ∷ []) (bay (input 8 ∷ output 8 ∷ output 8 ∷ output 8 ∷ []))) (refused 18)  -- the other direction is judged too
    ∷ row 19 (paired_call (pair 16 0 ∷ []) (set (bay (input 8 ∷ [])) 13 0x23)) (refused 5)  -- 5 comes before 18
    ∷ row 20 (paired_call (pair 16 0 ∷ []) (bay (input 65529 ∷ []))) (refused 18)  -- and 18 before 6
    ∷ row 21 (paired_over (keeping_paired 0) (pair 16 0 ∷ []) (bay (input 8 ∷ [])) (1 ∷ []) full_entry) (refused 18)  -- before 8, keeping
    ∷ row 22 (paired_over (clean_paired 1) (pair 16 0 ∷ []) (bay (input 8 ∷ [])) (1 ∷ []) zeros) (refused 18)  -- before 10
    ∷ row 23 (paired_over (clean_paired 0) (pair 16 0 ∷ []) (bay (input 8 ∷ [])) (1 ∷ []) (at_last both_full)) (refused 18)  -- before 15
    ∷ row 24 (paired_over (clean_paired 0) (pair 15 0 ∷ []) (bay (input 8 ∷ [])) (1 ∷ []) (at_last neither_full)) (refused 15)  -- the chosen entry is the wanted one
    ∷ row 25 (paired_over (clean_paired 0) (on_first 7) (bay (list_of (λ k. input 1) 8)) (replicate 8 65528) zeros) (accepted (0 ∷ 65528 ∷ []))  -- eight share an entry
    ∷ row 26 (paired_over (clean_paired 0) (on_first 8) (bay (list_of (λ k. input 1) 9)) (replicate 9 65528) zeros) (refused 8)  -- nine have no room
    ∷ row 27 (paired_call (pair 5 0 ∷ pair 16 0 ∷ []) (bay (input 8 ∷ []))) (refused 18)  -- a number above 15 in a pair that doesn't decide
    ∷ row 28 (paired_call (pair 16 0 ∷ []) (bay [])) (refused 18)  -- and where nothing is mapped
    ∷ row 29 (paired_over (clean_paired 0) (pair 16 0 ∷ []) (bay (input 8 ∷ [])) (1 ∷ []) []) (refused 1)  -- 1 comes before 18
    ∷ row 30 (inputs_at (paired_by (clean_paired 0) (lent_at 4294967295 0) (pair 16 0 ∷ []) (bay (input 8 ∷ [])) (1 ∷ []) zeros)) (refused 18)  -- and 18 before 9
    ∷ row 31 (both_at (paired_by (clean_paired 0) (lent_at 0 0) (pair 5 1 ∷ []) (bay (input 8 ∷ output 16 ∷ [])) (1 ∷ 1 ∷ []) zeros)) (accepted (0 ∷ 1 ∷ 1 ∷ 3 ∷ []))  -- the outputs are mapped by pairs too
    ∷ row 32 (paired_entry 5 (pair 5 1 ∷ []) (bay (input 8 ∷ output 16 ∷ []))) (accepted (entry 1 2 7 0x1190 2 1))  -- on the chosen entry
    ∷ row 33 (paired_over (clean_paired 0) (pair 15 0 ∷ []) (bay (input 8 ∷ [])) (1 ∷ []) (at_last output_full)) (accepted (0 ∷ 1 ∷ []))  -- an old output on the chosen entry is cleared
    ∷ []

-- an input of one byte on the entry 0 and an output of one byte on the entry 1
abbrev pub two_bytes : List ℕ
two_bytes = bay (input 8 ∷ output 8 ∷ [])

-- two entries, 0 and 1
abbrev pub first_two : List ℕ → List ℕ → List ℕ
first_two e f = with_zeros (e ∷ f ∷ [])

-- both segments of a call with these settings, from an input and an output offset; and of document 01's sheet over zeros
abbrev pub two_from : Settings → ℕ → ℕ → List ℕ → Outcome (List ℕ)
two_from settings inputs outputs area = both_at (call_by settings (lent_at inputs outputs) two_bytes area)

abbrev pub sample_from : OutputStart → ℕ → ℕ → ℕ → Outcome (List ℕ)
sample_from how group inputs outputs = both_at (call_by (clean OwnNumber how group) (lent_at inputs outputs) sample_sheet zeros)

-- document 01's sheet with a usage taken away and these multipliers: 36 is the outputs' place, 37 the inputs'
abbrev pub without_usage : ℕ → List ℕ → List ℕ → Outcome (List ℕ)
without_usage place ws area = both_at (call (set sample_sheet place 0) ws nothing_chosen (lent_at 0 0) (keeping_from 0) area zero_channels)

-- the lent offsets as a call leaves them; an FMMU entry and a sync manager's image as it leaves them, refused or not
abbrev pub moved_to : Settings → ℕ → ℕ → List ℕ → Outcome (List ℕ)
moved_to settings inputs outputs area =
    let o = offsets_after (call_by settings (lent_at inputs outputs) two_bytes area) (lent_at inputs outputs) in
    accepted (o.inputs.start_address ∷ o.outputs.start_address ∷ [])

abbrev pub left_at : ℕ → List ℕ → Outcome (List ℕ)
left_at k area =
    accepted (get_or (entries_of 16 (entries_after (call_over two_bytes area) (sheet_data two_bytes) (ones two_bytes) nothing_chosen (lent_at 0 0) (clean_from 0) area)) k [])

abbrev pub image_left : ℕ → List ℕ → Outcome (List ℕ)
image_left k area = accepted (get_or (entries_of 8 (images_after (call_over two_bytes area) (sheet_data two_bytes) (ones two_bytes) zero_channels)) k [])

abbrev pub call_cases : List Row
call_cases =
    row 1 (sample_from AfterInputs 0 0 1000) (accepted (0 ∷ 5 ∷ 5 ∷ 7 ∷ []))  -- straight after the inputs the lent output offset isn't read
    ∷ row 2 (sample_from Given 0 0 1000) (accepted (0 ∷ 5 ∷ 1000 ∷ 1002 ∷ []))  -- given, it is
    ∷ row 3 (sample_from Given 0 0 0) (accepted (0 ∷ 5 ∷ 0 ∷ 2 ∷ []))  -- the two may lie over one another
    ∷ row 4 (sample_from AfterInputs 10 12 0) (accepted (2 ∷ 7 ∷ 7 ∷ 9 ∷ []))  -- one group start; an offset that isn't read isn't below it
    ∷ row 5 (sample_from Given 10 12 9) (refused 10)  -- a given one is
    ∷ row 6 (sample_from Given 10 12 10) (accepted (2 ∷ 7 ∷ 0 ∷ 2 ∷ []))  -- at it, it is not
    ∷ row 7 (sample_from Given 10 9 10) (refused 10)  -- nor may the inputs' be below
    ∷ row 8 (both_at (call_over (bay (output 16 ∷ [])) zeros)) (accepted (0 ∷ 0 ∷ 0 ∷ 2 ∷ []))  -- straight after no inputs
    ∷ row 9 (two_from (clean_from 0) 4294967294 0 zeros) (refused 9)  -- the outputs go on past the last offset
    ∷ row 10 (two_from (clean OwnNumber Given 0) 4294967294 0 zeros) (accepted (4294967294 ∷ 4294967295 ∷ 0 ∷ 1 ∷ []))  -- given, they do not
    ∷ row 11 (without_usage 37 (1 ∷ 1 ∷ 1 ∷ []) zeros) (refused 7)  -- CoE, no entry has the inputs' usage
    ∷ row 12 (without_usage 37 (1 ∷ 1 ∷ 4096 ∷ []) zeros) (refused 6)  -- and the outputs are 65,536 bits: 6 comes first
    ∷ row 13 (without_usage 36 (4096 ∷ 1 ∷ 1 ∷ []) zeros) (refused 6)  -- the other way round
    ∷ row 14 (without_usage 37 (1 ∷ 1 ∷ 1 ∷ []) (at_first output_full)) (refused 7)  -- 7 of the inputs, 8 of the outputs
    ∷ row 15 (without_usage 36 (1 ∷ 1 ∷ 1 ∷ []) (at_first input_full)) (refused 7)  -- 7 of the outputs, 8 of the inputs
    ∷ row 16 (two_from (keeping OwnNumber Given 0) 4294967295 0 (first_two (replicate 16 0) output_full)) (refused 8)  -- 9 of the inputs, 8 of the outputs
    ∷ row 17 (two_from (keeping OwnNumber Given 0) 0 4294967295 (first_two input_full (replicate 16 0))) (refused 8)  -- 8 of the inputs, 9 of the outputs
    ∷ row 18 (two_from (clean OwnNumber Given 1) 0 4294967295 zeros) (refused 9)  -- 10 of the inputs, 9 of the outputs
    ∷ row 19 (two_from (clean OwnNumber Given 1) 4294967295 0 zeros) (refused 9)  -- 9 of the inputs, 10 of the outputs
    ∷ row 20 (two_from (clean OwnNumber Given 1) 1 0 (first_two neither_full (replicate 16 0))) (refused 10)  -- 15 of the inputs, 10 of the outputs
    ∷ row 21 (two_from (clean OwnNumber Given 1) 0 1 (first_two (replicate 16 0) neither_full)) (refused 10)  -- 10 of the inputs, 15 of the outputs
    ∷ row 22 (two_from (clean_from 0) 0 0 (first_two (replicate 16 0) neither_full)) (refused 15)  -- an entry that an output wants is in the way
    ∷ row 23 (two_from (clean_from 0) 0 0 (first_two output_full input_full)) (accepted (0 ∷ 1 ∷ 1 ∷ 2 ∷ []))  -- either wants an old entry of the other: both are cleared before either is planned
    ∷ row 24 (left_at 0 (first_two output_full input_full)) (accepted mapped_byte)  -- the input's entry then
    ∷ row 25 (left_at 1 (first_two output_full input_full)) (accepted (entry 1 1 7 0x1190 2 1))  -- and the output's
    ∷ row 26 (left_at 0 (first_two output_full both_full)) (accepted output_full)  -- refused with 15, nothing is cleared
    ∷ row 27 (left_at 1 (first_two neither_full input_full)) (accepted input_full)  -- of neither direction
    ∷ row 28 (image_left 0 zeros) (accepted (0x80 ∷ 0x11 ∷ 1 ∷ 0 ∷ 0x20 ∷ 0 ∷ 1 ∷ 0 ∷ []))  -- the image of the input
    ∷ row 29 (image_left 1 zeros) (accepted (0x90 ∷ 0x11 ∷ 1 ∷ 0 ∷ 0x64 ∷ 0 ∷ 1 ∷ 0 ∷ []))  -- and of the output
    ∷ row 30 (image_left 1 (at_first neither_full)) (accepted (replicate 8 0))  -- refused for the input, the output's isn't written
    ∷ row 31 (image_left 0 (first_two (replicate 16 0) neither_full)) (accepted (replicate 8 0))  -- nor the input's for the output
    ∷ row 32 (moved_to (clean_from 0) 3 1000 zeros) (accepted (4 ∷ 5 ∷ []))  -- each offset is left at its direction's end, one that wasn't read too
    ∷ row 33 (moved_to (clean OwnNumber Given 0) 3 1000 zeros) (accepted (4 ∷ 1001 ∷ []))  -- given, at its own
    ∷ row 34 (moved_to (clean_from 0) 3 1000 (at_last both_full)) (accepted (3 ∷ 1000 ∷ []))  -- refused, both stay
    ∷ []

-- an image with this control byte
abbrev pub image_with : ℕ → List ℕ
image_with control = 0x80 ∷ 0x11 ∷ 1 ∷ 0 ∷ control ∷ 0 ∷ 1 ∷ 0 ∷ []

-- its channel, but of this mode and direction; and what writing that into room of so many bytes answers
abbrev pub channel_with : OperationMode → Direction → SyncManagerChannel
channel_with m d =
    record {
      physical_start_address = 0x1180;
      length_bytes = record { 0 = 1 };
      control = record { operation_mode = m; direction = d; ecat_event_enable = false; dls_user_event_enable = true; watchdog_enable = false };
      status = status_at 0;
      enable = enable_at 1 0;
    }

abbrev pub written_into : ℕ → OperationMode → Direction → Outcome (List ℕ)
written_into room m d = number (write_channel (channel_with m d) (replicate room 0))

-- document 02, 8/13
abbrev pub unnamed_cases : List Row
unnamed_cases =
    row 1 (control (control_at 0x23)) (accepted (3 ∷ 1 ∷ 0x23 ∷ []))  -- mode 3 is shown, and is written again
    ∷ row 2 (control (control_at 0xaf)) (accepted (3 ∷ 1 ∷ 0x2f ∷ []))  -- so is direction 3 beside it; bit 7 is dropped
    ∷ row 3 (rewritten (read_channel (image_with 0x29))) (accepted (image_with 0x29))  -- mode 1 and direction 2, in an image
    ∷ row 4 (rewritten (read_channel (0 ∷ image_with 0x23))) (refused 1)  -- nine bytes
    ∷ row 5 (written_into 8 (mode.Unnamed 1) (direction.Unnamed 3)) (accepted (8 ∷ []))  -- numbers of two bits without a name
    ∷ row 6 (written_into 8 (mode.Unnamed 3) (direction.Unnamed 2)) (accepted (8 ∷ []))
    ∷ row 7 (written_into 8 (mode.Unnamed 0) direction.MasterRead) (refused 13)  -- modes that have names
    ∷ row 8 (written_into 8 (mode.Unnamed 2) direction.MasterRead) (refused 13)
    ∷ row 9 (written_into 8 mode.Normal (direction.Unnamed 0)) (refused 13)  -- directions that do
    ∷ row 10 (written_into 8 mode.Normal (direction.Unnamed 1)) (refused 13)
    ∷ row 11 (written_into 8 (mode.Unnamed 4) direction.MasterRead) (refused 13)  -- above 3
    ∷ row 12 (written_into 8 mode.Normal (direction.Unnamed 255)) (refused 13)
    ∷ row 13 (written_into 7 (mode.Unnamed 4) direction.MasterRead) (refused 1)  -- 1 before 13
    ∷ row 14 (accepted (image_of (channel_with (mode.Unnamed 255) (direction.Unnamed 6)))) (accepted (image_with 0x2b))  -- the low two bits of each
    ∷ row 15 (accepted (mode_text (mode.Unnamed 255))) (accepted (44 ∷ 32 ∷ 109 ∷ 111 ∷ 100 ∷ 101 ∷ 32 ∷ 117 ∷ 110 ∷ 110 ∷ 97 ∷ 109 ∷ 101 ∷ 100 ∷ 32 ∷ 50 ∷ 53 ∷ 53 ∷ []))  -- any number is printed
    ∷ row 16 (accepted (direction_text (direction.Unnamed 3))) (accepted (44 ∷ 32 ∷ 100 ∷ 105 ∷ 114 ∷ 101 ∷ 99 ∷ 116 ∷ 105 ∷ 111 ∷ 110 ∷ 32 ∷ 117 ∷ 110 ∷ 110 ∷ 97 ∷ 109 ∷ 101 ∷ 100 ∷ 32 ∷ 51 ∷ []))
    ∷ []
