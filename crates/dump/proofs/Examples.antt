-- The theorems aren't empty: dumps that are read, computed, each refusal, and a call that keeps the promise.
-- Assumes nothing.
use mathlib.Core.Path.{◌≡◌, refl}
use mathlib.Core.Bool.{true, false}
use mathlib.Core.List.{List, [], ◌∷◌, ◌++◌}
use Prim.Native.Nat.{ℕ, ◌<◌}
use native.Mathlib.Omega.{arith}
use lib.ListN.{take, drop, replicate}
use lib.Dec.{ltb}
use borrow.Author.Tests.{ltb-false}
use Rattle.wire.specs.Image.{Bytes}
use Rattle.wire.specs.Lists.{list_of, some_of}
use Rattle.wire.specs.Outcome.{Outcome, refused, accepted}
use Rattle.wire.specs.Field.{flag_at}
use Rattle.wire.proofs.Lists.{none_of}
use Rattle.area.specs.Area.{flat}
use Rattle.channel_bytes.specs.Bytes.{control_at, unnamed, control_byte}
use Rattle.std.specs.Prelude.{Ok}
use Rattle.sheet.specs.Device.{Data, pdos_from, data_of}
use Rattle.sheet.specs.Sheet.{some_unnamed}
use Rattle.writer.specs.Form.{body_bytes, sheet_of}
use Rattle.writer.proofs.Examples.{bytes_of}
use Rattle.dump.specs.declared.Head.{Head}
use Rattle.dump.specs.Parts.{cut_in}
use Rattle.dump.specs.Categories.{categories, unended}
use Rattle.dump.specs.Records.{pdos_in, not_records}
use Rattle.dump.specs.Dump.{dump_data, read_dump, device_with, records_after}
use Rattle.dump.specs.Calls.{Call, Category, Between, Behind}

abbrev pub head_with : (flags : ℕ) → Head
head_with flags = record { flags = flags; receive_size = record { 0 = 0 }; send_size = record { 0 = 0 } }

-- a bay: two FMMU usages, of which 0xFF is unused; a sync manager at 0x1180; an RxPDO 0x1600 of one entry of 16 bits; strings, which are stepped over;
-- a TxPDO 0x1A00 of two entries, of 12 and 5 bits; the end mark, and a byte behind it
abbrev pub bay : (control : ℕ) → List ℕ
bay control =
    (40 ∷ 0 ∷ 1 ∷ 0 ∷ 255 ∷ 2 ∷ [])
    ++ ((41 ∷ 0 ∷ 4 ∷ 0 ∷ 128 ∷ 17 ∷ 3 ∷ 0 ∷ control ∷ 0 ∷ 1 ∷ 4 ∷ [])
    ++ ((51 ∷ 0 ∷ 8 ∷ 0 ∷ 0 ∷ 22 ∷ 1 ∷ 2 ∷ 0 ∷ 0 ∷ 0 ∷ 0 ∷ 0 ∷ 112 ∷ 1 ∷ 0 ∷ 6 ∷ 16 ∷ 0 ∷ 0 ∷ [])
    ++ ((10 ∷ 0 ∷ 1 ∷ 0 ∷ 1 ∷ 0 ∷ [])
    ++ ((50 ∷ 0 ∷ 12 ∷ 0 ∷ 0 ∷ 26 ∷ 2 ∷ 0 ∷ 0 ∷ 0 ∷ 0 ∷ 0 ∷ 0 ∷ 96 ∷ 1 ∷ 0 ∷ 6 ∷ 12 ∷ 0 ∷ 0 ∷ 0 ∷ 96 ∷ 2 ∷ 0 ∷ 5 ∷ 5 ∷ 0 ∷ 0 ∷ []) ++ (255 ∷ 255 ∷ 7 ∷ [])))))

-- what it gives: the output's PDO first, as in the dump
abbrev pub bay_data : Data
bay_data =
    record {
      mailbox = false;
      coe_protocol = false;
      complete = false;
      receive = 0;
      send = 0;
      managers = record { start_addr = 4480; control = control_at 32; enable = flag_at 1 0; usage_type = 4 } ∷ [];
      usages = 0 ∷ 2 ∷ [];
      pdos = record { kind = 2; manager = 2; index = 5632; lengths = 16 ∷ [] } ∷ record { kind = 1; manager = 0; index = 6656; lengths = 17 ∷ [] } ∷ [];
    }

pub bay-reads : read_dump (head_with 0) (bay 32) (replicate 14 9) ≡ accepted bay_data
unfolding read_dump unended not_records dump_data categories cut_in pdos_in list_of flat some_unnamed unnamed control_at
bay-reads = refl

-- its sheet: L 30, one sync manager, two usages, two PDOs
pub bay-sheet :
    sheet_of bay_data
    ≡ (0 ∷ 30 ∷ 1 ∷ 0 ∷ 0 ∷ 0 ∷ 0 ∷ 0 ∷ 1 ∷ 2 ∷ 2 ∷ 17 ∷ 128 ∷ 32 ∷ 1 ∷ 4 ∷ 0 ∷ 2 ∷ [])
    ++ (2 ∷ 2 ∷ 22 ∷ 0 ∷ 2 ∷ 0 ∷ 16 ∷ 1 ∷ 0 ∷ 26 ∷ 0 ∷ 2 ∷ 0 ∷ 17 ∷ [])
unfolding sheet_of body_bytes flat control_at control_byte
bay-sheet = refl

-- no number is above 255, so all are bytes
all-bytes : (l : List ℕ) → some_of (ltb 255) l ≡ false → Bytes l
all-bytes l e = bytes_of l (none_of (ltb 255) (λ (b : ℕ). b < 256) (λ b z. let h = ltb-false 255 b z in omega arith) l e)

-- the smallest dump is the end mark: it is accepted, and gives nothing but what the caller gave
pub mark-alone :
    read_dump (head_with 1) (255 ∷ 255 ∷ []) []
    ≡ accepted (record { mailbox = true; coe_protocol = false; complete = false; receive = 0; send = 0; managers = []; usages = []; pdos = [] })
unfolding read_dump unended not_records dump_data categories cut_in pdos_in flat some_unnamed
mark-alone = refl

-- the bay's strings stand between others, and can be left out
abbrev strings : Category
strings = record { type_word = 10; words = 1; content = 1 ∷ 0 ∷ []; no_mark = omega arith; fits = omega arith; even = refl }

abbrev others : List Category
others =
    record { type_word = 40; words = 1; content = 255 ∷ 2 ∷ []; no_mark = omega arith; fits = omega arith; even = refl }
    ∷ record { type_word = 41; words = 4; content = 128 ∷ 17 ∷ 3 ∷ 0 ∷ 32 ∷ 0 ∷ 1 ∷ 4 ∷ []; no_mark = omega arith; fits = omega arith; even = refl }
    ∷ record {
      type_word = 51;
      words = 8;
      content = 0 ∷ 22 ∷ 1 ∷ 2 ∷ 0 ∷ 0 ∷ 0 ∷ 0 ∷ 0 ∷ 112 ∷ 1 ∷ 0 ∷ 6 ∷ 16 ∷ 0 ∷ 0 ∷ [];
      no_mark = omega arith;
      fits = omega arith;
      even = refl;
    }
    ∷ []

pub strings-between : Between (take 38 (bay 32) ++ drop 44 (bay 32)) (bay 32)
unfolding flat
strings-between =
    record {
      front = others;
      category = strings;
      back = drop 44 (bay 32);
      unknown = record { no_fmmu = λ e. omega arith; no_manager = λ e. omega arith; no_inputs = λ e. omega arith; no_outputs = λ e. omega arith };
      without = refl;
      with = refl;
    }

-- and so can the byte behind its mark
pub byte-behind : Behind (take 74 (bay 32)) (bay 32)
unfolding unended categories cut_in
byte-behind = record { bytes = all-bytes (take 74 (bay 32)) refl; ended = refl; more = 7 ∷ []; longer = refl }

-- each refusal: no byte; a SyncM of one word, with the mark and without it; flag bit 3; a control of mode 3; a room one byte short
pub refusals :
    (read_dump (head_with 0) [] [] ≡ refused 16)
    × (read_dump (head_with 8) (41 ∷ 0 ∷ 1 ∷ 0 ∷ 0 ∷ 0 ∷ 255 ∷ 255 ∷ []) [] ≡ refused 17)
    × (read_dump (head_with 8) (41 ∷ 0 ∷ 1 ∷ 0 ∷ 0 ∷ 0 ∷ []) [] ≡ refused 16)
    × (read_dump (head_with 8) (bay 35) [] ≡ refused 4)
    × (read_dump (head_with 0) (bay 35) [] ≡ refused 5)
    × (read_dump (head_with 0) (bay 32) (replicate 13 9) ≡ refused 12)
unfolding read_dump unended not_records dump_data categories cut_in pdos_in list_of flat some_unnamed unnamed control_at
refusals = (refl, refl, refl, refl, refl, refl)

-- a call that reads the bay into a room of 16 bytes: two of them stay
pub call : Call
unfolding read_dump unended not_records dump_data categories cut_in pdos_in pdos_from data_of list_of flat some_unnamed unnamed control_at
call =
    let o : Outcome Data = read_dump (head_with 0) (bay 32) (replicate 16 9) in
    record {
      head = head_with 0;
      dump = bay 32;
      room = replicate 16 9;
      read = Ok (device_with (head_with 0) bay_data.managers bay_data.usages 2);
      left = records_after o (replicate 16 9);
      range = record { receive = omega arith; send = omega arith; bytes = all-bytes (bay 32) refl; room_bytes = all-bytes (replicate 16 9) refl };
      promise = record { says = refl; holds = refl; leaves = refl };
    }
