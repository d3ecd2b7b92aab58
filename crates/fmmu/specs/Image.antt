-- ETG1000.4 Table 56, the FMMU entity: sixteen bytes, little-endian, and the fields that they hold.
-- Assumes nothing.
use Rattle.std.specs.Prelude.{Bool, ◌||◌, List, [], ◌∷◌, ◌++◌, ℕ, ◌+◌, ◌*◌, ◌%◌, ◌^◌, ◌<◌, get_or, ltb, Result}
use Rattle.wire.specs.Outcome.{Outcome, when, decide, outcome_by}
use Rattle.wire.specs.declared.Reason.{Reason}
use Rattle.wire.specs.Field.{bits_at, flag_at, bit}
use Rattle.wire.specs.Number.{little_at, little_of}
use Rattle.wire.specs.Image.{not_long, Part, part}
use Rattle.fmmu.specs.declared.Fmmu.{Fmmu}

-- what an image says
unfoldable pub fields_of : List ℕ → Fmmu
fields_of l =
    record {
      logical_start_address = little_at l 0 4;  -- 0-3: logical start
      length_bytes = record { 0 = little_at l 4 2 };  -- 4-5: length in bytes
      logical_start_bit = bits_at (get_or l 6 0) 0 3;  -- 6: start bit (bits 0-2)
      logical_end_bit = bits_at (get_or l 7 0) 0 3;  -- 7: end bit (0-2)
      physical_start_address = little_at l 8 2;  -- 8-9: physical start
      physical_start_bit = bits_at (get_or l 10 0) 0 3;  -- 10: physical start bit (0-2)
      read_enable = flag_at (get_or l 11 0) 0;  -- 11: bit 0 read
      write_enable = flag_at (get_or l 11 0) 1;  --     bit 1 write
      enable = flag_at (get_or l 12 0) 0;  -- 12: bit 0 enable
    }

-- the rest is reserved
abbrev pub reserved : List Part
reserved = part 6 3 5 ∷ part 7 3 5 ∷ part 10 3 5 ∷ part 11 2 6 ∷ part 12 1 7 ∷ part 13 0 8 ∷ part 14 0 8 ∷ part 15 0 8 ∷ []

-- the image of a record: each field in its place, of a bit field its three bits, reserved bits 0
unfoldable pub image_of : Fmmu → List ℕ
image_of f =
    little_of 4 f.logical_start_address
    ++ little_of 2 f.length_bytes.0
    ++ (f.logical_start_bit % 8 ∷ f.logical_end_bit % 8 ∷ [])
    ++ little_of 2 f.physical_start_address
    ++ (f.physical_start_bit % 8 ∷ (bit f.read_enable + 2 * bit f.write_enable) ∷ bit f.enable ∷ 0 ∷ 0 ∷ 0 ∷ [])

-- the addresses and the length are in the range of their types: four bytes and two
pub record InRange (f : Fmmu) : Type 0 where
  pub start : f.logical_start_address < 256 ^ 4
  pub size : f.length_bytes.0 < 256 ^ 2
  pub physical : f.physical_start_address < 256 ^ 2

-- each number of a record fits its width in the image
pub record Fits (f : Fmmu) : Type 0 where
  pub start : f.logical_start_address < 256 ^ 4
  pub size : f.length_bytes.0 < 256 ^ 2
  pub physical : f.physical_start_address < 256 ^ 2
  pub start_bit : f.logical_start_bit < 8
  pub end_bit : f.logical_end_bit < 8
  pub physical_bit : f.physical_start_bit < 8

-- 13: a bit field above 7
unfoldable pub too_wide : Fmmu → Bool
too_wide f = ltb 7 f.logical_start_bit || (ltb 7 f.logical_end_bit || ltb 7 f.physical_start_bit)

-- reading and writing a single image, with their refusals
abbrev pub read_entry : List ℕ → Outcome Fmmu
read_entry l = decide (when 1 (not_long 16 l) ∷ []) (fields_of l)

abbrev pub write_entry : Fmmu → List ℕ → Outcome ℕ
write_entry f room = decide (when 1 (not_long 16 room) ∷ when 13 (too_wide f) ∷ []) 16

-- what reading says: the entry, or a refusal
abbrev pub fmmu_read_of : Result Fmmu Reason → Outcome Fmmu
fmmu_read_of r = outcome_by (λ f. f) r
