-- A field of a byte, as a remainder: the bits from `shift` on, `width` of them.
-- Assumes nothing.
use Rattle.std.specs.Prelude.{Bool, true, false, ℕ, ◌/◌, ◌%◌, ◌^◌, eqb}

abbrev pub bits_at : ℕ → ℕ → ℕ → ℕ
bits_at byte shift width = byte / 2 ^ shift % 2 ^ width

-- a field of one bit
abbrev pub flag_at : ℕ → ℕ → Bool
flag_at byte shift = eqb (bits_at byte shift 1) 1

-- the bit that a flag is written as
abbrev pub bit : Bool → ℕ
bit true = 1
bit false = 0
