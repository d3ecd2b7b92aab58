-- The length of a device sheet (document 01, 'The device sheet'), big-endian: refusal 2.
-- Assumes nothing.
use Rattle.std.specs.Prelude.{Bool, not, ◌||◌, List, ℕ, ◌+◌, length, eqb, ltb}
use Rattle.wire.specs.Number.{big_at}

-- 0-1: L, the bytes that follow
abbrev pub follow : List ℕ → ℕ
follow s = big_at s 0 2

-- 2: under 2 bytes, not L+2 long, or L out of range
unfoldable pub wrong_length : List ℕ → Bool
wrong_length s = ltb (length s) 2 || (not (eqb (length s) (follow s + 2)) || (ltb (follow s) 9 || ltb 16384 (follow s)))
