-- Bits and bytes: rounding up is the only way from one to the other.
-- Assumes nothing.
use Rattle.std.specs.Prelude.{Bool, [], ◌∷◌, ℕ, ◌+◌, ◌/◌, ltb, Result}
use Rattle.wire.specs.Outcome.{Outcome, when, decide, outcome_by}
use Rattle.wire.specs.declared.Reason.{Reason}
use Rattle.pdi.specs.declared.ByteLen.{ByteLen}

-- bits rounded up: (bits+7)/8
abbrev pub bytes_of : ℕ → ℕ
bytes_of bits = (bits + 7) / 8

-- 6: the exact bits exceed 65,528
abbrev pub too_many_bits : ℕ → Bool
too_many_bits bits = ltb 65528 bits

abbrev pub rounded_up : ℕ → Outcome ℕ
rounded_up bits = decide (when 6 (too_many_bits bits) ∷ []) (bytes_of bits)

-- what rounding says: a number of bytes, or a refusal
abbrev pub rounded_of : Result ByteLen Reason → Outcome ℕ
rounded_of r = outcome_by (λ b. b.0) r
