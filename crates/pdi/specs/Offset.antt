-- An offset goes forward by bytes, or by bits rounded up.
-- Assumes nothing.
use Rattle.std.specs.Prelude.{Bool, [], ◌∷◌, ℕ, ◌+◌, ltb, Result}
use Rattle.wire.specs.Outcome.{Outcome, when, decide, outcome_by}
use Rattle.wire.specs.declared.Reason.{Reason}
use Rattle.pdi.specs.Unit.{bytes_of, too_many_bits}
use Rattle.pdi.specs.declared.PdiOffset.{PdiOffset}

-- 9: the exact end offset exceeds 4,294,967,295
abbrev pub past_end : ℕ → Bool
past_end end = ltb 4294967295 end

-- the offset at an exact place
abbrev pub offset_at : ℕ → Outcome ℕ
offset_at exact = decide (when 9 (past_end exact) ∷ []) exact

abbrev pub incremented : ℕ → ℕ → Outcome ℕ
incremented start bytes = offset_at (start + bytes)

abbrev pub incremented_byte_aligned : ℕ → ℕ → Outcome ℕ
incremented_byte_aligned start bits =
    decide (when 6 (too_many_bits bits) ∷ when 9 (past_end (start + bytes_of bits)) ∷ []) (start + bytes_of bits)

-- what a step says: the next offset, or a refusal
abbrev pub moved_of : Result PdiOffset Reason → Outcome ℕ
moved_of r = outcome_by (λ o. o.start_address) r
