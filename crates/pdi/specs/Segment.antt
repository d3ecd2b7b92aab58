-- A segment: from its start up to, and without, its end; counted from a group's start; its text.
-- Assumes nothing.
use Rattle.std.specs.Prelude.{Bool, cond, ◌||◌, List, [], ◌∷◌, ◌++◌, ℕ, ◌-◌, ltb, Result}
use Rattle.wire.specs.Outcome.{Outcome, when, decide, outcome_by}
use Rattle.wire.specs.declared.Reason.{Reason}
use Rattle.wire.specs.Text.{hex_of}
use Rattle.pdi.specs.declared.PdiSegment.{PdiSegment}

abbrev pub segment : ℕ → ℕ → PdiSegment
segment start end = record { start = start; end = end }

-- how many bytes it has: none where its end isn't above its start
abbrev pub len_of : PdiSegment → ℕ
len_of s = s.end - s.start

-- 10: the offset is below the group start
abbrev pub below_group : PdiSegment → ℕ → Bool
below_group s group = ltb s.start group || ltb s.end group

abbrev pub less_group : PdiSegment → ℕ → Outcome PdiSegment
less_group s group = decide (when 10 (below_group s group) ∷ []) (segment (s.start - group) (s.end - group))

-- what counting from a group's start says: the segment, or a refusal
abbrev pub placed_of : Result PdiSegment Reason → Outcome PdiSegment
placed_of r = outcome_by (λ s. s) r

-- (empty)
abbrev pub empty_text : List ℕ
empty_text = 40 ∷ 101 ∷ 109 ∷ 112 ∷ 116 ∷ 121 ∷ 41 ∷ []

-- 0x00000000..0x00000005, or (empty) where its end isn't above its start
unfoldable pub segment_text : PdiSegment → List ℕ
segment_text s = cond (ltb s.start s.end) (hex_of 8 s.start ++ (46 ∷ 46 ∷ hex_of 8 s.end)) empty_text
