-- Bytes that a call writes into lent room. Where the call is accepted they stand at the front, and room past them stays; where it is refused all of
-- the room stays. A text or an image is written so, and its length is answered.
-- Assumes nothing.
use Rattle.std.specs.Prelude.{◌≡◌, List, [], ◌∷◌, ◌++◌, ℕ, min, length, take, drop, ltb, Result}
use Rattle.wire.specs.Outcome.{Outcome, refused, accepted, when, decide, outcome_by}
use Rattle.wire.specs.declared.Reason.{Reason}

-- the room with s written over its front, as far as both go
abbrev pub over : List ℕ → List ℕ → List ℕ
over s room = take (min (length s) (length room)) s ++ drop (min (length s) (length room)) room

-- what the room holds after a call with this outcome
abbrev pub room_after : {A : Type 0} → Outcome A → List ℕ → List ℕ → List ℕ
room_after (refused n) s room = room
room_after (accepted x) s room = over s room

-- what writing says: a length, or a refusal
abbrev pub written_of : Result ℕ Reason → Outcome ℕ
written_of r = outcome_by (λ n. n) r

-- the promise of a call with this outcome: its answer, and what the room holds then
pub record InRoom (outcome : Outcome ℕ) (s room : List ℕ) (answer : Result ℕ Reason) (after : List ℕ) : Type 0 where
  pub says : written_of answer ≡ outcome
  pub holds : after ≡ room_after outcome s room

-- a text: 12 where it is longer than the room lent
abbrev pub text_in : List ℕ → List ℕ → Outcome ℕ
text_in s room = decide (when 12 (ltb (length room) (length s)) ∷ []) (length s)
