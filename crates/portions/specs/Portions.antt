-- Taking a sheet in portions (document 02, 1/13): what one call does, whatever state and room it is handed.
-- Assumes nothing.
use Rattle.std.specs.Prelude.{◌≡◌, Bool, false, ◌||◌, List, [], ◌∷◌, ◌++◌, ℕ, ◌+◌, ◌-◌, length, take, ltb, Result}
use Rattle.wire.specs.Outcome.{Outcome, refused, accepted, when, first, decide, outcome_by}
use Rattle.wire.specs.declared.Reason.{Reason}
use Rattle.wire.specs.Room.{room_after}
use Rattle.sheet.specs.declared.Device.{Device}
use Rattle.sheet.specs.Device.{Data}
use Rattle.sheet.specs.Sheet.{read_sheet, Reads}
use Rattle.portions.specs.declared.State.{State}

-- before the first portion nothing has come
abbrev pub begun : State
begun = record { held = 0; surplus = false }

-- the bytes that are held, as many as the state says: the front of the room
abbrev pub held_in : State → List ℕ → List ℕ
held_in st room = take st.held room

-- the bytes of a portion that are stored; surplus bytes are not
abbrev pub stored : State → List ℕ → List ℕ
stored st portion = take (16386 - st.held) portion

-- with the portion taken: so many are held, and whether a byte was left out is remembered
abbrev pub state_with : State → List ℕ → State
state_with st portion =
    record {
      held = st.held + length (stored st portion);
      surplus = st.surplus || ltb (length (stored st portion)) (length portion);
    }

-- 14: the room lent at this call is under 16,386 bytes
abbrev pub short_room : List ℕ → Bool
short_room room = ltb (length room) 16386

-- taking a portion, and its refusals in their order: nothing but 14 is reported before the end
unfoldable pub taking : State → List ℕ → List ℕ → Outcome State
taking st portion room = decide (when 14 (short_room room) ∷ []) (state_with st portion)

-- what taking says: how far the sheet has come then, or a refusal
abbrev pub taken_of : Result State Reason → Outcome State
taken_of r = outcome_by (λ new. new) r

-- the state that a caller goes on with after a call with this outcome: its own, as before, where it is refused
abbrev pub state_after : Outcome State → State → State
state_after (refused n) st = st
state_after (accepted new) st = new

-- the promise of `take`: its answer, the state that the caller goes on with, and the room, which then holds the bytes come so far at its front; its
-- rest stays
pub record Takes (st : State) (portion room : List ℕ) (r : Result State Reason) (after : List ℕ) : Type 0 where
  pub says : taken_of r ≡ taking st portion room
  pub state : state_after (taken_of r) st ≡ state_after (taking st portion room) st
  pub holds : after ≡ room_after (taking st portion room) (held_in st room ++ stored st portion) room

-- 2 by what is remembered: a surplus byte came. A made-up state can say more than 16,386 held; that is surplus too
abbrev pub too_many : State → Bool
too_many st = st.surplus || ltb 16386 st.held

-- the end, and its refusals in their order: 14; 2 for surplus; then the reader's own of what is held
unfoldable pub ending : State → List ℕ → Outcome Data
ending st room = first (when 14 (short_room room) ∷ when 2 (too_many st) ∷ []) (read_sheet (held_in st room))

-- the promise of `end`: this outcome, by the type and in the form of reading
abbrev pub Ends : State → List ℕ → Result Device Reason → Type 0
Ends st room r = Reads (ending st room) (held_in st room) r
