-- The theorem of document 02, 1/13, in words of the calls: however a sheet is cut, the end answers what reading all that was taken answers.
-- Each `promise` is the function's own `ensures`, at the values of the call: `Contracts` in proofs/ makes these records of the contracts.
-- Assumes nothing.
use Rattle.std.specs.Prelude.{◌≡◌, true, false, cond, List, [], ◌∷◌, ◌++◌, map, ℕ, length, take, ltb, Result, Ok, Err, OnOk}
use Rattle.wire.specs.Outcome.{refused, accepted, outcome_by}
use Rattle.wire.specs.declared.Reason.{Reason}
use Rattle.wire.specs.Room.{over}
use Rattle.wire.specs.Lists.{Each}
use Rattle.area.specs.Area.{flat}
use Rattle.sheet.specs.declared.Device.{Device}
use Rattle.sheet.specs.Sheet.{sheet_read_of, ReadsAs}
use Rattle.portions.specs.declared.State.{State}
use Rattle.portions.specs.Portions.{begun, held_in, short_room, taken_of, state_after, Takes, Ends}

-- a call of `take`: what it was handed and lent, what it answered, and what it left in the room
pub record Call : Type 0 where
  pub given : State
  pub portion : List ℕ
  pub room : List ℕ
  pub taken : Result State Reason
  pub left : List ℕ
  pub promise : Takes given portion room taken left

-- a portion that is refused isn't taken
abbrev pub taken_by : Result State Reason → List ℕ → List ℕ
taken_by (Ok new) portion = portion
taken_by (Err e) portion = []

abbrev pub taken_in : Call → List ℕ
taken_in c = taken_by c.taken c.portion

-- the taken portions joined
abbrev pub joined : List Call → List ℕ
joined cs = flat (map taken_in cs)

-- the state that the caller goes on with: what the call handed back, or after a refusal its own
abbrev pub state_then : Call → State
state_then c = state_after (taken_of c.taken) c.given

-- where a list of calls stands: the state that was handed back last, and the bytes that the last call that took a portion left at the room's front
pub record Standing : Type 0 where
  pub state : State
  pub bytes : List ℕ

abbrev pub at_first : Standing
at_first = record { state = begun; bytes = [] }

abbrev pub bytes_after : Result State Reason → List ℕ → List ℕ → List ℕ
bytes_after (Ok new) left bytes = held_in new left
bytes_after (Err e) left bytes = bytes

abbrev pub after_call : Standing → Call → Standing
after_call w c = record { state = state_then c; bytes = bytes_after c.taken c.left w.bytes }

abbrev pub after_calls : Standing → List Call → Standing
after_calls w [] = w
after_calls w (c ∷ cs) = after_calls (after_call w c) cs

-- each call is handed the state that the one before handed back, or that it was handed where it refused
abbrev pub HandedOn : State → List Call → Type 0
HandedOn st [] = Unit {0}
HandedOn st (c ∷ cs) = (c.given ≡ st) × HandedOn (state_then c) cs

-- nobody else writes the room: one that is enough begins with the bytes that are held, whatever its length and whatever follows them
abbrev pub Untouched : Standing → List ℕ → Type 0
Untouched w room = short_room room ≡ false → held_in w.state room ≡ w.bytes

-- that is so of the room lent to each call, and of the one lent to the end
abbrev pub EachUntouched : Standing → List Call → List ℕ → Type 0
EachUntouched w [] end = Untouched w end
EachUntouched w (c ∷ cs) end = Untouched w c.room × EachUntouched (after_call w c) cs end

-- any list of calls of `take`, from the first portion on, and the call of `end` behind them
pub record Arrival : Type 0 where
  pub calls : List Call
  pub handed_on : HandedOn begun calls
  pub room : List ℕ
  pub untouched : EachUntouched at_first calls room
  pub read : Result Device Reason
  pub promise : Ends (after_calls at_first calls).state room read

-- the state that the end is handed, and what it finds at the front of its room
abbrev pub last : Arrival → State
last a = (after_calls at_first a.calls).state

abbrev pub found : Arrival → List ℕ
found a = held_in (last a) a.room

-- nothing but 14 is reported before the end
abbrev pub OnlyShort : Call → Type 0
OnlyShort c = outcome_by {B = Unit {0}} (λ new. tt) c.taken ≡ cond (short_room c.room) (refused 14) (accepted tt)

-- what each call leaves in its room: the joined bytes so far, at most 16,386 of them, and the rest as it was; where it is refused, the room as it was
abbrev pub left_by : Result State Reason → List ℕ → List ℕ → List ℕ
left_by (Ok new) came room = over (take 16386 came) room
left_by (Err e) came room = room

abbrev pub RoomsHold : List ℕ → List Call → Type 0
RoomsHold came [] = Unit {0}
RoomsHold came (c ∷ cs) = (c.left ≡ left_by c.taken (came ++ taken_in c) c.room) × RoomsHold (came ++ taken_in c) cs

-- what the calls come to
pub record Whole (a : Arrival) : Type 0 where
  -- the end answers what `sheet::read` promises for the joined portions: the same device data, or the same refusal
  pub answer : short_room a.room ≡ false → ReadsAs (joined a.calls) a.read
  -- where it accepts, the sheet is the room's first `held` bytes
  pub planned : OnOk a.read (found a ≡ joined a.calls)
  -- also where it refuses, these are the joined bytes, at most 16,386 of them; that there were more is remembered
  pub kept : short_room a.room ≡ false → found a ≡ take 16386 (joined a.calls)
  pub held : (last a).held ≡ length (take 16386 (joined a.calls))
  pub surplus : (last a).surplus ≡ ltb 16386 (length (joined a.calls))
  -- a short room at the end is 14, with nothing beside it
  pub short : short_room a.room ≡ true → sheet_read_of a.read ≡ refused 14
  -- before the end
  pub reported : Each OnlyShort a.calls
  pub rooms : RoomsHold [] a.calls

abbrev pub HoweverCut : Type 0
HoweverCut = (a : Arrival) → Whole a

-- one room throughout: each call, and the end, is lent it as the call before left it
abbrev pub OneRoom : List ℕ → List Call → List ℕ → Type 0
OneRoom room [] end = end ≡ room
OneRoom room (c ∷ cs) end = (c.room ≡ room) × OneRoom c.left cs end

-- so lent, a room is untouched at each call and at the end
abbrev pub NobodyElse : Type 0
NobodyElse = (room : List ℕ) (calls : List Call) (end : List ℕ) → OneRoom room calls end → EachUntouched at_first calls end

-- and it ends with the joined bytes, at most 16,386 of them, over its front, and the rest as it was at the first call
abbrev pub RestStays : Type 0
RestStays = (a : Arrival) (room : List ℕ) → OneRoom room a.calls a.room → a.room ≡ over (take 16386 (joined a.calls)) room

-- every cut occurs: any portions, in any one room that is enough, with whatever reading them at once answers
pub record Occurs (portions : List (List ℕ)) (room : List ℕ) (read : Result Device Reason) : Type 0 where
  pub arrival : Arrival
  pub sent : map (λ (c : Call). c.portion) arrival.calls ≡ portions
  pub lent : OneRoom room arrival.calls arrival.room
  pub answered : arrival.read ≡ read

abbrev pub EveryCut : Type 0
EveryCut = (portions : List (List ℕ)) (room : List ℕ) (read : Result Device Reason) → short_room room ≡ false → ReadsAs (flat portions) read → Occurs portions room read
