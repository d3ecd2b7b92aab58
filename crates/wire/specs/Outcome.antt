-- What a call answers: a refusal with its number and nothing beside it, or what was asked for. The refusals of a call are a list in
-- the order of documents 01 and 02; the first that holds is given.
-- Assumes nothing.
use Rattle.std.specs.Prelude.{Bool, cond, List, [], ◌∷◌, ℕ, Result, Ok, Err}
use Rattle.wire.specs.declared.Reason.{Reason}
use Rattle.wire.specs.declared.Reason.TheVariants.{AreaLength, SheetLength, SheetVersion, SheetRule, UnnamedControl, TooManyBits, NoEntry, EntryTooLong, PastLastAddress, BelowGroup, NotWholeBytes, RoomTooShort, FieldTooWide, PortionRoom, EntryInTheWay, DumpCutShort, DumpRecords, BadPairs}

pub data Outcome (A : Type 0) : Type 0 where
  refused : ℕ → Outcome A
  accepted : A → Outcome A

-- a refusal: its number, and the condition under which it is given
pub record Refusal : Type 0 where
  pub number : ℕ
  pub holds : Bool

abbrev pub when : ℕ → Bool → Refusal
when n b = record { number = n; holds = b }

-- the first refusal of the list that holds; else what comes after
abbrev pub first : {A : Type 0} → List Refusal → Outcome A → Outcome A
first [] o = o
first (r ∷ rs) o = cond r.holds (refused r.number) (first rs o)

-- the first refusal that holds; else the answer
abbrev pub decide : {A : Type 0} → List Refusal → A → Outcome A
decide rs x = first rs (accepted x)

-- the number of each reason
abbrev pub number_of : Reason → ℕ
number_of AreaLength = 1
number_of SheetLength = 2
number_of SheetVersion = 3
number_of SheetRule = 4
number_of UnnamedControl = 5
number_of TooManyBits = 6
number_of NoEntry = 7
number_of EntryTooLong = 8
number_of PastLastAddress = 9
number_of BelowGroup = 10
number_of NotWholeBytes = 11
number_of RoomTooShort = 12
number_of FieldTooWide = 13
number_of PortionRoom = 14
number_of EntryInTheWay = 15
number_of DumpCutShort = 16
number_of DumpRecords = 17
number_of BadPairs = 18

-- what a result says: the number of its reason, or what a definition makes of its value
abbrev pub outcome_by : {A B : Type 0} → (A → B) → Result A Reason → Outcome B
outcome_by f (Ok x) = accepted (f x)
outcome_by f (Err r) = refused (number_of r)
