-- A contract leaves one answer: what `look` sees of the result and of the lent places at exit is the same in any two that meet it.
-- The law that every uniqueness theorem of the repository is an instance of, said once. `Post` is the contract that the source states.
-- Assumes nothing.
use mathlib.Core.Path.{◌≡◌, refl, sym, ◌∙◌, ap}
use mathlib.Core.List.{List, [], ◌∷◌}
use Prim.Native.Nat.{ℕ}
use lib.ListN.{get_or}
use Rattle.std.specs.Prelude.{Result, Ok, Err}
use Rattle.wire.specs.Outcome.{Outcome, refused, accepted, number_of, outcome_by}
use Rattle.wire.specs.declared.Reason.{Reason}
use Rattle.wire.specs.declared.Reason.TheVariants.{AreaLength, SheetLength, SheetVersion, SheetRule, UnnamedControl, TooManyBits, NoEntry, EntryTooLong, PastLastAddress, BelowGroup, NotWholeBytes, RoomTooShort, FieldTooWide, PortionRoom, EntryInTheWay, DumpCutShort, DumpRecords, BadPairs}

-- `K` are the lifetimes, `A` the arguments, `R` the result, `S` the parameters at exit
abbrev pub Pins : {K : Type 0} {A R S : K → Type 0} {B : Type 0} → ((κs : K) → A κs → R κs → S κs → Type 0) → ((κs : K) → R κs → S κs → B) → Type 0
Pins {K} {A} {R} {S} Post look =
    (κs : K) (a : A κs) (x y : R κs) (s t : S κs) → Post κs a x s → Post κs a y t → look κs x s ≡ look κs y t

-- a result, and what a lent place holds in the end
abbrev pub with_room : {R : Type 0} → R → List ℕ → R × List ℕ
with_room r l = (r, l)

-- what equals the same is the same
pub same : {A : Type 0} {x y b : A} → x ≡ b → y ≡ b → x ≡ y
same p q = p ∙ sym q

-- and so where it does through a definition that another undoes: number and values together determine the answer
pub same_by : {A B : Type 0} (f : A → B) (back : B → A) → ((x : A) → back (f x) ≡ x) → {x y : A} {b : B} → f x ≡ b → f y ≡ b → x ≡ y
same_by f back law {x} {y} p q = sym (law x) ∙ ap back (same p q) ∙ law y

-- the reasons, each at the place of its number
abbrev reasons : List Reason
reasons =
    AreaLength ∷ AreaLength ∷ SheetLength ∷ SheetVersion ∷ SheetRule ∷ UnnamedControl ∷ TooManyBits ∷ NoEntry ∷ EntryTooLong
    ∷ PastLastAddress ∷ BelowGroup ∷ NotWholeBytes ∷ RoomTooShort ∷ FieldTooWide ∷ PortionRoom ∷ EntryInTheWay ∷ DumpCutShort
    ∷ DumpRecords ∷ BadPairs ∷ []

abbrev reason_with : ℕ → Reason
reason_with n = get_or reasons n AreaLength

reason-determined : (r : Reason) → reason_with (number_of r) ≡ r
reason-determined AreaLength = refl
reason-determined SheetLength = refl
reason-determined SheetVersion = refl
reason-determined SheetRule = refl
reason-determined UnnamedControl = refl
reason-determined TooManyBits = refl
reason-determined NoEntry = refl
reason-determined EntryTooLong = refl
reason-determined PastLastAddress = refl
reason-determined BelowGroup = refl
reason-determined NotWholeBytes = refl
reason-determined RoomTooShort = refl
reason-determined FieldTooWide = refl
reason-determined PortionRoom = refl
reason-determined EntryInTheWay = refl
reason-determined DumpCutShort = refl
reason-determined DumpRecords = refl
reason-determined BadPairs = refl

abbrev result_with : {A B : Type 0} → (B → A) → Outcome B → Result A Reason
result_with back (refused n) = Err (reason_with n)
result_with back (accepted b) = Ok (back b)

result-determined : {A B : Type 0} (f : A → B) (back : B → A) → ((x : A) → back (f x) ≡ x) → (r : Result A Reason) → result_with back (outcome_by f r) ≡ r
result-determined f back law (Ok x) = ap Ok (law x)
result-determined f back law (Err r) = ap Err (reason-determined r)

-- and where two results say the same: their values or their reasons are the same
pub same_result : {A B : Type 0} (f : A → B) (back : B → A) → ((x : A) → back (f x) ≡ x) → {x y : Result A Reason} {o : Outcome B} → outcome_by f x ≡ o → outcome_by f y ≡ o → x ≡ y
same_result f back law p q = same_by (outcome_by f) (result_with back) (result-determined f back law) p q
