-- The theorem isn't empty: any portions, in any room that is enough, are calls with an end, in that one room.
-- Assumes nothing.
use mathlib.Core.Path.{◌≡◌, refl, sym, ◌∙◌, ap, ap₂}
use mathlib.Core.Bool.{Bool, true, false, cond}
use mathlib.Core.List.{List, [], ◌∷◌, ◌++◌, map}
use mathlib.Core.Logic.{◌⊎◌, inl, inr}
use Prim.Native.Nat.{ℕ}
use lib.Dec.{ltb}
use Rattle.std.specs.Prelude.{Result, Ok, Err}
use Rattle.wire.specs.Outcome.{Outcome, refused, accepted}
use Rattle.wire.specs.declared.Reason.{Reason}
use Rattle.wire.specs.declared.Reason.TheVariants.{PortionRoom}
use Rattle.wire.specs.Room.{room_after}
use Rattle.wire.proofs.Copied.{length_over}
use Rattle.area.specs.Area.{flat}
use Rattle.sheet.specs.Sheet.{read_sheet}
use Rattle.portions.specs.declared.State.{State}
use Rattle.portions.specs.Portions.{begun, held_in, stored, state_with, short_room, taken_of, taking, state_after}
use Rattle.portions.specs.Arrival.{Call, taken_by, joined, state_then, OneRoom, HandedOn, EveryCut}
use Rattle.portions.proofs.Steps.{taking-enough, reads-by}
use Rattle.portions.proofs.Whole.{reads-from, ending-after}
use Rattle.portions.proofs.Rest.{nobody-else}

-- what taking answers
abbrev answer_for : State → List ℕ → List ℕ → Result State Reason
answer_for st portion room = cond (short_room room) (Err PortionRoom) (Ok (state_with st portion))

answer-says : (st : State) (portion room : List ℕ) → taken_of (answer_for st portion room) ≡ taking st portion room
unfolding taking
answer-says st portion room = go (short_room room)
  where
    go :
        (b : Bool)
        → taken_of (cond b (Err PortionRoom) (Ok (state_with st portion))) ≡ cond b (refused 14) (accepted (state_with st portion))
    go true = refl
    go false = refl

-- a call for whatever is handed over and lent
abbrev call_of : State → List ℕ → List ℕ → Call
call_of st portion room =
    record {
      given = st;
      portion = portion;
      room = room;
      taken = answer_for st portion room;
      left = room_after (taking st portion room) (held_in st room ++ stored st portion) room;
      promise = record { says = answer-says st portion room; state = ap (λ (o : Outcome State). state_after o st) (answer-says st portion room); holds = refl };
    }

-- one after the other in one room, and what that room ends as
abbrev calls_of : State → List ℕ → List (List ℕ) → List Call
calls_of st room [] = []
calls_of st room (p ∷ ps) = call_of st p room ∷ calls_of (state_then (call_of st p room)) (call_of st p room).left ps

abbrev end_of : State → List ℕ → List (List ℕ) → List ℕ
end_of st room [] = room
end_of st room (p ∷ ps) = end_of (state_then (call_of st p room)) (call_of st p room).left ps

handed_on : (st : State) (room : List ℕ) (ps : List (List ℕ)) → HandedOn st (calls_of st room ps)
handed_on st room [] = tt
handed_on st room (p ∷ ps) = (refl, handed_on (state_then (call_of st p room)) (call_of st p room).left ps)

one-room : (st : State) (room : List ℕ) (ps : List (List ℕ)) → OneRoom room (calls_of st room ps) (end_of st room ps)
one-room st room [] = refl
one-room st room (p ∷ ps) = (refl, one-room (state_then (call_of st p room)) (call_of st p room).left ps)

their-portions : (st : State) (room : List ℕ) (ps : List (List ℕ)) → map (λ (c : Call). c.portion) (calls_of st room ps) ≡ ps
their-portions st room [] = refl
their-portions st room (p ∷ ps) = ap (λ (l : List (List ℕ)). p ∷ l) (their-portions (state_then (call_of st p room)) (call_of st p room).left ps)

-- a room that is enough stays so, and every portion is taken
still-enough : (st : State) (p room : List ℕ) → short_room room ≡ false → short_room (call_of st p room).left ≡ false
still-enough st p room e =
    ap (λ (o : Outcome State). short_room (room_after o (held_in st room ++ stored st p) room)) (taking-enough st p room e)
    ∙ ap (λ (n : ℕ). ltb n 16386) (length_over (held_in st room ++ stored st p) room)
    ∙ e

enough-at-the-end : (st : State) (room : List ℕ) (ps : List (List ℕ)) → short_room room ≡ false → short_room (end_of st room ps) ≡ false
enough-at-the-end st room [] e = e
enough-at-the-end st room (p ∷ ps) e = enough-at-the-end (state_then (call_of st p room)) (call_of st p room).left ps (still-enough st p room e)

all-taken : (st : State) (room : List ℕ) (ps : List (List ℕ)) → short_room room ≡ false → joined (calls_of st room ps) ≡ flat ps
unfolding flat
all-taken st room [] e = refl
all-taken st room (p ∷ ps) e =
    ap₂
    (λ (x y : List ℕ). x ++ y)
    (ap (λ (b : Bool). taken_by (cond b (Err PortionRoom) (Ok (state_with st p))) p) e)
    (all-taken (state_then (call_of st p room)) (call_of st p room).left ps (still-enough st p room e))

pub every-cut : EveryCut
every-cut portions room read e r =
    let calls = calls_of begun room portions in
    let end = end_of begun room portions in
    let handed = handed_on begun room portions in
    let one = one-room begun room portions in
    let alone = nobody-else room calls end one in
    let x = ending-after calls end handed alone (enough-at-the-end begun room portions e) in
    let same = all-taken begun room portions e in
    record {
      arrival =
          record {
            calls = calls;
            handed_on = handed;
            room = end;
            untouched = alone;
            read = read;
            promise = reads-by (sym x.outcome) refl (reads-from (back x.bytes) (reads-by (ap read_sheet (sym same)) (sym same) r));
          };
      sent = their-portions begun room portions;
      lent = one;
      answered = refl;
    }
  where
    back : {B : Type 0} {x y : List ℕ} → (x ≡ y) ⊎ B → (y ≡ x) ⊎ B
    back (inl q) = inl (sym q)
    back (inr b) = inr b
