-- What `take` and `end` hand back, by what their tests found.
-- Assumes nothing.
use mathlib.Core.Path.{◌≡◌, refl, sym, ◌∙◌, ap, ap₂}
use mathlib.Core.Bool.{Bool, true, false, ◌||◌}
use mathlib.Core.List.{List, [], ◌++◌}
use Prim.Native.Nat.{ℕ, zero, suc, ◌+◌, ◌-◌, ◌<◌, ◌≤◌, min}
use native.Mathlib.Omega.{arith}
use lib.ListN.{length, take, length-take}
use lib.Dec.{ltb}
use borrow.Author.Tests.{lt-ltb, le-ltb, ltb-true, ltb-false}
use Rattle.std.specs.Prelude.{Result, Ok, Err}
use Rattle.wire.specs.Outcome.{Outcome, refused, accepted, outcome_by}
use Rattle.wire.specs.declared.Reason.{Reason}
use Rattle.wire.specs.declared.Reason.TheVariants.{PortionRoom}
use Rattle.wire.specs.Room.{over, room_after}
use Rattle.wire.proofs.Lists.{take-least}
use Rattle.area.specs.Area.{stored_at}
use Rattle.sheet.specs.declared.Device.{Device}
use Rattle.sheet.specs.Device.{Data, data_of}
use Rattle.sheet.specs.Sheet.{read_sheet, device_after, Reads}
use Rattle.portions.specs.declared.State.{State}
use Rattle.portions.specs.Portions.{held_in, stored, state_with, short_room, taking, state_after, Takes, too_many, ending}
use Rattle.portions.proofs.Front.{stored-behind, stored-nowhere}

-- a room is short, or it is enough
pub short : (room : List ℕ) → length room < 16386 → short_room room ≡ true
short room h = lt-ltb (length room) 16386 h

pub enough : (room : List ℕ) → 16386 ≤ length room → short_room room ≡ false
enough room h = le-ltb (length room) 16386 h

-- the outcome of taking by that
pub taking-short : (st : State) (portion room : List ℕ) → short_room room ≡ true → taking st portion room ≡ refused 14
unfolding taking
taking-short st portion room e = rw e refl

pub taking-enough : (st : State) (portion room : List ℕ) → short_room room ≡ false → taking st portion room ≡ accepted (state_with st portion)
unfolding taking
taking-enough st portion room e = rw e refl

-- refused: the room as before
pub takes-nothing : (st : State) (portion room : List ℕ) → length room < 16386 → Takes st portion room (Err PortionRoom) room
takes-nothing st portion room h =
    let o = taking-short st portion room (short room h) in
    record {
      says = sym o;
      state = ap (λ (x : Outcome State). state_after x st) (sym o);
      holds = ap (λ (x : Outcome State). room_after x (held_in st room ++ stored st portion) room) (sym o);
    }

-- what is stored goes behind what is held, whatever the state says
pub stored-behind-held : (st : State) (portion room : List ℕ) → 16386 ≤ length room → stored_at st.held (stored st portion) room ≡ over (held_in st room ++ stored st portion) room
stored-behind-held st portion room h = go (16386 - st.held) refl
  where
    -- nothing stored: the state may hold more than the room has
    none : (b : Bool) → (b ≡ true → length room < st.held) → (b ≡ false → st.held ≤ length room) → stored_at st.held [] room ≡ over (held_in st room ++ []) room
    none true f g = stored-nowhere st.held room (f refl)
    none false f g = let e = g refl in stored-behind st.held [] room (omega arith)

    go : (k : ℕ) → 16386 - st.held ≡ k → stored_at st.held (take k portion) room ≡ over (held_in st room ++ take k portion) room
    go zero e = none (ltb (length room) st.held) (ltb-true (length room) st.held) (ltb-false (length room) st.held)
    go (suc k) e = let l = length-take (suc k) portion in stored-behind st.held (take (suc k) portion) room (omega arith)

-- accepted
pub takes-portion :
    (st : State) (portion room left : List ℕ) (n : ℕ) (b : Bool) → 16386 ≤ length room → n ≡ min (16386 - st.held) (length portion) → b ≡ st.surplus || ltb n (length portion)
    → left ≡ stored_at st.held (take n portion) room → Takes st portion room (Ok (record { held = st.held + n; surplus = b })) left
takes-portion st portion room left n b h e t p =
    let o = taking-enough st portion room (enough room h) in
    let f : take n portion ≡ stored st portion = ap (λ (k : ℕ). take k portion) e ∙ take-least (16386 - st.held) portion in
    let m : n ≡ length (stored st portion) = e ∙ sym (length-take (16386 - st.held) portion) in
    let more : b ≡ st.surplus || ltb (length (stored st portion)) (length portion) = t ∙ ap (λ (k : ℕ). st.surplus || ltb k (length portion)) m in
    let s : ◌≡◌ {A = State} (record { held = st.held + n; surplus = b }) (state_with st portion) = λ i. record { held = st.held + m i; surplus = more i } in
    record {
      says = ap accepted s ∙ sym o;
      state = s ∙ ap (λ (x : Outcome State). state_after x st) (sym o);
      holds = p ∙ ap (λ (l : List ℕ). stored_at st.held l room) f ∙ stored-behind-held st portion room h
          ∙ ap (λ (x : Outcome State). room_after x (held_in st room ++ stored st portion) room) (sym o);
    }

-- the end by its tests
pub ending-short : (st : State) (room : List ℕ) → short_room room ≡ true → ending st room ≡ refused 14
unfolding ending
ending-short st room e = rw e refl

pub ending-many : (st : State) (room : List ℕ) → short_room room ≡ false → too_many st ≡ true → ending st room ≡ refused 2
unfolding ending
ending-many st room e t = rw (e, t) refl

pub ending-reads : (st : State) (room : List ℕ) → short_room room ≡ false → too_many st ≡ false → ending st room ≡ read_sheet (held_in st room)
unfolding ending
ending-reads st room e t = rw (e, t) refl

-- a promise by another name of its outcome and its bytes
pub reads-by : {o p : Outcome Data} {s t : List ℕ} {r : Result Device Reason} → o ≡ p → s ≡ t → Reads o s r → Reads p t r
reads-by {o} {p} {s} {t} {r} e q x =
    record {
      says = ap (λ (l : List ℕ). outcome_by (λ d. data_of d l) r) (sym q) ∙ x.says ∙ e;
      holds = x.holds ∙ ap₂ device_after e q;
    }
