-- However a sheet is cut: by induction over the calls, from what each promises.
-- Assumes nothing.
use mathlib.Core.Path.{◌≡◌, refl, sym, ◌∙◌, ap, ap₂}
use mathlib.Core.Bool.{Bool, true, false, ◌||◌}
use mathlib.Core.List.{List, [], ◌∷◌, ◌++◌, append_assoc, append-nil}
use mathlib.Core.Logic.{◌⊎◌, inl, inr}
use Prim.Native.Nat.{ℕ, ◌+◌, ◌-◌, ◌<◌, ◌≤◌, min}
use native.Mathlib.Omega.{arith}
use lib.ListN.{length, take, drop, length-take, length-append}
use lib.Seq.{take_all, take-nil, take-append_seam}
use lib.Dec.{ltb}
use borrow.Author.Tests.{lt-ltb, le-ltb, ltb-true, ltb-false}
use Rattle.std.specs.Prelude.{Result, Ok, Err, OnOk}
use Rattle.wire.specs.Outcome.{Outcome, refused, outcome_by}
use Rattle.wire.specs.declared.Reason.{Reason}
use Rattle.wire.specs.declared.Reason.TheVariants.{PortionRoom}
use Rattle.wire.specs.Room.{over, room_after}
use Rattle.wire.specs.Lists.{Each}
use Rattle.wire.proofs.Order.{never}
use Rattle.wire.proofs.Pins.{same_result}
use Rattle.wire.proofs.Copied.{over-front}
use Rattle.area.specs.Area.{flat}
use Rattle.grammar.specs.Length.{wrong_length}
use Rattle.grammar.proofs.Length.{long}
use Rattle.sheet.specs.declared.Device.{Device}
use Rattle.sheet.specs.Device.{Data}
use Rattle.sheet.specs.Sheet.{read_sheet, sheet_read_of, device_after, Reads, ReadsAs}
use Rattle.portions.specs.declared.State.{State}
use Rattle.portions.specs.Portions.{begun, held_in, stored, state_with, short_room, taken_of, state_after, too_many, ending}
use Rattle.portions.specs.Arrival.{Call, taken_by, taken_in, joined, state_then, Standing, at_first, bytes_after, after_call, after_calls, HandedOn, Untouched, EachUntouched, Arrival, last, found, OnlyShort, left_by, RoomsHold, HoweverCut}
use Rattle.portions.proofs.Front.{take-joined}
use Rattle.portions.proofs.Steps.{taking-short, taking-enough, ending-short, ending-many, ending-reads, reads-by}

-- an answer by its outcome
answer-by : {o : Outcome State} {x y : Result State Reason} → taken_of x ≡ o → taken_of y ≡ o → x ≡ y
answer-by p q = same_result (λ new. new) (λ new. new) (λ new. refl) p q

-- a call with a short room: refused, state and room as before
pub record Left (c : Call) : Type 0 where
  pub answer : c.taken ≡ Err PortionRoom
  pub state : state_then c ≡ c.given
  pub room : c.left ≡ c.room

pub left : (c : Call) → short_room c.room ≡ true → Left c
left c e =
    let o = taking-short c.given c.portion c.room e in
    record {
      answer = answer-by (c.promise.says ∙ o) refl;
      state = c.promise.state ∙ ap (λ (x : Outcome State). state_after x c.given) o;
      room = c.promise.holds ∙ ap (λ (x : Outcome State). room_after x (held_in c.given c.room ++ stored c.given c.portion) c.room) o;
    }

-- a call with enough room: what is stored goes behind what is held
pub record Took (c : Call) : Type 0 where
  pub answer : c.taken ≡ Ok (state_with c.given c.portion)
  pub state : state_then c ≡ state_with c.given c.portion
  pub room : c.left ≡ over (held_in c.given c.room ++ stored c.given c.portion) c.room

pub took : (c : Call) → short_room c.room ≡ false → Took c
took c e =
    let o = taking-enough c.given c.portion c.room e in
    record {
      answer = answer-by (c.promise.says ∙ o) refl;
      state = c.promise.state ∙ ap (λ (x : Outcome State). state_after x c.given) o;
      room = c.promise.holds ∙ ap (λ (x : Outcome State). room_after x (held_in c.given c.room ++ stored c.given c.portion) c.room) o;
    }

-- what the calls keep: after `came` the first 16,386 of its bytes are held, and whether there were more is remembered
record Keeps (w : Standing) (came : List ℕ) : Type 0 where
  bytes : w.bytes ≡ take 16386 came
  held : w.state.held ≡ length (take 16386 came)
  surplus : w.state.surplus ≡ ltb 16386 (length came)

-- a byte is surplus exactly if there are more than 16,386 in all
surplus-joined : (came portion : List ℕ) (fit : ℕ) → fit ≡ min (16386 - min 16386 (length came)) (length portion)
    → ltb 16386 (length came) || ltb fit (length portion) ≡ ltb 16386 (length (came ++ portion))
surplus-joined came portion fit e = go (ltb 16386 (length came)) (ltb-true 16386 (length came)) (ltb-false 16386 (length came))
  where
    all : length (came ++ portion) ≡ length came + length portion
    all = length-append came portion

    last : (b : Bool) → (b ≡ true → fit < length portion) → (b ≡ false → length portion ≤ fit) → length came ≤ 16386 → b ≡ ltb 16386 (length (came ++ portion))
    last true f g h = let l = f refl in sym (lt-ltb 16386 (length (came ++ portion)) (omega (arith, all, e)))
    last false f g h = let l = g refl in sym (le-ltb 16386 (length (came ++ portion)) (omega (arith, all, e)))

    go : (b : Bool) → (b ≡ true → 16386 < length came) → (b ≡ false → length came ≤ 16386) → b || ltb fit (length portion) ≡ ltb 16386 (length (came ++ portion))
    go true f g = let l = f refl in sym (lt-ltb 16386 (length (came ++ portion)) (omega (arith, all, e)))
    go false f g = last (ltb fit (length portion)) (ltb-true fit (length portion)) (ltb-false fit (length portion)) (g refl)

-- the front of a room that bytes were written over
front-over : (s room : List ℕ) → length s ≤ length room → take (length s) (over s room) ≡ s
front-over s room h = ap (take (length s)) (over-front s room h) ∙ take-append_seam s (drop (length s) room)

-- one call more
record Step (w : Standing) (came : List ℕ) (c : Call) : Type 0 where
  keeps : Keeps (after_call w c) (came ++ taken_in c)
  room : c.left ≡ left_by c.taken (came ++ taken_in c) c.room

module _ (w : Standing) (came : List ℕ) (c : Call) (k : Keeps w came) (g : c.given ≡ w.state) where
  step-short : short_room c.room ≡ true → Step w came c
  step-short e =
      let l = left c e in
      let same : came ++ taken_in c ≡ came = ap (λ (r : Result State Reason). came ++ taken_by r c.portion) l.answer ∙ append-nil came in
      let st : state_then c ≡ w.state = l.state ∙ g in
      record {
        keeps =
            record {
              bytes = ap (λ (r : Result State Reason). bytes_after r c.left w.bytes) l.answer ∙ k.bytes ∙ ap (take 16386) (sym same);
              held = ap (λ (s : State). s.held) st ∙ k.held ∙ ap (λ (x : List ℕ). length (take 16386 x)) (sym same);
              surplus = ap (λ (s : State). s.surplus) st ∙ k.surplus ∙ ap (λ (x : List ℕ). ltb 16386 (length x)) (sym same);
            };
        room = l.room ∙ sym (ap (λ (r : Result State Reason). left_by r (came ++ taken_in c) c.room) l.answer);
      }

  step-enough : short_room c.room ≡ false → held_in w.state c.room ≡ w.bytes → Step w came c
  step-enough e untouched =
      let t = took c e in
      let st = c.given in
      let all = came ++ taken_in c in
      let fit = stored st c.portion in
      let taken : taken_in c ≡ c.portion = ap (λ (r : Result State Reason). taken_by r c.portion) t.answer in
      let was : held_in st c.room ≡ take 16386 came = ap (λ (s : State). held_in s c.room) g ∙ untouched ∙ k.bytes in
      let held : st.held ≡ length (take 16386 came) = ap (λ (s : State). s.held) g ∙ k.held in
      let now : held_in st c.room ++ fit ≡ take 16386 all =
      ap₂ (λ (x y : List ℕ). x ++ y) was (ap (λ (n : ℕ). take (16386 - n) c.portion) held)
      ∙ sym (take-joined 16386 came c.portion)
      ∙ ap (λ (p : List ℕ). take 16386 (came ++ p)) (sym taken) in
      let room : c.left ≡ over (take 16386 all) c.room = t.room ∙ ap (λ (x : List ℕ). over x c.room) now in
      let many : (state_with st c.portion).held ≡ length (take 16386 all) =
      ap (λ (n : ℕ). n + length fit) (held ∙ sym (ap length was))
      ∙ sym (length-append (held_in st c.room) fit)
      ∙ ap length now in
      let size : length fit ≡ min (16386 - min 16386 (length came)) (length c.portion) =
      length-take (16386 - st.held) c.portion ∙ ap (λ (n : ℕ). min (16386 - n) (length c.portion)) (held ∙ length-take 16386 came) in
      let enough = ltb-false (length c.room) 16386 e in
      let most = length-take 16386 all in
      record {
        keeps =
            record {
              bytes =
                  ap (λ (r : Result State Reason). bytes_after r c.left w.bytes) t.answer
                  ∙ ap₂ (λ (n : ℕ) (x : List ℕ). take n x) many room
                  ∙ front-over (take 16386 all) c.room (omega arith);
              held = ap (λ (s : State). s.held) t.state ∙ many;
              surplus =
                  ap (λ (s : State). s.surplus) t.state
                  ∙ ap (λ (b : Bool). b || ltb (length fit) (length c.portion)) (ap (λ (s : State). s.surplus) g ∙ k.surplus)
                  ∙ surplus-joined came c.portion (length fit) size
                  ∙ ap (λ (p : List ℕ). ltb 16386 (length (came ++ p))) (sym taken);
            };
        room = room ∙ sym (ap (λ (r : Result State Reason). left_by r all c.room) t.answer);
      }

  step : Untouched w c.room → Step w came c
  step untouched = go (short_room c.room) refl
    where
      go : (b : Bool) → short_room c.room ≡ b → Step w came c
      go true e = step-short e
      go false e = step-enough e (untouched e)

-- the calls in turn
keeps-by : {w : Standing} {x y : List ℕ} → x ≡ y → Keeps w x → Keeps w y
keeps-by e k =
    record {
      bytes = k.bytes ∙ ap (take 16386) e;
      held = k.held ∙ ap (λ (l : List ℕ). length (take 16386 l)) e;
      surplus = k.surplus ∙ ap (λ (l : List ℕ). ltb 16386 (length l)) e;
    }

steps : (w : Standing) (came : List ℕ) (cs : List Call) (end : List ℕ) → Keeps w came → HandedOn w.state cs → EachUntouched w cs end
    → Keeps (after_calls w cs) (came ++ joined cs) × RoomsHold came cs
unfolding flat
steps w came [] end k h u = (keeps-by (sym (append-nil came)) k, tt)
steps w came (c ∷ cs) end k h u =
    let s = step w came c k h.0 u.0 in
    let r = steps (after_call w c) (came ++ taken_in c) cs end s.keeps h.1 u.1 in
    (keeps-by (append_assoc came (taken_in c) (joined cs)) r.0, (s.room, r.1))

-- the room lent to the end
end-untouched : (w : Standing) (cs : List Call) (end : List ℕ) → EachUntouched w cs end → Untouched (after_calls w cs) end
end-untouched w [] end u = u
end-untouched w (c ∷ cs) end u = end-untouched (after_call w c) cs end u.1

-- nothing but 14 is reported
only-short : (c : Call) → OnlyShort c
only-short c = go (short_room c.room) refl
  where
    go : (b : Bool) → short_room c.room ≡ b → OnlyShort c
    go true e = ap (outcome_by {B = Unit {0}} (λ new. tt)) (left c e).answer ∙ rw e refl
    go false e = ap (outcome_by {B = Unit {0}} (λ new. tt)) (took c e).answer ∙ rw e refl

all-only-short : (cs : List Call) → Each OnlyShort cs
all-only-short [] = tt
all-only-short (c ∷ cs) = (only-short c, all-only-short cs)

nothing : Keeps at_first []
nothing = record { bytes = sym (take-nil 16386); held = ap length (sym (take-nil {A = ℕ} 16386)); surplus = sym (le-ltb 16386 0 (omega arith)) }

-- more than 16,386 bytes are no sheet
too_long_lem : (s : List ℕ) → 16386 < length s → read_sheet s ≡ refused 2
unfolding read_sheet
too_long_lem s h = go (wrong_length s) refl
  where
    go : (b : Bool) → wrong_length s ≡ b → read_sheet s ≡ refused 2
    go true e = rw e refl
    go false e = let l = long s e in absurd (omega arith)

-- of a refusal the bytes are all the same
pub reads-from : {o : Outcome Data} {n : ℕ} {s t : List ℕ} {r : Result Device Reason} → (s ≡ t) ⊎ (o ≡ refused n) → Reads o s r → Reads o t r
reads-from (inl q) x = reads-by refl q x
reads-from {o} {n} {s} {t} {r} (inr e) x = go r x
  where
    go : (r : Result Device Reason) → Reads o s r → Reads o t r
    go (Ok d) x = absurd (never (sym (x.says ∙ e)))
    go (Err f) x =
        record {
          says = x.says;
          holds = x.holds ∙ ap (λ (y : Outcome Data). device_after y s) e ∙ sym (ap (λ (y : Outcome Data). device_after y t) e);
        }

-- the end's outcome is the reader's for all that came; and so are the bytes, unless that is 2
pub record Ending (st : State) (room came : List ℕ) : Type 0 where
  pub outcome : ending st room ≡ read_sheet came
  pub bytes : (held_in st room ≡ came) ⊎ (read_sheet came ≡ refused 2)

ending_of : (st : State) (room came bytes : List ℕ) → Keeps (record { state = st; bytes = bytes }) came → short_room room ≡ false → held_in st room ≡ bytes → Ending st room came
ending_of st room came bytes k e u = go (ltb 16386 (length came)) refl
  where
    go : (b : Bool) → ltb 16386 (length came) ≡ b → Ending st room came
    go true f =
        let two = too_long_lem came (ltb-true 16386 (length came) f) in
        let many : too_many st ≡ true = rw (k.surplus ∙ f) refl in
        record { outcome = ending-many st room e many ∙ sym two; bytes = inr two }
    go false f =
        let few = ltb-false 16386 (length came) f in
        let all : take 16386 came ≡ came = take_all 16386 came few in
        let none : ltb 16386 st.held ≡ false = let h = k.held ∙ ap length all in le-ltb 16386 st.held (omega arith) in
        let right : too_many st ≡ false = rw (k.surplus ∙ f, none) refl in
        let whole : held_in st room ≡ came = u ∙ k.bytes ∙ all in
        record { outcome = ending-reads st room e right ∙ ap read_sheet whole; bytes = inl whole }

-- of calls that are handed on, and rooms that nobody else writes
pub ending-after : (calls : List Call) (room : List ℕ) → HandedOn begun calls → EachUntouched at_first calls room → short_room room ≡ false
    → Ending (after_calls at_first calls).state room (joined calls)
ending-after calls room h u e =
    let w = after_calls at_first calls in
    ending_of w.state room (joined calls) w.bytes (steps at_first [] calls room nothing h u).0 e (end-untouched at_first calls room u e)

-- where it is accepted, the bytes are all that came
accepted-whole : {s came : List ℕ} (r : Result Device Reason) → (s ≡ came) ⊎ (read_sheet came ≡ refused 2) → ReadsAs came r → OnOk r (s ≡ came)
accepted-whole (Ok d) (inl q) x = q
accepted-whole (Ok d) (inr e) x = absurd (never (sym (x.says ∙ e)))
accepted-whole (Err f) b x = tt

module _ (a : Arrival) where
  after : short_room a.room ≡ false → Ending (last a) a.room (joined a.calls)
  after = ending-after a.calls a.room a.handed_on a.untouched

  answers : short_room a.room ≡ false → ReadsAs (joined a.calls) a.read
  answers e = reads-from (after e).bytes (reads-by (after e).outcome refl a.promise)

  fourteen : short_room a.room ≡ true → sheet_read_of a.read ≡ refused 14
  fourteen e = a.promise.holds ∙ ap (λ (o : Outcome Data). device_after o (found a)) (ending-short (last a) a.room e)

  plans : OnOk a.read (found a ≡ joined a.calls)
  plans = go (short_room a.room) refl
    where
      refuses : (r : Result Device Reason) → sheet_read_of r ≡ refused 14 → OnOk r (found a ≡ joined a.calls)
      refuses (Ok d) z = absurd (never (sym z))
      refuses (Err f) z = tt

      go : (b : Bool) → short_room a.room ≡ b → OnOk a.read (found a ≡ joined a.calls)
      go true e = refuses a.read (fourteen e)
      go false e = accepted-whole a.read (after e).bytes (answers e)

-- the theorem
pub however-cut : HoweverCut
however-cut a =
    let k = steps at_first [] a.calls a.room nothing a.handed_on a.untouched in
    record {
      answer = answers a;
      planned = plans a;
      kept = λ e. end-untouched at_first a.calls a.room a.untouched e ∙ k.0.bytes;
      held = k.0.held;
      surplus = k.0.surplus;
      short = fourteen a;
      reported = all-only-short a.calls;
      rooms = k.1;
    }
