-- One room throughout: nobody else writes it, and it ends with the joined bytes over its front and the rest as it was.
-- Assumes nothing.
use mathlib.Core.Path.{◌≡◌, refl, sym, ◌∙◌, ap}
use mathlib.Core.Bool.{Bool, true, false, false≢true}
use mathlib.Core.List.{List, [], ◌∷◌, ◌++◌, append_assoc, append-nil}
use Prim.Native.Nat.{ℕ, ◌+◌, ◌-◌, ◌≤◌, min}
use native.Mathlib.Nat.{zero-min}
use native.Mathlib.Omega.{arith}
use lib.ListN.{length, take, drop, length-take, length-append}
use lib.Seq.{take-nil, drop-drop, drop-append-add}
use Rattle.std.specs.Prelude.{Result, Ok, Err}
use Rattle.wire.specs.Room.{over}
use Rattle.wire.specs.declared.Reason.{Reason}
use Rattle.wire.proofs.Copied.{length_over}
use Rattle.area.specs.Area.{flat}
use Rattle.portions.specs.declared.State.{State}
use Rattle.portions.specs.Portions.{held_in, short_room}
use Rattle.portions.specs.Arrival.{Call, taken_by, taken_in, joined, state_then, Standing, at_first, bytes_after, after_call, Untouched, EachUntouched, left_by, RoomsHold, OneRoom, NobodyElse, RestStays}
use Rattle.portions.proofs.Whole.{left, took, however-cut}

-- writing over no less than was written before: as if that had not been
over-over : (s t room : List ℕ) → length s ≤ length t → over t (over s room) ≡ over t room
over-over s t room h =
    let m = min (length s) (length room) in
    let n = min (length t) (length room) in
    let front : length (take m s) ≡ m = length-take m s ∙ (let z : min m (length s) ≡ m = omega arith in z) in
    let past : drop n (over s room) ≡ drop n room =
    ap (λ (k : ℕ). drop k (over s room)) (let z : n ≡ length (take m s) + (n - m) = omega (arith, front) in z)
    ∙ drop-append-add (take m s) (drop m room) (n - m)
    ∙ drop-drop (n - m) m room
    ∙ ap (λ (k : ℕ). drop k room) (let z : m + (n - m) ≡ n = omega arith in z) in
    ap (λ (k : ℕ). take (min (length t) k) t ++ drop (min (length t) k) (over s room)) (length_over s room) ∙ ap (λ (l : List ℕ). take n t ++ l) past

-- what came is no longer than what came with more behind it
take-grows : (n : ℕ) (x y : List ℕ) → length (take n x) ≤ length (take n (x ++ y))
take-grows n x y =
    let a = length-take n x in
    let b = length-take n (x ++ y) in
    let c = length-append x y in
    omega arith

-- the room from call to call
stays : (first came now : List ℕ) (cs : List Call) (end : List ℕ) → now ≡ over (take 16386 came) first → RoomsHold came cs → OneRoom now cs end
    → end ≡ over (take 16386 (came ++ joined cs)) first
unfolding flat
stays first came now [] end e h o = o ∙ e ∙ ap (λ (l : List ℕ). over (take 16386 l) first) (sym (append-nil came))
stays first came now (c ∷ cs) end e h o =
    stays first (came ++ taken_in c) c.left cs end (go c.taken h.0) h.1 o.1
    ∙ ap (λ (l : List ℕ). over (take 16386 l) first) (append_assoc came (taken_in c) (joined cs))
  where
    go : (r : Result State Reason) → c.left ≡ left_by r (came ++ taken_by r c.portion) c.room → c.left ≡ over (take 16386 (came ++ taken_by r c.portion)) first
    go (Ok new) p =
        p
        ∙ ap (λ (l : List ℕ). over (take 16386 (came ++ c.portion)) l) (o.0 ∙ e)
        ∙ over-over (take 16386 came) (take 16386 (came ++ c.portion)) first (take-grows 16386 came c.portion)
    go (Err f) p = p ∙ o.0 ∙ e ∙ ap (λ (l : List ℕ). over (take 16386 l) first) (sym (append-nil came))

over_nothing : (room : List ℕ) → room ≡ over (take 16386 []) room
over_nothing room = sym (ap (λ (l : List ℕ). over l room) (take-nil 16386) ∙ rw zero-min refl)

pub rest-stays : RestStays
rest-stays a room o = stays room [] room a.calls a.room (over_nothing room) (however-cut a).rooms o

-- what the next call and the end are lent is untouched
untouched-left : (w : Standing) (c : Call) → Untouched (after_call w c) c.left
untouched-left w c e = go (short_room c.room) refl
  where
    go : (b : Bool) → short_room c.room ≡ b → held_in (state_then c) c.left ≡ (after_call w c).bytes
    go true s = absurd (false≢true (sym e ∙ ap short_room (left c s).room ∙ s))
    go false s =
        let t = took c s in
        ap (λ (x : State). held_in x c.left) t.state ∙ sym (ap (λ (r : Result State Reason). bytes_after r c.left w.bytes) t.answer)

in-one-room : (w : Standing) (room : List ℕ) (cs : List Call) (end : List ℕ) → Untouched w room → OneRoom room cs end → EachUntouched w cs end
in-one-room w room [] end u o = λ e. ap (held_in w.state) o ∙ u (ap short_room (sym o) ∙ e)
in-one-room w room (c ∷ cs) end u o =
    ((λ e. ap (held_in w.state) o.0 ∙ u (ap short_room (sym o.0) ∙ e)), in-one-room (after_call w c) c.left cs end (untouched-left w c) o.1)

pub nobody-else : NobodyElse
nobody-else room calls end o = in-one-room at_first room calls end (λ e. refl) o
