-- The theorems of specs/Again: what is written reads back, what was read is written again, and 2, 4 or 5 is given exactly where there is no sheet.
-- Assumes nothing.
use mathlib.Core.Path.{◌≡◌, refl, sym, ◌∙◌, ap, ap₂, subst}
use mathlib.Core.Bool.{Bool, true, false}
use mathlib.Core.List.{List, [], ◌∷◌}
use mathlib.Core.Logic.{◌⊎◌, inl, inr}
use Prim.Native.Nat.{ℕ}
use native.Mathlib.Omega.{arith}
use lib.ListN.{length, take, drop}
use lib.Seq.{take-append_seam}
use lib.Dec.{ltb}
use borrow.Author.Tests.{ltb-false}
use Rattle.std.specs.Prelude.{Result, Ok, Err}
use Rattle.wire.specs.Outcome.{Outcome, refused, accepted, when, decide, number_of, outcome_by}
use Rattle.wire.specs.Room.{over, room_after, written_of, text_in}
use Rattle.wire.specs.declared.Reason.{Reason}
use Rattle.wire.specs.declared.Reason.TheVariants.{SheetLength, SheetRule, UnnamedControl}
use Rattle.wire.proofs.Order.{never, passed_first, passed-answer}
use Rattle.wire.proofs.Copied.{over-front}
use Rattle.wire.proofs.Pins.{same_result}
use Rattle.sheet.specs.declared.Device.{Device}
use Rattle.sheet.specs.Device.{Data, data_of}
use Rattle.sheet.specs.Sheet.{some_unnamed, sheet_refusals, sheet_data, read_sheet, device_of, sheet_read_of, device_after}
use Rattle.sheet.proofs.Kept.{Accepts, accepted-accepts}
use Rattle.sheet.proofs.Reading.{device-data}
use Rattle.writer.specs.Form.{sheet_of}
use Rattle.writer.specs.Writing.{records_of, too_long, rule_broken, writing, Writes}
use Rattle.writer.specs.Again.{InRange, Call, ReadsBack, cleaned, WrittenAgain, SheetFor, RefusedExactly}
use Rattle.writer.proofs.Keeps.{Keeps}
use Rattle.writer.proofs.Back.{kept-reads}
use Rattle.writer.proofs.Bytes.{sheet-bytes}
use Rattle.writer.proofs.Read.{read_keeps}
use Rattle.writer.proofs.Cleaned.{written-again}
use Rattle.writer.proofs.Lent.{records-whole}
use Rattle.writer.proofs.Conditions.{data-keeps, keeps-data}

-- the data that a call was handed
abbrev given : Call → Data
given c = data_of c.device c.bytes

-- a call that answers a length: none of 2, 4 and 5 held, and the sheet stands at the front of the room
record Wrote (c : Call) (n : ℕ) : Type 0 where
  keeps : Keeps (given c)
  stands : take n c.left ≡ sheet_of (given c)

wrote : (c : Call) (n : ℕ) → c.answer ≡ Ok n → Wrote c n
unfolding writing
wrote c n e =
    let d = c.device in
    let s = c.bytes in
    let t = sheet_of (given c) in
    let room = c.room in
    let two = when 2 (too_long d s) in
    let four = when 4 (rule_broken d (records_of d s)) in
    let five = when 5 (some_unnamed (take d.n d.managers)) in
    let twelve = when 12 (ltb (length room) (length t)) in
    let o : accepted n ≡ decide (two ∷ four ∷ five ∷ twelve ∷ []) (length t) = sym (ap written_of e) ∙ c.promise.says in
    let a = passed_first two (four ∷ five ∷ twelve ∷ []) (length t) n o in
    let b = passed_first four (five ∷ twelve ∷ []) (length t) n a.1 in
    let u = passed_first five (twelve ∷ []) (length t) n b.1 in
    let fits = ltb-false (length room) (length t) (passed_first twelve [] (length t) n u.1).0 in
    let holds : c.left ≡ over t room = c.promise.holds ∙ ap (λ (x : Outcome ℕ). room_after x t room) (sym o) in
    record {
      keeps = data-keeps d s c.range a.0 b.0 u.0;
      stands =
          ap₂ (λ (k : ℕ) (l : List ℕ). take k l) (passed-answer (two ∷ four ∷ five ∷ twelve ∷ []) (length t) n o) (holds ∙ over-front t room fits)
          ∙ take-append_seam t (drop (length t) room);
    }

-- an answer by its outcome
answered : (r : Result Device Reason) (s : List ℕ) (x : Data) → outcome_by (λ d. data_of d s) r ≡ accepted x → (d : Device) × ((r ≡ Ok d) × (data_of d s ≡ x))
answered (Ok d) s x e = (d, (refl, cc))
answered (Err n) s x e = absurd (never e)

-- what is written reads back
pub reads-back : ReadsBack
reads-back c n r e reads =
    let w = wrote c n e in
    answered r (take n c.left) (given c) (reads.says ∙ ap read_sheet w.stands ∙ kept-reads (given c) w.keeps)

-- the record of an accepted sheet, with the sheet lent: no refusal but 12, and `cleaned` of the sheet is written
module _ (s : List ℕ) (a : Accepts s) (r : InRange (device_of s) s) where
  text : sheet_of (data_of (device_of s) s) ≡ cleaned s
  text = ap sheet_of (device-data s) ∙ written-again s r.bytes a

  only-room : (room : List ℕ) → writing (device_of s) s room ≡ text_in (cleaned s) room
  unfolding writing device_of
  only-room room =
      let d = device_of s in
      let whole = records-whole d s a.places a.walk in
      let k = keeps-data d s r a.managers a.usages whole (subst Keeps (sym (device-data s)) (read_keeps s r.bytes a)) in
      rw (k.0, k.1, k.2) (ap (λ (l : List ℕ). text_in l room) text)

-- what was read is written again
pub read-is-written-again : WrittenAgain
unfolding read_sheet
read-is-written-again s r c reads acc eb =
    let o : accepted (data_of c.device s) ≡ read_sheet s = sym (ap (outcome_by (λ d. data_of d s)) acc) ∙ reads.says in
    let a = accepted-accepts s (sheet_data s) (data_of c.device s) o in
    let q : accepted c.device ≡ accepted (device_of s) = sym (ap sheet_read_of acc) ∙ reads.holds ∙ ap (λ (x : Outcome Data). device_after x s) (sym o) in
    let d : c.device ≡ device_of s = cc in
    let range = there InRange d eb c.range in
    let w = there (λ (x : Device) (l : List ℕ). Writes x l c.room c.answer c.left) d eb c.promise in
    let e = only-room s a range c.room in
    record { says = w.says ∙ e; holds = w.holds ∙ ap₂ (λ (x : Outcome ℕ) (l : List ℕ). room_after x l c.room) e (text s a range) }
  where
    there : (P : Device → List ℕ → Type 0) {d e : Device} {l m : List ℕ} → d ≡ e → l ≡ m → P d l → P e m
    there P {d} {e} {l} {m} p q x = subst (λ (y : List ℕ). P e y) q (subst (λ (y : Device). P y l) p x)

module _ (c : Call) where
  -- the conditions of 2, of 4 and of 5
  abbrev long : Bool
  long = too_long c.device c.bytes

  abbrev broken : Bool
  broken = rule_broken c.device (records_of c.device c.bytes)

  abbrev nameless : Bool
  nameless = some_unnamed (take c.device.n c.device.managers)

  -- none of them: what is refused is refused with 12
  only-twelve : long ≡ false → broken ≡ false → nameless ≡ false → (n : Reason) → c.answer ≡ Err n → number_of n ≡ 12
  unfolding writing
  only-twelve a b u n e =
      let t = sheet_of (given c) in
      let o : refused (number_of n) ≡ writing c.device c.bytes c.room = sym (ap written_of e) ∙ c.promise.says in
      let z : refused (number_of n) ≡ text_in t c.room = rw (a, b, u) at o in
      go (ltb (length c.room) (length t)) (length t) z
    where
      go : (x : Bool) (m : ℕ) → refused (number_of n) ≡ decide (when 12 x ∷ []) m → number_of n ≡ 12
      go true m h = cc
      go false m h = absurd (never h)

  -- the answer to an outcome
  refused-with : (n : Reason) → writing c.device c.bytes c.room ≡ refused (number_of n) → c.answer ≡ Err n
  refused-with n o = same_result (λ k. k) (λ k. k) (λ k. refl) {x = c.answer} {y = Err n} (c.promise.says ∙ o) refl

  -- where not all three fail to hold, one of them was given
  given_by :
      (x y z : Bool) → long ≡ x → broken ≡ y → nameless ≡ z → (long ≡ false → broken ≡ false → nameless ≡ false → ⊥)
      → (c.answer ≡ Err SheetLength) ⊎ ((c.answer ≡ Err SheetRule) ⊎ (c.answer ≡ Err UnnamedControl))
  unfolding writing
  given_by true y z p q r h = let o : writing c.device c.bytes c.room ≡ refused 2 = rw p in inl (refused-with SheetLength o)
  given_by false true z p q r h = let o : writing c.device c.bytes c.room ≡ refused 4 = rw (p, q) in inr (inl (refused-with SheetRule o))
  given_by false false true p q r h = let o : writing c.device c.bytes c.room ≡ refused 5 = rw (p, q, r) in inr (inr (refused-with UnnamedControl o))
  given_by false false false p q r h = absurd (h p q r)

-- 2, 4 or 5 exactly where there is no sheet
pub refused-exactly : RefusedExactly
unfolding read_sheet
refused-exactly c n f e = (
  no-sheet,
  λ none. given_by c (long c) (broken c) (nameless c) refl refl refl (λ p q r. none (sheet (data-keeps c.device c.bytes c.range p q r))),
)
  where
    -- data that a sheet reads as is refused with none of them, but with 12
    unrefused : SheetFor (given c) → (k : Reason) → c.answer ≡ Err k → number_of k ≡ 12
    unrefused x k h =
        let s = x.sheet in
        let o : accepted (given c) ≡ read_sheet s = sym x.reads in
        let a = accepted-accepts s (sheet_data s) (given c) o in
        let same : sheet_data s ≡ given c = sym (passed-answer (sheet_refusals s) (sheet_data s) (given c) o) in
        let z = keeps-data c.device c.bytes c.range n f e (subst Keeps same (read_keeps s x.bytes a)) in
        only-twelve c z.0 z.1 z.2 k h

    no-sheet : (c.answer ≡ Err SheetLength) ⊎ ((c.answer ≡ Err SheetRule) ⊎ (c.answer ≡ Err UnnamedControl)) → SheetFor (given c) → ⊥
    no-sheet (inl h) x = let z = unrefused x SheetLength h in omega arith
    no-sheet (inr (inl h)) x = let z = unrefused x SheetRule h in omega arith
    no-sheet (inr (inr h)) x = let z = unrefused x UnnamedControl h in omega arith

    sheet : Keeps (given c) → SheetFor (given c)
    sheet k = record { sheet = sheet_of (given c); bytes = sheet-bytes (given c) k; reads = kept-reads (given c) k }
