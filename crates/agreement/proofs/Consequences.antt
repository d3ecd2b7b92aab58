-- What follows: translation is never refused, either direction's entries are as if the other weren't, every address of an end-to-end range is named by an entry: by
-- default on every area; keeping, from disabled entries. And a refused call leaves all that it was lent.
-- Assumes nothing.
use mathlib.Core.Path.{◌≡◌, refl, sym, ◌∙◌, ap, subst}
use mathlib.Core.Bool.{true, false}
use mathlib.Core.List.{List, [], ◌∷◌}
use mathlib.Core.Logic.{◌⊎◌, inl, inr}
use mathlib.Core.Option.{Option, some}
use Prim.Native.Nat.{ℕ, ◌+◌, ◌-◌, ◌≤◌, ◌<◌}
use native.Mathlib.Omega.{arith}
use lib.Dec.{ltb}
use lib.ListN.{length, get_or}
use borrow.Author.Tests.{ltb-true, ltb-false}
use Rattle.std.specs.Prelude.{Err}
use Rattle.wire.specs.Image.{Bytes}
use Rattle.wire.specs.Outcome.{Outcome, refused, accepted}
use Rattle.wire.proofs.Order.{never}
use Rattle.wire.specs.Lists.{Each}
use Rattle.sheet.specs.Sheet.{sheet_data}
use Rattle.pdo.specs.declared.PdoDirection.{PdoDirection}
use Rattle.pdo.specs.declared.PdoDirection.TheVariants.{MasterRead, MasterWrite}
use Rattle.pdo.specs.Direction.{other}
use Rattle.area.specs.Area.{entries_of}
use Rattle.area.proofs.Flat.{length-chunks}
use Rattle.passes.specs.Use.{Use, total}
use Rattle.passes.specs.Start.{Offsets, offsets, Both, segments_alone, segments_of, offsets_after}
use Rattle.passes.specs.Entries.{plan}
use Rattle.passes.specs.Call.{call, entries_after, images_after}
use Rattle.passes.proofs.Pieces.{uses-total}
use Rattle.translation.specs.Translate.{named, says, first_said, or_none, translate}
use Rattle.translation.proofs.Lies.{inside, behind}
use Rattle.agreement.specs.Agreement.{Needs, Lent, weights, choice, Accepted, EndToEnd, laid_by, started_at, counted}
use Rattle.agreement.specs.Clean.{RefusedLeaves, OutputsUnread}
use Rattle.agreement.proofs.Basics.{either, each_map, said-by}
use Rattle.agreement.proofs.Straight.{lay, Fresh, Apart, straight-same, straight-iff}
use Rattle.agreement.proofs.Run.{said, plan-leaves}
use Rattle.agreement.proofs.Told.{apart-uses}
use Rattle.agreement.proofs.TwoPasses.{plan-swap}
use Rattle.agreement.proofs.Demand3.{range_size, begun, Facts, facts, among, translated}

-- after such a call translation is never refused, neither with 11 nor with 1
pub never-eleven : (sheet : List ℕ) (l : Lent) (area after : List ℕ) → Bytes sheet
    → Accepted sheet l area after → Needs l.settings.old area → (r : PdoDirection) (a n : ℕ) → translate r after a ≡ refused n → ⊥
never-eleven sheet l area after bytes p h r a n e = never (sym e ∙ translated sheet r l after (among sheet bytes l area after h (facts sheet l area after p) r) a)

-- the entries that a direction uses hold what it laid there, as if the other direction weren't
module _ (sheet : List ℕ) (bytes : Bytes sheet) (l : Lent) (area after : List ℕ) (p : Accepted sheet l area after) where
  abbrev laid_alone : PdoDirection → List (List ℕ)
  laid_alone r = plan r (started_at sheet r l) (laid_by sheet r l) (begun l area)

  f : Facts sheet l area after
  f = facts sheet l area after p

  away : (r : PdoDirection) → Apart (laid_by sheet r l) (laid_by sheet (other r) l)
  away r = apart-uses sheet (weights sheet l) bytes (choice l) l.offsets l.settings area after f r

  -- what was laid last
  laid-last : (r : PdoDirection) → entries_of 16 after ≡ plan (other r) (started_at sheet (other r) l) (laid_by sheet (other r) l) (laid_alone r)
  laid-last MasterRead = f.leaves
  laid-last MasterWrite =
      f.leaves
      ∙ sym (plan-swap MasterRead MasterWrite (started_at sheet MasterRead l) (started_at sheet MasterWrite l) (laid_by sheet MasterRead l) (laid_by sheet MasterWrite l) (begun l area) (away MasterWrite))

  pub left_alone : (r : PdoDirection) → Each (λ (u : Use). get_or (entries_of 16 after) u.entry [] ≡ get_or (laid_alone r) u.entry []) (laid_by sheet r l)
  left_alone r =
      each_map (λ (u : Use). Fresh u.entry (laid_by sheet (other r) l)) (λ (u : Use). get_or (entries_of 16 after) u.entry [] ≡ get_or (laid_alone r) u.entry [])
      (λ u h. ap (λ (es : List (List ℕ)). get_or es u.entry []) (laid-last r) ∙ plan-leaves (other r) (started_at sheet (other r) l) (laid_by sheet (other r) l) (laid_alone r) u.entry h)
      (laid_by sheet r l) (away r)

-- a refused call leaves both offsets and both areas
pub refused-leaves : RefusedLeaves
refused-leaves sheet ws c o settings fmmus channels n p f g k = go (call sheet ws c o settings fmmus channels) k.says k.moves k.entries k.images
  where
    go : (x : Outcome Both) → segments_of (Err n) ≡ segments_alone x → p ≡ offsets_after x o → f ≡ entries_after x (sheet_data sheet) ws c o settings fmmus
        → g ≡ images_after x (sheet_data sheet) ws channels → ◌≡◌ {A = Offsets × List ℕ × List ℕ} (p, f, g) (o, fmmus, channels)
    go (refused m) says moves entries images = λ i. (moves i, entries i, images i)
    go (accepted b) says moves entries images = absurd (never says)

-- straight after the inputs the outputs' lent offset is unread
pub outputs-unread : OutputsUnread
unfolding call
outputs-unread sheet ws c inputs one two settings fmmus channels after = (rw after refl, go)
  where
    go : (x : Outcome Both) → entries_after x (sheet_data sheet) ws c (offsets inputs one) settings fmmus ≡ entries_after x (sheet_data sheet) ws c (offsets inputs two) settings fmmus
    go (refused n) = refl
    go (accepted b) = rw after refl

-- laying names something at every address of its range
record Laid (q : ℕ) (us : List Use) (a : ℕ) : Type 0 where
  answer : Option ℕ
  is : lay q us a ≡ some answer

laid-inside : (q a : ℕ) (us : List Use) → q ≤ a → a < q + total us → Laid q us a
unfolding lay total
laid-inside q a [] h g = absurd (omega arith)
laid-inside q a (u ∷ us) h g = go (either (ltb a (q + u.size))) (λ b. laid-inside (q + u.size) a us b (omega arith))
  where
    go : (ltb a (q + u.size) ≡ true) ⊎ (ltb a (q + u.size) ≡ false) → (q + u.size ≤ a → Laid (q + u.size) us a) → Laid q (u ∷ us) a
    go (inl f) i = record { answer = named (u.at + (a - q)); is = rw (inside q u.size a h (ltb-true a (q + u.size) f)) refl }
    go (inr f) i = let b = ltb-false a (q + u.size) f in record { answer = (i b).answer; is = rw (behind q u.size a b) (i b).is }

-- every address of an end-to-end direction's range is named by an entry, and its answer is the counted one (none on both sides over 65,535)
pub record NamedBy (sheet : List ℕ) (r : PdoDirection) (l : Lent) (area : List ℕ) (a : ℕ) : Type 0 where
  pub entry : ℕ
  pub there : entry < 16
  pub answer : Option ℕ
  pub says_it : says r a (get_or (entries_of 16 area) entry []) ≡ some answer
  pub counts_it : counted sheet r l a ≡ accepted answer

pub every-address-named : (sheet : List ℕ) (l : Lent) (area after : List ℕ) → Bytes sheet
    → Accepted sheet l area after → Needs l.settings.old area → (r : PdoDirection) → EndToEnd (laid_by sheet r l)
    → (a : ℕ) → started_at sheet r l ≤ a → a < started_at sheet r l + range_size sheet r l → NamedBy sheet r l after a
every-address-named sheet l area after bytes p needs r e a h g =
    let us = laid_by sheet r l in
    let q = started_at sheet r l in
    let t = among sheet bytes l area after needs (facts sheet l area after p) r in
    let z : total us ≡ range_size sheet r l = uses-total (sheet_data sheet) (weights sheet l) r l.settings.mode (choice l) in
    let x = laid-inside q a us h (omega arith) in
    let s = straight-same 16 0 q a us ((straight-iff us t.lays.places t.lays.grouped).1 e) in
    let w = said-by (says r a) (entries_of 16 after) [] x.answer (ap first_said (t.alike.says_same a) ∙ said r q us t.before t.lays t.start a ∙ sym s ∙ x.is) in
    let n : length (entries_of 16 after) ≡ 16 = length-chunks 16 16 after in
    record {
      entry = w.place;
      there = subst (λ (m : ℕ). w.place < m) n w.there;
      answer = x.answer;
      says_it = w.said;
      counts_it = t.counts a ∙ ap (λ (y : Option (Option ℕ)). accepted (or_none y)) x.is;
    }
