-- Demand 3 of one call: the inputs, after which the outputs are laid unseen; and the outputs, which may begin on what the inputs leave.
-- Assumes nothing.
use mathlib.Core.Path.{◌≡◌, refl, sym, ◌∙◌, ap, subst}
use mathlib.Core.Bool.{false}
use mathlib.Core.List.{List, [], map}
use mathlib.Core.Logic.{◌↔◌, ⊎_elim}
use mathlib.Core.Option.{Option}
use Prim.Native.Nat.{ℕ, ◌+◌, ◌≤◌, ◌<◌}
use native.Mathlib.Omega.{arith}
use lib.Dec.{ltb}
use lib.ListN.{length, get_or, get_or-eq_default}
use borrow.Author.Tests.{ltb-true, ltb-false, eq-eqb}
use Rattle.std.specs.Prelude.{Ok}
use Rattle.wire.specs.Image.{Bytes}
use Rattle.wire.specs.Outcome.{accepted}
use Rattle.wire.proofs.Lists.{none_below}
use Rattle.wire.specs.Lists.{Each}
use Rattle.sheet.specs.Sheet.{sheet_data}
use Rattle.pdi.specs.declared.PdiSegment.{PdiSegment}
use Rattle.pdo.specs.declared.PdoDirection.{PdoDirection}
use Rattle.pdo.specs.declared.PdoDirection.TheVariants.{MasterRead, MasterWrite}
use Rattle.pdo.specs.Bits.{pieces_of}
use Rattle.area.specs.Area.{entries_of}
use Rattle.area.proofs.Flat.{length-chunks}
use Rattle.passes.specs.declared.OldEntries.{OldEntries}
use Rattle.passes.specs.declared.OldEntries.TheVariants.{Clear, Keep}
use Rattle.passes.specs.Use.{Use, own, total_on, size_of}
use Rattle.passes.specs.Start.{Offsets}
use Rattle.passes.specs.Old.{beginning, in_the_way}
use Rattle.passes.specs.Entries.{plan, length_before, too_long, uses_of_both}
use Rattle.passes.specs.Call.{Calls}
use Rattle.passes.proofs.Cleared.{Off, nil-off}
use Rattle.passes.proofs.Lengths.{total-both}
use Rattle.passes.proofs.Pieces.{uses-total}
use Rattle.translation.specs.Translate.{says, first_said, or_none, translate}
use Rattle.counting.specs.Count.{spot_in, device_alone, count_refusals, count}
use Rattle.agreement.specs.Agreement.{EveryDisabled, Needs, Lent, weights, choice, call_of, Accepted, EndToEnd, laid_by, started_at, counted, Agree, Demand3, Demand3Clean, Demand3FromDisabled, Demand3InReach}
use Rattle.agreement.proofs.Basics.{none-accepted, each_map, each_of, each-parts, either}
use Rattle.agreement.proofs.Straight.{lay, Apart, Lays}
use Rattle.agreement.proofs.Step.{off-silent}
use Rattle.agreement.proofs.Run.{Start, clean-start, Alike, agree-iff, none-odd, other_after, other-before}
use Rattle.agreement.proofs.Uses.{spot-lay, count-lay, Sane}
use Rattle.agreement.proofs.Told.{answered, Told, told, sane-uses, apart-uses}

-- a direction's wanted sync managers, the empty ones too, and their rounded bytes
abbrev pub own_by : List ℕ → PdoDirection → Lent → List Use
own_by sheet r l = own (pieces_of (sheet_data sheet) (weights sheet l) r)

abbrev pub range_size : List ℕ → PdoDirection → Lent → ℕ
range_size sheet r l = size_of (sheet_data sheet) (weights sheet l) r

-- the sync managers of both directions
abbrev pub laid_by_both : List ℕ → Lent → List Use
laid_by_both sheet l = uses_of_both (λ r. laid_by sheet r l)

-- the entries that a call begins with: as they are, or with old ones cleared
abbrev pub begun : Lent → List ℕ → List (List ℕ)
begun l area = beginning l.settings.old (entries_of 16 area)

-- what an accepted call tells, of one that is lent a table
abbrev pub Facts : List ℕ → Lent → List ℕ → List ℕ → Type 0
Facts sheet l area after = Told sheet (weights sheet l) (choice l) l.offsets l.settings area after

pub facts : (sheet : List ℕ) (l : Lent) (area after : List ℕ) → Accepted sheet l area after → Facts sheet l area after
facts sheet l area after a = told sheet (weights sheet l) (choice l) l.offsets l.settings area l.channels after a.both a.says a.leaves

pub disabled-off : (area : List ℕ) → EveryDisabled area → (k : ℕ) → Off (get_or (entries_of 16 area) k [])
disabled-off area d k = ⊎_elim (λ h. d k (ltb-true k 16 h)) (λ h. past (ltb-false k 16 h)) (either (ltb k 16))
  where
    past : 16 ≤ k → Off (get_or (entries_of 16 area) k [])
    past h =
        let n = length-chunks 16 16 area in
        subst Off (sym (get_or-eq_default (entries_of 16 area) [] (omega arith))) nil-off

pub disabled-start : (r : PdoDirection) (us : List Use) (area : List ℕ) → EveryDisabled area → Start r us (entries_of 16 area)
disabled-start r us area d =
    record {
      sixteen = length-chunks 16 16 area;
      silents = λ k. off-silent r _ (disabled-off area d k);
      off = each_of (λ (v : Use). Off (get_or (entries_of 16 area) v.entry [])) (λ v. disabled-off area d v.entry) us;
    }

-- either direction may begin: by default because 15 isn't given; keeping, as every entry was disabled
needed-start : (old : OldEntries) (r : PdoDirection) (us : List Use) (area : List ℕ) → Needs old area → in_the_way old us (entries_of 16 area) ≡ false → Start r us (beginning old (entries_of 16 area))
needed-start Clear r us area n free = clean-start r us (entries_of 16 area) (length-chunks 16 16 area) free
needed-start Keep r us area n free = disabled-start r us area n

-- so what is needed to lay the sync managers of a direction, and what counting answers
module _ (sheet : List ℕ) (bytes : Bytes sheet) (l : Lent) (area after : List ℕ) (f : Facts sheet l area after) where
  sane-of : (r : PdoDirection) → Sane (laid_by sheet r l)
  sane-of r = sane-uses sheet (weights sheet l) bytes (choice l) l.offsets l.settings area after f r

  both-fit : (k : ℕ) → k < 16 → total_on k (laid_by sheet MasterRead l) + total_on k (laid_by sheet MasterWrite l) ≤ 65535
  unfolding too_long
  both-fit k h =
      let long : ℕ → ℕ = λ j. length_before l.settings.old (get_or (entries_of 16 area) j []) + total_on j (laid_by_both sheet l) in
      let m : length_before l.settings.old (get_or (entries_of 16 area) k []) + total_on k (laid_by_both sheet l) ≤ 65535 =
      ltb-false 65535 (long k) (none_below (λ j. ltb 65535 (long j)) 16 f.room k h) in
      let t = total-both k (laid_by sheet MasterRead l) (laid_by sheet MasterWrite l) in
      omega arith

  room-on : (r : PdoDirection) (k : ℕ) → k < 16 → total_on k (laid_by sheet r l) ≤ 65535
  room-on MasterRead k h = let m = both-fit k h in omega arith
  room-on MasterWrite k h = let m = both-fit k h in omega arith

  pub lays : (r : PdoDirection) → Lays (started_at sheet r l) (laid_by sheet r l)
  lays r =
      record {
        grouped = (sane-of r).grouped;
        places = (sane-of r).places;
        addresses = (sane-of r).addresses;
        room =
            each_map
            (λ (v : Use). v.entry < 16)
            (λ (v : Use). total_on v.entry (laid_by sheet r l) ≤ 65535)
            (λ v h. room-on r v.entry h)
            (laid_by sheet r l) (sane-of r).places;
        ends =
            let h = ltb-false 4294967295 (started_at sheet r l + range_size sheet r l) (f.end r) in
            let z = uses-total (sheet_data sheet) (weights sheet l) r l.settings.mode (choice l) in
            omega arith;
      }

  pub counted-own : (r : PdoDirection) (a : ℕ) → counted sheet r l a ≡ accepted (or_none (lay (started_at sheet r l) (own_by sheet r l) a))
  unfolding count
  counted-own r a =
      let ps = pieces_of (sheet_data sheet) (weights sheet l) r in
      let k = f.sheet_kept in
      ap device_alone
      (none-accepted
      (count_refusals sheet (weights sheet l) r (started_at sheet r l))
      (spot_in (started_at sheet r l) ps a)
      (k.right, (k.version, (k.whole, (k.named, (f.bits r, (f.entry r, (f.end r, tt))))))))
      ∙ ap (λ (x : Option ℕ). accepted x) (spot-lay (started_at sheet r l) a ps)

  pub counted-lay : (r : PdoDirection) (a : ℕ) → counted sheet r l a ≡ accepted (or_none (lay (started_at sheet r l) (laid_by sheet r l) a))
  counted-lay r a =
      counted-own r a ∙ ap (λ (x : Option (Option ℕ)). accepted (or_none x)) (count-lay (sheet_data sheet) l.settings.mode (choice l) (weights sheet l) r (started_at sheet r l) a)

-- a direction among the two: what it begins with, and that translation sees nothing else in the end
pub record Among (sheet : List ℕ) (r : PdoDirection) (l : Lent) (final : List ℕ) : Type 0 where
  pub before : List (List ℕ)
  pub start : Start r (laid_by sheet r l) before
  pub lays : Lays (started_at sheet r l) (laid_by sheet r l)
  pub long : length final ≡ 256
  pub alike : Alike r (entries_of 16 final) (plan r (started_at sheet r l) (laid_by sheet r l) before)
  pub counts : (a : ℕ) → counted sheet r l a ≡ accepted (or_none (lay (started_at sheet r l) (laid_by sheet r l) a))

module _ (sheet : List ℕ) (bytes : Bytes sheet) (l : Lent) (area after : List ℕ) (needs : Needs l.settings.old area) (f : Facts sheet l area after) where
  abbrev us : List Use
  us = laid_by sheet MasterRead l

  abbrev vs : List Use
  vs = laid_by sheet MasterWrite l

  -- on the one beginning
  pub begun-start : (r : PdoDirection) → Start r (laid_by sheet r l) (begun l area)
  begun-start r =
      let s = needed-start l.settings.old r (laid_by_both sheet l) area needs f.free in
      record { sixteen = s.sixteen; silents = s.silents; off = own-off r (each-parts (λ (v : Use). Off (get_or (begun l area) v.entry [])) us vs s.off) }
    where
      own-off : (r : PdoDirection) → Each (λ (v : Use). Off (get_or (begun l area) v.entry [])) us × Each (λ (v : Use). Off (get_or (begun l area) v.entry [])) vs
          → Each (λ (v : Use). Off (get_or (begun l area) v.entry [])) (laid_by sheet r l)
      own-off MasterRead e = e.0
      own-off MasterWrite e = e.1

  abbrev inputs_laid : List (List ℕ)
  inputs_laid = plan MasterRead (started_at sheet MasterRead l) us (begun l area)

  away : Apart vs us
  away = apart-uses sheet (weights sheet l) bytes (choice l) l.offsets l.settings area after f MasterWrite

  pub among : (r : PdoDirection) → Among sheet r l after
  among MasterRead =
      record {
        before = begun l area;
        start = begun-start MasterRead;
        lays = lays sheet bytes l area after f MasterRead;
        long = f.after_long;
        alike =
            subst (λ (es : List (List ℕ)). Alike MasterRead es inputs_laid) (sym f.leaves)
            (other_after MasterRead (started_at sheet MasterRead l) (started_at sheet MasterWrite l) us vs (begun l area) (begun-start MasterRead)
            away (sane-of sheet bytes l area after f MasterWrite).places);
        counts = counted-lay sheet bytes l area after f MasterRead;
      }
  among MasterWrite =
      record {
        before = inputs_laid;
        start =
            other-before MasterWrite (started_at sheet MasterRead l) us (begun l area) (begun-start MasterRead).sixteen (sane-of sheet bytes l area after f MasterRead).places vs
            (begun-start MasterWrite) away;
        lays = lays sheet bytes l area after f MasterWrite;
        long = f.after_long;
        alike = record { says_same = λ a. ap (map (says MasterWrite a)) f.leaves; odd_same = rw f.leaves refl };
        counts = counted-lay sheet bytes l area after f MasterWrite;
      }

-- translation is not refused: what the entries of the direction say first decides
pub translated : (sheet : List ℕ) (r : PdoDirection) (l : Lent) (final : List ℕ) (t : Among sheet r l final) (a : ℕ)
    → translate r final a ≡ accepted (or_none (first_said (map (says r a) (plan r (started_at sheet r l) (laid_by sheet r l) t.before))))
unfolding translate
translated sheet r l final t a =
    let o = t.alike.odd_same ∙ none-odd r (started_at sheet r l) (laid_by sheet r l) t.before t.lays t.start in
    rw (eq-eqb (length final) 256 t.long, o, t.alike.says_same a) refl

-- so translating and counting agree exactly if the direction's sync managers lie end to end
agreed : (sheet : List ℕ) (r : PdoDirection) (l : Lent) (final : List ℕ) → Among sheet r l final → Agree sheet r l final ↔ EndToEnd (laid_by sheet r l)
agreed sheet r l final t =
    let i = agree-iff r (started_at sheet r l) (laid_by sheet r l) t.before t.lays t.start in (
      λ h. i.0 (λ a g. let x = translated sheet r l final t a in let y = h a g in let z = t.counts a in cc),
      λ e a g. translated sheet r l final t a ∙ ap (λ (x : Option ℕ). accepted x) (i.1 e a g) ∙ sym (t.counts a),
    )

pub demand-3 : Demand3
demand-3 sheet l area after bytes p n r = agreed sheet r l after (among sheet bytes l area after n (facts sheet l area after p) r)

-- in the default nothing is needed; disabled entries are enough whatever the settings
pub needs-none : (old : OldEntries) (area : List ℕ) → old ≡ Clear → Needs old area
needs-none old area e = subst (λ (o : OldEntries). Needs o area) (sym e) tt

pub needs-disabled : (old : OldEntries) (area : List ℕ) → EveryDisabled area → Needs old area
needs-disabled Clear area d = tt
needs-disabled Keep area d = d

pub demand-3-clean : Demand3Clean
demand-3-clean sheet l area after bytes p clean r = demand-3 sheet l area after bytes p (needs-none l.settings.old area clean) r

pub demand-3-from-disabled : Demand3FromDisabled
demand-3-from-disabled sheet l area after bytes p d r = demand-3 sheet l area after bytes p (needs-disabled l.settings.old area d) r

pub demand-3-in-reach : Demand3InReach
demand-3-in-reach sheet l area after bytes p n r reach = demand-3 sheet l area after bytes p n r

-- the promise of the call's code, where it answers segments, is such an accepted call
pub promised :
    (sheet : List ℕ) (l : Lent) (area after channels_after : List ℕ) (i u : PdiSegment) (o : Offsets)
    → Calls sheet (weights sheet l) (choice l) l.offsets l.settings area l.channels (Ok (record { inputs = i; outputs = u })) o after channels_after → Accepted sheet l area after
promised sheet l area after channels_after i u o c = let a = answered (call_of sheet l area) i u c.says in record { both = a.both; says = a.says; leaves = c.entries }
