-- Where two passes that keep are accepted one after the other, so is the call: each of its refusals is one of a pass, but 15, which keeping never gives.
-- Assumes nothing.
use mathlib.Core.Path.{◌≡◌, refl, sym, ◌∙◌, ap, ap₂, subst}
use mathlib.Core.Bool.{Bool, true, false, ◌&&◌, ◌||◌}
use mathlib.Core.List.{List}
use mathlib.Core.Logic.{◌⊎◌, inl, inr}
use Prim.Native.Nat.{ℕ, ◌+◌}
use lib.Dec.{eqb, ltb}
use lib.ListN.{length}
use borrow.Author.Tests.{eqb-true, not-false}
use Rattle.wire.specs.Image.{Bytes}
use Rattle.wire.specs.Outcome.{accepted}
use Rattle.wire.proofs.Lists.{or-none}
use Rattle.wire.proofs.Order.{passed-answer}
use Rattle.pdi.specs.Offset.{past_end}
use Rattle.sheet.specs.Device.{Data}
use Rattle.sheet.specs.Sheet.{sheet_data}
use Rattle.pdo.specs.declared.PdoDirection.{PdoDirection}
use Rattle.pdo.specs.declared.PdoDirection.TheVariants.{MasterRead, MasterWrite}
use Rattle.pdo.specs.Direction.{other}
use Rattle.area.specs.Area.{entries_of, not_entries, not_channels}
use Rattle.passes.specs.declared.Chosen.{Chosen}
use Rattle.passes.specs.declared.OldEntries.{OldEntries}
use Rattle.passes.specs.declared.OldEntries.TheVariants.{Clear, Keep}
use Rattle.passes.specs.declared.OutputStart.{OutputStart}
use Rattle.passes.specs.declared.OutputStart.TheVariants.{Given, AfterInputs}
use Rattle.passes.specs.declared.Settings.{Settings}
use Rattle.passes.specs.Use.{Use, size_of}
use Rattle.passes.specs.Old.{beginning, in_the_way}
use Rattle.passes.specs.Start.{Offsets, of_either, offset_of, is_given, start_of, Planned, planned, Both, planned_for}
use Rattle.passes.specs.Entries.{plan, too_long, uses_of_both}
use Rattle.passes.specs.Pass.{not_areas, some_too_many, no_entry, keeping_refusals, keeping_pass}
use Rattle.passes.specs.Call.{uses_for, starts_at, call_refusals, both_of, call}
use Rattle.agreement.specs.Clean.{zeroed, OneAfterTheOther, begun, TwoPassesAccepted, KeepingAccepted}
use Rattle.agreement.proofs.Basics.{either, none-accepted, accepted-none, NoneHolds}
use Rattle.agreement.proofs.TwoPasses.{begun-long, begun-entries, kept-entries, eight-begun}

-- what is so of one direction and of the other is so of each; and what holds of neither
of-each : (P : PdoDirection → Type 0) (first : PdoDirection) → P first → P (other first) → (r : PdoDirection) → P r
of-each P MasterRead p q MasterRead = p
of-each P MasterRead p q MasterWrite = q
of-each P MasterWrite p q MasterRead = q
of-each P MasterWrite p q MasterWrite = p

neither : (p : PdoDirection → Bool) → ((r : PdoDirection) → p r ≡ false) → of_either p ≡ false
neither p h = λ i. h MasterRead i || h MasterWrite i

-- where neither direction's start is below the group start, no given offset is
given-from : (how : OutputStart) (o : Offsets) (size : PdoDirection → ℕ) (group : ℕ) → ((r : PdoDirection) → ltb (start_of how o size r) group ≡ false)
    → (r : PdoDirection) → is_given r how && ltb (offset_of r o) group ≡ false
given-from how o size group h MasterRead = h MasterRead
given-from Given o size group h MasterWrite = h MasterWrite
given-from AfterInputs o size group h MasterWrite = refl

-- an area is of 256 bytes if what two passes begin with is
begun-whole : (old : OldEntries) (fmmus : List ℕ) → not_entries (begun old fmmus) ≡ false → not_entries fmmus ≡ false
begun-whole Keep fmmus e = e
begun-whole Clear fmmus e = go (either (eqb (length fmmus) 256))
  where
    go : (eqb (length fmmus) 256 ≡ true) ⊎ (eqb (length fmmus) 256 ≡ false) → not_entries fmmus ≡ false
    go (inl h) = rw h refl
    go (inr h) = let z : zeroed fmmus ≡ fmmus = rw h refl in ap not_entries (sym z) ∙ e

module _ (sheet ws : List ℕ) (c : Chosen) (o : Offsets) (settings : Settings) where
  abbrev d : Data
  d = sheet_data sheet

  abbrev start : PdoDirection → ℕ
  start r = starts_at settings o d ws r

  abbrev uses : PdoDirection → List Use
  uses r = uses_for settings c d ws r

  -- what a pass that is accepted tells, whatever its areas
  record Passed (b : Both) (r : PdoDirection) : Type 0 where
    bits : some_too_many d ws r ≡ false
    entry : no_entry d ws r ≡ false
    end : past_end (start r + size_of d ws r) ≡ false
    from : ltb (start r) settings.group ≡ false
    is : planned_for r b ≡ planned (start r) settings.group (size_of d ws r)

  module _ (r : PdoDirection) (area images : List ℕ) (b : Both)
      (says : keeping_pass sheet ws c settings.mode r (start r) settings.group area images ≡ accepted (planned_for r b)) where
    pass-holds : NoneHolds (keeping_refusals sheet ws c settings.mode r (start r) settings.group area images)
    unfolding keeping_pass
    pass-holds =
        accepted-none (keeping_refusals sheet ws c settings.mode r (start r) settings.group area images) (planned (start r) settings.group (size_of d ws r)) (planned_for r b) says

    passed : Passed b r
    unfolding keeping_pass
    passed =
        let s = pass-holds.1.1.1.1.1.1 in
        record {
          bits = s.0;
          entry = s.1.0;
          end = s.1.1.1.0;
          from = s.1.1.1.1.0;
          is =
              passed-answer (keeping_refusals sheet ws c settings.mode r (start r) settings.group area images) (planned (start r) settings.group (size_of d ws r)) (planned_for r b)
              (sym says);
        }

  module _ (fmmus channels : List ℕ) (b : Both) (first : PdoDirection) (fmmus_then channels_then : List ℕ) (bytes : Bytes fmmus)
      (free : in_the_way settings.old (uses_of_both uses) (entries_of 16 fmmus) ≡ false)
      (k : OneAfterTheOther sheet ws c o settings first (begun settings.old fmmus) channels b fmmus_then channels_then) where
    one : NoneHolds (keeping_refusals sheet ws c settings.mode first (start first) settings.group (begun settings.old fmmus) channels)
    one = pass-holds first (begun settings.old fmmus) channels b k.one.says

    two : NoneHolds (keeping_refusals sheet ws c settings.mode (other first) (start (other first)) settings.group k.between k.images_between)
    two = pass-holds (other first) k.between k.images_between b k.two.says

    each : (r : PdoDirection) → Passed b r
    each = of-each (Passed b) first (passed first (begun settings.old fmmus) channels b k.one.says) (passed (other first) k.between k.images_between b k.two.says)

    right : (not_entries fmmus ≡ false) × (not_channels channels ≡ false)
    right = let h = or-none (not_entries (begun settings.old fmmus)) (not_channels channels) one.0 in (begun-whole settings.old fmmus h.0, h.1)

    long : length fmmus ≡ 256
    long = eqb-true (length fmmus) 256 (not-false (eqb (length fmmus) 256) right.0)

    -- 8 of neither, the second over what the first left
    room : too_long settings.old (uses_of_both uses) (entries_of 16 fmmus) ≡ false
    room =
        let begins = begun-entries settings.old fmmus long in
        let left : entries_of 16 k.between ≡ plan first (start first) (uses first) (beginning settings.old (entries_of 16 fmmus)) =
        ap (entries_of 16) k.one.entries
        ∙ kept-entries first (start first) (uses first) (begun settings.old fmmus) (begun-long settings.old fmmus long)
        ∙ ap (plan first (start first) (uses first)) begins in
        let a = sym (ap (too_long Keep (uses first)) begins) ∙ one.1.1.1.1.1.1.1.1.0 in
        let z = sym (ap (too_long Keep (uses (other first))) left) ∙ two.1.1.1.1.1.1.1.1.0 in
        eight-begun settings.old uses first (start first) fmmus bytes free ∙ (λ i. a i || z i)

    holds : NoneHolds (call_refusals sheet ws c o settings fmmus channels)
    holds =
        let areas : not_areas fmmus channels ≡ false = λ i. right.0 i || right.1 i in
        let bits = neither (some_too_many d ws) (λ r. (each r).bits) in
        let entry = neither (no_entry d ws) (λ r. (each r).entry) in
        let end = neither (λ r. past_end (start r + size_of d ws r)) (λ r. (each r).end) in
        let from =
        neither (λ r. is_given r settings.outputs && ltb (offset_of r o) settings.group) (given-from settings.outputs o (size_of d ws) settings.group (λ r. (each r).from)) in
        let s = one.1 in
        (areas, (s.0, (s.1.0, (s.1.1.0, (s.1.1.1.0, (s.1.1.1.1.0, (bits, (entry, (room, (end, (from, (free, tt))))))))))))

    accept : call sheet ws c o settings fmmus channels ≡ accepted b
    unfolding call
    accept =
        none-accepted (call_refusals sheet ws c o settings fmmus channels) (both_of d ws o settings) holds
        ∙ ap₂ (λ (i u : Planned). accepted (record { inputs = i; outputs = u })) (sym (each MasterRead).is) (sym (each MasterWrite).is)

pub two-passes-accepted : TwoPassesAccepted
two-passes-accepted sheet ws c o settings fmmus channels b first fmmus_then channels_then bytes free k =
    accept sheet ws c o settings fmmus channels b first fmmus_then channels_then bytes free k

pub keeping-accepted : KeepingAccepted
unfolding in_the_way
keeping-accepted sheet ws c o settings fmmus channels b first fmmus_then channels_then bytes keep k =
    two-passes-accepted sheet ws c o settings fmmus channels b first fmmus_then channels_then bytes
    (ap (λ (old : OldEntries). in_the_way old (uses_of_both (uses_for settings c (sheet_data sheet) ws)) (entries_of 16 fmmus)) keep)
    (subst (λ (old : OldEntries). OneAfterTheOther sheet ws c o settings first (begun old fmmus) channels b fmmus_then channels_then) (sym keep) k)
