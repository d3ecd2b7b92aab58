-- A call in the default made again over what it left: nothing is in its way, it clears what it laid and lays it again, and it writes the same images.
-- Assumes nothing.
use mathlib.Core.Path.{◌≡◌, refl, sym, ◌∙◌, ap, subst}
use mathlib.Core.Bool.{false}
use mathlib.Core.List.{List, [], map}
use mathlib.Core.Logic.{◌⊎◌, inl, inr, ⊎_elim}
use Prim.Native.Nat.{ℕ, ◌<◌}
use lib.ListN.{length, get_or, length-map}
use Rattle.std.specs.Prelude.{Ok}
use Rattle.wire.specs.Outcome.{Outcome, accepted}
use Rattle.wire.specs.Image.{Bytes}
use Rattle.wire.specs.Lists.{Each, some_of}
use Rattle.wire.proofs.Lists.{or-none, of_none, at_none}
use Rattle.pdi.specs.declared.PdiSegment.{PdiSegment}
use Rattle.fmmu.specs.Image.{fields_of}
use Rattle.sheet.specs.Sheet.{sheet_data}
use Rattle.pdo.specs.declared.PdoDirection.{PdoDirection}
use Rattle.pdo.specs.declared.PdoDirection.TheVariants.{MasterRead, MasterWrite}
use Rattle.area.specs.Area.{entries_of, flat}
use Rattle.area.proofs.Flat.{length-chunks}
use Rattle.channels.specs.Channels.{channels_after}
use Rattle.passes.specs.declared.OldEntries.TheVariants.{Clear}
use Rattle.passes.specs.declared.Chosen.{Chosen}
use Rattle.passes.specs.declared.Settings.{Settings}
use Rattle.passes.specs.Use.{Use}
use Rattle.passes.specs.Old.{cleared_of_both, both_bits, some_enabled, in_the_way}
use Rattle.passes.specs.Start.{Offsets, Both, segments_alone, offsets_after}
use Rattle.passes.specs.Entries.{plan, plan_both, too_long, uses_of_both}
use Rattle.passes.specs.Pass.{not_areas}
use Rattle.passes.specs.Call.{uses_for, starts_at, call_refusals, both_of, call, both_size, entries_after, images_after, Calls}
use Rattle.passes.proofs.Cleared.{Off, old-not-both, zeros-off, nil-off, both-has, cleared_at}
use Rattle.passes.proofs.Kept.{plan-length}
use Rattle.passes.proofs.Once.{calls-once}
use Rattle.agreement.specs.Clean.{with_old, by_default, MadeAgain}
use Rattle.agreement.proofs.Basics.{none-accepted, each_map, each-parts, none-at, NoneHolds}
use Rattle.agreement.proofs.Straight.{Fresh, Apart}
use Rattle.agreement.proofs.Clean.{both-old, cleared-twice}
use Rattle.agreement.proofs.Run.{Placed, Start, clean-start, plan-leaves, other-before}
use Rattle.agreement.proofs.Left.{Ours, fresh-or, LeftOf, left_at, both-same}
use Rattle.agreement.proofs.Images.{images-long, images-stay}
use Rattle.agreement.proofs.Told.{answered, none-holds, channels-long, Told, told, sane-uses, apart-uses}

-- over the entries that a call left: those that it used are cleared, so disabled again, and all others stay
module _ (start : PdoDirection → ℕ) (uses : PdoDirection → List Use) (area : List (List ℕ)) (long : length area ≡ 16)
    (places : (r : PdoDirection) → Each (λ (u : Use). u.entry < 16) (uses r)) (away : Apart (uses MasterWrite) (uses MasterRead))
    (free : in_the_way Clear (uses_of_both uses) area ≡ false) where
  abbrev us : List Use
  us = uses MasterRead

  abbrev vs : List Use
  vs = uses MasterWrite

  abbrev begin : List (List ℕ)
  begin = map cleared_of_both area

  abbrev inputs_laid : List (List ℕ)
  inputs_laid = plan MasterRead (start MasterRead) us begin

  abbrev left : List (List ℕ)
  left = plan_both start uses begin

  begins : (r : PdoDirection) → Start r (uses_of_both uses) begin
  begins r = clean-start r (uses_of_both uses) area long free

  off-parts : Each (λ (u : Use). Off (get_or begin u.entry [])) us × Each (λ (u : Use). Off (get_or begin u.entry [])) vs
  off-parts = each-parts (λ (u : Use). Off (get_or begin u.entry [])) us vs (begins MasterRead).off

  -- the outputs begin on what the inputs leave
  outputs-start : Start MasterWrite vs inputs_laid
  outputs-start =
      let s = begins MasterWrite in
      other-before MasterWrite (start MasterRead) us begin s.sixteen (places MasterRead) vs (record { sixteen = s.sixteen; silents = s.silents; off = off-parts.1 }) away

  placed : (r : PdoDirection) → Placed (uses r) begin
  placed r = subst (λ (n : ℕ). Each (λ (u : Use). u.entry < n) (uses r)) (sym (begins r).sixteen) (places r)

  -- an entry that a direction laid
  abbrev Mine : List ℕ → Type 0
  Mine e = (r : PdoDirection) × Ours r e

  -- what is left of each: unused and as the call began with, or laid by one direction
  at : (k : ℕ) → ((Fresh k us × Fresh k vs) × (get_or left k [] ≡ get_or begin k [])) ⊎ Mine (get_or left k [])
  at k =
      go (left_at MasterRead (start MasterRead) us begin (placed MasterRead) off-parts.0 k)
      (left_at MasterWrite (start MasterWrite) vs inputs_laid
      (subst (λ (n : ℕ). Each (λ (u : Use). u.entry < n) vs) (sym outputs-start.sixteen) (places MasterWrite)) outputs-start.off k)
    where
      go : LeftOf MasterRead us k (get_or begin k []) (get_or inputs_laid k []) → LeftOf MasterWrite vs k (get_or inputs_laid k []) (get_or left k [])
          → ((Fresh k us × Fresh k vs) × (get_or left k [] ≡ get_or begin k [])) ⊎ Mine (get_or left k [])
      go i (inr o) = inr (MasterWrite, o)
      go (inr i) (inl (f, e)) = inr (MasterRead, subst (Ours MasterRead) (sym e) i)
      go (inl (g, d)) (inl (f, e)) = inl ((g, f), e ∙ d)

  again : (k : ℕ) → get_or left k [] ≡ get_or begin k [] → get_or (map cleared_of_both left) k [] ≡ get_or begin k []
  again k e = cleared_at left k ∙ ap cleared_of_both (e ∙ cleared_at area k) ∙ cleared-twice (get_or area k []) ∙ sym (cleared_at area k)

  unused : (k : ℕ) → Fresh k (uses_of_both uses) → get_or begin k [] ≡ get_or (map cleared_of_both left) k []
  unused k f =
      let p = each-parts (λ (u : Use). u.entry ≡ k → ⊥) us vs f in
      sym (again k (plan-leaves MasterWrite (start MasterWrite) vs inputs_laid k p.1 ∙ plan-leaves MasterRead (start MasterRead) us begin k p.0))

  mine-off : (k : ℕ) → Mine (get_or left k []) → Off (get_or (map cleared_of_both left) k [])
  mine-off k (r, h) = subst Off (sym (cleared_at left k ∙ both-old r (get_or left k []) h)) zeros-off

  -- cleared, each is as the call began with, or disabled as it was then
  alike : (k : ℕ) → (get_or begin k [] ≡ get_or (map cleared_of_both left) k []) ⊎ (Off (get_or begin k []) × Off (get_or (map cleared_of_both left) k []))
  alike k = go (fresh-or k (λ (j : ℕ). Off (get_or begin j [])) (uses_of_both uses) (begins MasterRead).off) (at k)
    where
      go : Fresh k (uses_of_both uses) ⊎ Off (get_or begin k []) → ((Fresh k us × Fresh k vs) × (get_or left k [] ≡ get_or begin k [])) ⊎ Mine (get_or left k [])
          → (get_or begin k [] ≡ get_or (map cleared_of_both left) k []) ⊎ (Off (get_or begin k []) × Off (get_or (map cleared_of_both left) k []))
      go (inl f) l = inl (unused k f)
      go (inr o) (inl (f, e)) = inl (sym (again k e))
      go (inr o) (inr h) = inr (o, mine-off k h)

  pub laid-again : plan_both start uses (map cleared_of_both (plan_both start uses (map cleared_of_both area))) ≡ plan_both start uses (map cleared_of_both area)
  laid-again =
      sym (both-same start uses begin (map cleared_of_both left) (placed MasterRead) (placed MasterWrite)
      (record {
        long = sym (length-map left cleared_of_both ∙ plan-length MasterWrite (start MasterWrite) vs inputs_laid ∙ plan-length MasterRead (start MasterRead) us begin);
        away = unused;
        alike = alike;
      }))

  -- so nothing is in the way
  one_bit : (k : ℕ) → both_bits (get_or left k []) ≡ false
  unfolding in_the_way
  one_bit k = ⊎_elim (λ l. subst (λ (e : List ℕ). both_bits e ≡ false) (sym (l.1 ∙ cleared_at area k)) found) (λ h. old-not-both h.0 (get_or left k []) h.1) (at k)
    where
      found : both_bits (cleared_of_both (get_or area k [])) ≡ false
      found =
          both-has (get_or area k []) (λ e. both_bits e ≡ false) (rw zeros-off refl)
          (λ n w. at_none both_bits area [] (rw nil-off refl) (or-none (some_of both_bits area) (some_enabled (uses_of_both uses) begin) free).0 k)

  used-off : Each (λ (u : Use). Off (get_or (map cleared_of_both left) u.entry [])) (uses_of_both uses)
  used-off =
      each_map (λ (u : Use). Off (get_or begin u.entry [])) (λ (u : Use). Off (get_or (map cleared_of_both left) u.entry []))
      (λ u o. ⊎_elim (λ e. subst Off e o) (λ h. h.1) (alike u.entry))
      (uses_of_both uses) (begins MasterRead).off

  pub free-again : in_the_way Clear (uses_of_both uses) (plan_both start uses (map cleared_of_both area)) ≡ false
  unfolding in_the_way
  free-again =
      rw (
        none-at both_bits left [] one_bit,
        of_none (λ (u : Use). (fields_of (get_or (map cleared_of_both left) u.entry [])).enable) (λ (u : Use). Off (get_or (map cleared_of_both left) u.entry [])) (λ u o. o) (uses_of_both uses) used-off,
      )
      refl

-- the whole call
module _ (sheet ws : List ℕ) (chosen : Chosen) (o : Offsets) (settings : Settings) (fmmus channels fmmus_then channels_then : List ℕ) (bytes : Bytes sheet)
    (b : Both) (says : by_default sheet ws chosen o settings fmmus channels ≡ accepted b)
    (entries : fmmus_then ≡ entries_after (by_default sheet ws chosen o settings fmmus channels) (sheet_data sheet) ws chosen o (with_old Clear settings) fmmus)
    (images : channels_then ≡ images_after (by_default sheet ws chosen o settings fmmus channels) (sheet_data sheet) ws channels) where
  abbrev uses : PdoDirection → List Use
  uses r = uses_for settings chosen (sheet_data sheet) ws r

  abbrev start : PdoDirection → ℕ
  start r = starts_at settings o (sheet_data sheet) ws r

  c : NoneHolds (call_refusals sheet ws chosen o (with_old Clear settings) fmmus channels)
  c = none-holds sheet ws chosen o (with_old Clear settings) fmmus channels b says

  t : Told sheet ws chosen o (with_old Clear settings) fmmus fmmus_then
  t = told sheet ws chosen o (with_old Clear settings) fmmus channels fmmus_then b says entries

  places : (r : PdoDirection) → Each (λ (u : Use). u.entry < 16) (uses r)
  places r = (sane-uses sheet ws bytes chosen o (with_old Clear settings) fmmus fmmus_then t r).places

  away : Apart (uses MasterWrite) (uses MasterRead)
  away = apart-uses sheet ws bytes chosen o (with_old Clear settings) fmmus fmmus_then t MasterWrite

  -- the sync manager area
  long : length channels ≡ 128
  long = channels-long sheet ws chosen o (with_old Clear settings) fmmus channels c

  abbrev write : List ℕ → List ℕ
  write area = flat (channels_after (both_size (sheet_data sheet) ws) 0 (sheet_data sheet).managers (entries_of 8 area))

  channels-are : channels_then ≡ write channels
  channels-are = images ∙ ap (λ (x : Outcome Both). images_after x (sheet_data sheet) ws channels) says

  channels-kept : write channels_then ≡ channels_then
  channels-kept = ap write channels-are ∙ images-stay (both_size (sheet_data sheet) ws) (sheet_data sheet).managers channels long ∙ sym channels-are

  -- the FMMU area
  fmmus-are : fmmus_then ≡ flat (plan_both start uses (map cleared_of_both (entries_of 16 fmmus)))
  fmmus-are = entries ∙ ap (λ (x : Outcome Both). entries_after x (sheet_data sheet) ws chosen o (with_old Clear settings) fmmus) says

  fmmus-kept : flat (plan_both start uses (map cleared_of_both (entries_of 16 fmmus_then))) ≡ fmmus_then
  fmmus-kept =
      ap (λ (es : List (List ℕ)). flat (plan_both start uses (map cleared_of_both es))) t.leaves
      ∙ ap flat (laid-again start uses (entries_of 16 fmmus) (length-chunks 16 16 fmmus) places away t.free)
      ∙ sym fmmus-are

  -- so no refusal holds again
  both_long : not_areas fmmus_then channels_then ≡ false
  both_long = rw (t.after_long, ap length channels-are ∙ images-long (sheet_data sheet).managers channels long (both_size (sheet_data sheet) ws)) refl

  none-again : NoneHolds (call_refusals sheet ws chosen o (with_old Clear settings) fmmus_then channels_then)
  unfolding too_long
  none-again =
      let s = c.1.1.1.1.1 in
      let free = ap (in_the_way Clear (uses_of_both uses)) t.leaves ∙ free-again start uses (entries_of 16 fmmus) (length-chunks 16 16 fmmus) places away t.free in
      (both_long, (c.1.0, (c.1.1.0, (c.1.1.1.0, (c.1.1.1.1.0, (s.0, (s.1.0, (s.1.1.0, (s.1.1.1.0, (s.1.1.1.1.0, (s.1.1.1.1.1.0, (free, tt))))))))))))

  pub outcome-again : by_default sheet ws chosen o settings fmmus_then channels_then ≡ accepted b
  unfolding call
  outcome-again =
      let x = both_of (sheet_data sheet) ws o settings in
      none-accepted (call_refusals sheet ws chosen o (with_old Clear settings) fmmus_then channels_then) x none-again
      ∙ sym (none-accepted (call_refusals sheet ws chosen o (with_old Clear settings) fmmus channels) x c)
      ∙ says

  pub entries-again : fmmus_then ≡ entries_after (by_default sheet ws chosen o settings fmmus_then channels_then) (sheet_data sheet) ws chosen o (with_old Clear settings) fmmus_then
  entries-again = sym (ap (λ (x : Outcome Both). entries_after x (sheet_data sheet) ws chosen o (with_old Clear settings) fmmus_then) outcome-again ∙ fmmus-kept)

  pub channels-again : channels_then ≡ images_after (by_default sheet ws chosen o settings fmmus_then channels_then) (sheet_data sheet) ws channels_then
  channels-again = sym (ap (λ (x : Outcome Both). images_after x (sheet_data sheet) ws channels_then) outcome-again ∙ channels-kept)

-- what it left, with the same answer and offsets, keeps the promise of the call made again; and the promise leaves one answer
kept_again :
    (sheet ws : List ℕ) (chosen : Chosen) (o : Offsets) (settings : Settings) (fmmus channels : List ℕ) (i u : PdiSegment) (p : Offsets) (f g : List ℕ)
    → Bytes sheet → Calls sheet ws chosen o (with_old Clear settings) fmmus channels (Ok (record { inputs = i; outputs = u })) p f g
    → Calls sheet ws chosen o (with_old Clear settings) f g (Ok (record { inputs = i; outputs = u })) p f g
kept_again sheet ws chosen o settings fmmus channels i u p f g bytes k =
    let a = answered (by_default sheet ws chosen o settings fmmus channels) i u k.says in
    let same = a.says ∙ sym (outcome-again sheet ws chosen o settings fmmus channels f g bytes a.both a.says k.entries k.images) in
    record {
      says = k.says ∙ ap segments_alone same;
      moves = k.moves ∙ ap (λ (x : Outcome Both). offsets_after x o) same;
      entries = entries-again sheet ws chosen o settings fmmus channels f g bytes a.both a.says k.entries k.images;
      images = channels-again sheet ws chosen o settings fmmus channels f g bytes a.both a.says k.entries k.images;
    }

pub made_again : MadeAgain
made_again sheet ws chosen o settings fmmus channels i u p f g answer p' f' g' bytes k again =
    calls-once sheet ws chosen o (with_old Clear settings) f g answer (Ok (record { inputs = i; outputs = u })) p' p f' f g' g again (kept_again sheet ws chosen o settings fmmus channels i u p f g bytes k)
