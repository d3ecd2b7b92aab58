-- An accepted call leaves what two passes that keep leave, one after the other in either order; and 8 of both directions is 8 of one or of the other.
-- Assumes nothing.
use mathlib.Core.Path.{◌≡◌, refl, sym, ◌∙◌, ap, subst}
use mathlib.Core.Bool.{Bool, true, false, ◌&&◌, ◌||◌}
use mathlib.Core.List.{List, [], ◌∷◌, ◌++◌}
use mathlib.Core.Logic.{◌⊎◌, inl, inr, ⊎_elim}
use mathlib.Core.Option.{Option, none, some}
use Prim.Native.Nat.{ℕ, zero, suc, ◌+◌, ◌<◌, ◌≤◌}
use native.Mathlib.Omega.{arith}
use lib.Dec.{eqb, ltb}
use lib.ListN.{length, get_or, set}
use lib.Seq.{get_or-set_other, set_comm}
use borrow.Author.Tests.{eqb-true, ne_eqb, ltb-true, ltb-false, lt-ltb, le-ltb}
use Rattle.wire.specs.Image.{Bytes}
use Rattle.wire.specs.Outcome.{accepted}
use Rattle.wire.specs.Lists.{some_below}
use Rattle.wire.proofs.Lists.{or-none, some_same}
use Rattle.wire.proofs.Order.{passed-answer}
use Rattle.fmmu.specs.Image.{fields_of, image_of}
use Rattle.sheet.specs.Device.{Data}
use Rattle.sheet.specs.Sheet.{sheet_refusals, sheet_data, read_sheet}
use Rattle.sheet.proofs.Kept.{accepted-accepts}
use Rattle.sheet.specs.declared.SyncManager.{SyncManager}
use Rattle.pdo.specs.declared.PdoDirection.{PdoDirection}
use Rattle.pdo.specs.declared.PdoDirection.TheVariants.{MasterRead, MasterWrite}
use Rattle.pdo.specs.Direction.{other}
use Rattle.area.specs.Area.{entries_of, flat}
use Rattle.area.proofs.Flat.{Sixteen, sixteen-of, flat-bytes, flat-entries}
use Rattle.channels.specs.Channels.{written}
use Rattle.passes.specs.declared.Chosen.{Chosen}
use Rattle.passes.specs.declared.OldEntries.{OldEntries}
use Rattle.passes.specs.declared.OldEntries.TheVariants.{Clear, Keep}
use Rattle.passes.specs.declared.OutputStart.{OutputStart}
use Rattle.passes.specs.declared.OutputStart.TheVariants.{Given, AfterInputs}
use Rattle.passes.specs.declared.Settings.{Settings}
use Rattle.passes.specs.Use.{Use, total_on, size_of}
use Rattle.passes.specs.Old.{beginning, in_the_way}
use Rattle.passes.specs.Start.{Offsets, of_either, offset_of, is_given, start_of, planned, Both, planned_for}
use Rattle.passes.specs.Entries.{laid, with_use, plan, plan_both, length_now, length_before, too_long, uses_of_both}
use Rattle.passes.specs.Pass.{not_areas, no_entry, keeping_refusals, keeping_pass, entries_kept, images_of, data_size}
use Rattle.passes.specs.Call.{uses_for, starts_at, call_refusals, both_of, call, or_else, both_size, entries_after, images_after}
use Rattle.passes.specs.Handed.{Short}
use Rattle.passes.proofs.Cleared.{cleared_at, cleared-short, begun-length}
use Rattle.passes.proofs.Kept.{sixteen-planned}
use Rattle.passes.proofs.Lengths.{short-area, total-both, too-long-both}
use Rattle.agreement.specs.Clean.{OneAfterTheOther, begun, AsTwoPasses, EightOfEither}
use Rattle.agreement.proofs.Basics.{either, none-accepted, never-none, NoneHolds}
use Rattle.agreement.proofs.Straight.{Fresh, Apart}
use Rattle.agreement.proofs.Run.{made}
use Rattle.agreement.proofs.Left.{fresh-or}
use Rattle.agreement.proofs.Uses.{Bounded, apart}
use Rattle.agreement.proofs.Sheets.{bounded}
use Rattle.agreement.proofs.AsKeeping.{eight-same, zeroed-long, zeroed-entries}
use Rattle.agreement.proofs.Images.{images-long, images-merged}
use Rattle.agreement.proofs.Told.{of-neither, none-holds, channels-long, Told, told, apart-uses}

-- uses that share no entry may be laid in either order
module _ (r s : PdoDirection) where
  use-swap : (q p : ℕ) (u v : Use) (area : List (List ℕ)) → (u.entry ≡ v.entry → ⊥) → with_use s p v (with_use r q u area) ≡ with_use r q u (with_use s p v area)
  use-swap q p u v area n =
      let x = made r q u area in
      let y = made s p v area in
      ap (λ (e : List ℕ). set (set area u.entry x) v.entry (image_of (laid s p v (fields_of e)))) (get_or-set_other area u.entry v.entry x [] (λ z. n (sym z)))
      ∙ set_comm area u.entry v.entry x y n
      ∙ ap (λ (e : List ℕ). set (set area v.entry y) u.entry (image_of (laid r q u (fields_of e)))) (sym (get_or-set_other area v.entry u.entry y [] n))

  use-past : (q p : ℕ) (v : Use) (us : List Use) (area : List (List ℕ)) → Fresh v.entry us → with_use s p v (plan r q us area) ≡ plan r q us (with_use s p v area)
  unfolding plan
  use-past q p v [] area f = refl
  use-past q p v (u ∷ us) area f = use-past (q + u.size) p v us (with_use r q u area) f.1 ∙ ap (plan r (q + u.size) us) (use-swap q p u v area f.0)

  pub plan-swap : (q p : ℕ) (us vs : List Use) (area : List (List ℕ)) → Apart vs us → plan r q us (plan s p vs area) ≡ plan s p vs (plan r q us area)
  unfolding plan
  plan-swap q p us [] area a = refl
  plan-swap q p us (v ∷ vs) area a = plan-swap q (p + v.size) us vs (with_use s p v area) a.1 ∙ ap (plan s (p + v.size) vs) (sym (use-past q p v us area a.0))

-- no sync manager gets an image of both directions, so that those of one after those of the other are those of the call
module _ (d : Data) (ws : List ℕ) where
  one_at_most : (k : ℕ) (m : SyncManager) → (data_size d ws MasterRead k m ≡ none) ⊎ (data_size d ws MasterWrite k m ≡ none)
  one_at_most k m =
      ⊎_elim
      (λ e. inr (rw (eqb-true m.usage_type 4 e) refl))
      (λ e. inl (rw e refl))
      (either (eqb m.usage_type 4))

  merged :
      (k : ℕ) (m : SyncManager) (es : List (List ℕ)) (x y : Option ℕ) → (x ≡ none) ⊎ (y ≡ none)
      → (written k m y (written k m x es) ≡ written k m (or_else x y) es) × (written k m x (written k m y es) ≡ written k m (or_else x y) es)
  merged k m es none y h = (refl, refl)
  merged k m es (some a) none h = (refl, refl)
  merged k m es (some a) (some b) (inl e) = absurd (never-none e)
  merged k m es (some a) (some b) (inr e) = absurd (never-none e)

  image-merged : (r : PdoDirection) (k : ℕ) (m : SyncManager) (es : List (List ℕ))
      → written k m (data_size d ws (other r) k m) (written k m (data_size d ws r k m) es) ≡ written k m (both_size d ws k m) es
  image-merged MasterRead k m es = (merged k m es (data_size d ws MasterRead k m) (data_size d ws MasterWrite k m) (one_at_most k m)).0
  image-merged MasterWrite k m es = (merged k m es (data_size d ws MasterRead k m) (data_size d ws MasterWrite k m) (one_at_most k m)).1

-- what two passes begin with is as long, its entries are those that the call begins with, none longer than its two bytes say
pub begun-long : (old : OldEntries) (fmmus : List ℕ) → length fmmus ≡ 256 → length (begun old fmmus) ≡ 256
begun-long Clear fmmus long = zeroed-long fmmus long
begun-long Keep fmmus long = long

pub begun-entries : (old : OldEntries) (fmmus : List ℕ) → length fmmus ≡ 256 → entries_of 16 (begun old fmmus) ≡ beginning old (entries_of 16 fmmus)
begun-entries Clear fmmus long = zeroed-entries fmmus long
begun-entries Keep fmmus long = refl

begun-short : (old : OldEntries) (fmmus : List ℕ) → Bytes fmmus → Short (beginning old (entries_of 16 fmmus))
begun-short Keep fmmus bytes = short-area fmmus bytes
begun-short Clear fmmus bytes =
    let s = short-area fmmus bytes in
    record {
      many = begun-length Clear (entries_of 16 fmmus) ∙ s.many;
      short = λ k h. subst (λ (e : List ℕ). length_now e ≤ 65535) (sym (cleared_at (entries_of 16 fmmus) k)) (cleared-short (get_or (entries_of 16 fmmus) k []) (s.short k h));
    }

-- what a pass that keeps leaves of an area is as long, and its entries are those planned
module _ (r : PdoDirection) (start : ℕ) (us : List Use) (area : List ℕ) (long : length area ≡ 256) where
  planned-sixteen : Sixteen 16 (plan r start us (entries_of 16 area))
  planned-sixteen = sixteen-planned r start us (entries_of 16 area) (sixteen-of 16 area long)

  kept-long : length (flat (plan r start us (entries_of 16 area))) ≡ 256
  kept-long = flat-bytes 16 16 (plan r start us (entries_of 16 area)) planned-sixteen

  pub kept-entries : entries_of 16 (flat (plan r start us (entries_of 16 area))) ≡ plan r start us (entries_of 16 area)
  kept-entries = flat-entries 16 (plan r start us (entries_of 16 area)) planned-sixteen

-- 8 of the call is 8 of keeping there
begun-eight : (old : OldEntries) (us : List Use) (fmmus : List ℕ) → Bytes fmmus → in_the_way old us (entries_of 16 fmmus) ≡ false
    → too_long old us (entries_of 16 fmmus) ≡ too_long Keep us (beginning old (entries_of 16 fmmus))
begun-eight Clear us fmmus bytes free = eight-same us fmmus bytes free
begun-eight Keep us fmmus bytes free = refl

-- whatever the order of the two
eight-flip : (old : OldEntries) (us vs : List Use) (es : List (List ℕ)) → too_long old (us ++ vs) es ≡ too_long old (vs ++ us) es
unfolding too_long
eight-flip old us vs es =
    some_same (λ k. ltb 65535 (length_before old (get_or es k []) + total_on k (us ++ vs))) (λ k. ltb 65535 (length_before old (get_or es k []) + total_on k (vs ++ us))) 16
    (λ k h. ap (λ (n : ℕ). ltb 65535 (length_before old (get_or es k []) + n)) (same k))
  where
    same : (k : ℕ) → total_on k (us ++ vs) ≡ total_on k (vs ++ us)
    same k = let a = total-both k us vs in let b = total-both k vs us in omega arith

-- 8 of the call is 8 of the first of two passes there, or of the second over what the first left
pub eight-begun :
    (old : OldEntries) (uses : PdoDirection → List Use) (first : PdoDirection) (start : ℕ) (fmmus : List ℕ) → Bytes fmmus → in_the_way old (uses_of_both uses) (entries_of 16 fmmus) ≡ false
    → too_long old (uses_of_both uses) (entries_of 16 fmmus)
    ≡ too_long Keep (uses first) (beginning old (entries_of 16 fmmus)) || too_long Keep (uses (other first)) (plan first start (uses first) (beginning old (entries_of 16 fmmus)))
eight-begun old uses first start fmmus bytes free =
    begun-eight old (uses_of_both uses) fmmus bytes free
    ∙ in_order first
    ∙ too-long-both first start (uses first) (uses (other first)) (beginning old (entries_of 16 fmmus)) (begun-short old fmmus bytes)
  where
    in_order : (r : PdoDirection) → too_long Keep (uses_of_both uses) (beginning old (entries_of 16 fmmus)) ≡ too_long Keep (uses r ++ uses (other r)) (beginning old (entries_of 16 fmmus))
    in_order MasterRead = refl
    in_order MasterWrite = eight-flip Keep (uses MasterRead) (uses MasterWrite) (beginning old (entries_of 16 fmmus))

-- where no given offset is below the group start, neither direction's start is
from-group : (how : OutputStart) (o : Offsets) (size : PdoDirection → ℕ) (group : ℕ) → of_either (λ r. is_given r how && ltb (offset_of r o) group) ≡ false
    → (r : PdoDirection) → ltb (start_of how o size r) group ≡ false
from-group how o size group e MasterRead = of-neither (λ r. is_given r how && ltb (offset_of r o) group) e MasterRead
from-group Given o size group e MasterWrite = of-neither (λ r. is_given r Given && ltb (offset_of r o) group) e MasterWrite
from-group AfterInputs o size group e MasterWrite =
    let h = ltb-false (offset_of MasterRead o) group (of-neither (λ r. is_given r AfterInputs && ltb (offset_of r o) group) e MasterRead) in
    le-ltb (offset_of MasterRead o + size MasterRead) group (omega arith)

module _ (sheet ws : List ℕ) (c : Chosen) (o : Offsets) (settings : Settings) (fmmus channels : List ℕ) (b : Both)
    (sheet_bytes : Bytes sheet) (bytes : Bytes fmmus) (says : call sheet ws c o settings fmmus channels ≡ accepted b) where
  abbrev d : Data
  d = sheet_data sheet

  abbrev start : PdoDirection → ℕ
  start r = starts_at settings o d ws r

  abbrev uses : PdoDirection → List Use
  uses r = uses_for settings c d ws r

  -- the entries that the call begins with
  abbrev found : List (List ℕ)
  found = beginning settings.old (entries_of 16 fmmus)

  holds : NoneHolds (call_refusals sheet ws c o settings fmmus channels)
  holds = none-holds sheet ws c o settings fmmus channels b says

  t : Told sheet ws c o settings fmmus (entries_after (call sheet ws c o settings fmmus channels) d ws c o settings fmmus)
  t = told sheet ws c o settings fmmus channels (entries_after (call sheet ws c o settings fmmus channels) d ws c o settings fmmus) b says refl

  is-both : b ≡ both_of d ws o settings
  unfolding call
  is-both = passed-answer (call_refusals sheet ws c o settings fmmus channels) (both_of d ws o settings) b (sym says)

  -- a pass that keeps, over areas of the right lengths where each entry has room, is accepted with the call's answer
  accept : (r : PdoDirection) (area images : List ℕ) → length area ≡ 256 → length images ≡ 128 → too_long Keep (uses r) (entries_of 16 area) ≡ false
      → keeping_pass sheet ws c settings.mode r (start r) settings.group area images ≡ accepted (planned_for r b)
  unfolding keeping_pass
  accept r area images long wide eight =
      let one : not_areas area images ≡ false = rw (long, wide) refl in
      let s = t.sheet_kept in
      let ten = from-group settings.outputs o (size_of d ws) settings.group holds.1.1.1.1.1.1.1.1.1.1.0 r in
      none-accepted (keeping_refusals sheet ws c settings.mode r (start r) settings.group area images) (planned (start r) settings.group (size_of d ws r))
      (one, (s.right, (s.version, (s.whole, (s.named, (t.pairs, (t.bits r, (t.entry r, (eight, (t.end r, (ten, tt)))))))))))
      ∙ answer r
    where
      answer : (r : PdoDirection) → accepted (planned (start r) settings.group (size_of d ws r)) ≡ accepted (planned_for r b)
      answer MasterRead = ap (λ (x : Both). accepted x.inputs) (sym is-both)
      answer MasterWrite = ap (λ (x : Both). accepted x.outputs) (sym is-both)

  module _ (first : PdoDirection) where
    -- what the first leaves
    abbrev left : List (List ℕ)
    left = plan first (start first) (uses first) found

    abbrev between : List ℕ
    between = entries_kept d ws c settings.mode first (start first) (begun settings.old fmmus)

    abbrev images_between : List ℕ
    images_between = images_of d ws first channels

    between-long : length between ≡ 256
    between-long = kept-long first (start first) (uses first) (begun settings.old fmmus) (begun-long settings.old fmmus t.long)

    between-entries : entries_of 16 between ≡ left
    between-entries =
        kept-entries first (start first) (uses first) (begun settings.old fmmus) (begun-long settings.old fmmus t.long)
        ∙ ap (plan first (start first) (uses first)) (begun-entries settings.old fmmus t.long)

    -- each has room, the second over what the first left
    room : (too_long Keep (uses first) found ≡ false) × (too_long Keep (uses (other first)) left ≡ false)
    room =
        or-none (too_long Keep (uses first) found) (too_long Keep (uses (other first)) left)
        (sym (eight-begun settings.old uses first (start first) fmmus bytes t.free) ∙ t.room)

    -- in either order the same entries
    laid_both_lem : plan_both start uses found ≡ plan (other first) (start (other first)) (uses (other first)) left
    laid_both_lem = go first
      where
        go : (r : PdoDirection) → plan_both start uses found ≡ plan (other r) (start (other r)) (uses (other r)) (plan r (start r) (uses r) found)
        go MasterRead = refl
        go MasterWrite =
            sym (plan-swap MasterRead MasterWrite (start MasterRead) (start MasterWrite) (uses MasterRead) (uses MasterWrite) found
            (apart-uses sheet ws sheet_bytes c o settings fmmus _ t MasterWrite))

    channels-whole : length channels ≡ 128
    channels-whole = channels-long sheet ws c o settings fmmus channels holds

    both-passes : OneAfterTheOther sheet ws c o settings first (begun settings.old fmmus) channels b (entries_after (accepted b) d ws c o settings fmmus) (images_after (accepted b) d ws channels)
    both-passes =
        record {
          between = between;
          images_between = images_between;
          one =
              record {
                says =
                    accept first (begun settings.old fmmus) channels (begun-long settings.old fmmus t.long) channels-whole
                    (ap (too_long Keep (uses first)) (begun-entries settings.old fmmus t.long) ∙ room.0);
                entries = refl;
                images = refl;
              };
          two =
              record {
                says =
                    accept (other first) between images_between between-long (images-long d.managers channels channels-whole (data_size d ws first))
                    (ap (too_long Keep (uses (other first))) between-entries ∙ room.1);
                entries = ap flat laid_both_lem ∙ ap (λ (es : List (List ℕ)). flat (plan (other first) (start (other first)) (uses (other first)) es)) (sym between-entries);
                images = sym (images-merged d.managers channels channels-whole (data_size d ws first) (data_size d ws (other first)) (both_size d ws) (image-merged d ws first));
              };
        }

pub as-two-passes : AsTwoPasses
as-two-passes sheet ws c o settings fmmus channels b sheet_bytes bytes says first = both-passes sheet ws c o settings fmmus channels b sheet_bytes bytes says first

-- a list of numbers of which one has it, or has the other
some-either : (f g h : ℕ → Bool) (n : ℕ) → ((k : ℕ) → k < n → h k ≡ f k || g k) → some_below h n ≡ some_below f n || some_below g n
unfolding some_below
some-either f g h zero e = refl
some-either f g h (suc n) e = (λ i. some-either f g h n (λ k l. e k (omega arith)) i || e n (omega arith) i) ∙ swap (some_below f n) (some_below g n) (f n) (g n)
  where
    swap : (a b c d : Bool) → (a || b) || (c || d) ≡ (a || c) || (b || d)
    swap true b c d = refl
    swap false true true d = refl
    swap false true false d = refl
    swap false false c d = refl

-- an entry on which no use is has no bytes
fresh-total : (k : ℕ) (us : List Use) → Fresh k us → total_on k us ≡ 0
unfolding total_on
fresh-total k [] f = refl
fresh-total k (u ∷ us) f = rw (ne_eqb u.entry k f.0, fresh-total k us f.1) refl

-- bytes of which one part is none exceed the limit if either part does
limit-either : (n a b : ℕ) → (a ≡ 0) ⊎ (b ≡ 0) → ltb 65535 (n + (a + b)) ≡ ltb 65535 (n + a) || ltb 65535 (n + b)
limit-either n a b z = go (either (ltb 65535 (n + a))) (either (ltb 65535 (n + b))) z
  where
    go : (ltb 65535 (n + a) ≡ true) ⊎ (ltb 65535 (n + a) ≡ false) → (ltb 65535 (n + b) ≡ true) ⊎ (ltb 65535 (n + b) ≡ false) → (a ≡ 0) ⊎ (b ≡ 0)
        → ltb 65535 (n + (a + b)) ≡ ltb 65535 (n + a) || ltb 65535 (n + b)
    go (inl f) g z = let h = ltb-true 65535 (n + a) f in rw f (lt-ltb 65535 (n + (a + b)) (omega arith))
    go (inr f) (inl g) z = let h = ltb-true 65535 (n + b) g in rw (f, g) (lt-ltb 65535 (n + (a + b)) (omega arith))
    go (inr f) (inr g) (inl e) = let h = ltb-false 65535 (n + b) g in rw (f, g) (le-ltb 65535 (n + (a + b)) (omega arith))
    go (inr f) (inr g) (inr e) = let h = ltb-false 65535 (n + a) f in rw (f, g) (le-ltb 65535 (n + (a + b)) (omega arith))

-- so 8 of uses that share no entry is 8 of some or of the others
eight-apart : (old : OldEntries) (us vs : List Use) (es : List (List ℕ)) → Apart us vs → too_long old (us ++ vs) es ≡ too_long old us es || too_long old vs es
unfolding too_long
eight-apart old us vs es a =
    some-either (λ k. ltb 65535 (before k + total_on k us)) (λ k. ltb 65535 (before k + total_on k vs)) (λ k. ltb 65535 (before k + total_on k (us ++ vs))) 16
    (λ k h. ap (λ (n : ℕ). ltb 65535 (before k + n)) (total-both k us vs) ∙ limit-either (before k) (total_on k us) (total_on k vs) (one k))
  where
    before : ℕ → ℕ
    before k = length_before old (get_or es k [])

    one : (k : ℕ) → (total_on k us ≡ 0) ⊎ (total_on k vs ≡ 0)
    one k = ⊎_elim (λ f. inl (fresh-total k us f)) (λ f. inr (fresh-total k vs f)) (fresh-or k (λ (j : ℕ). Fresh j vs) us a)

pub eight-of-either : EightOfEither
unfolding read_sheet
eight-of-either sheet ws c settings es d bytes read good entry =
    let is : d ≡ sheet_data sheet = passed-answer (sheet_refusals sheet) (sheet_data sheet) d (sym read) in
    let kept = accepted-accepts sheet (sheet_data sheet) d (sym read) in
    let b = subst Bounded (sym is) (bounded sheet bytes kept) in
    eight-apart settings.old (uses_for settings c d ws MasterRead) (uses_for settings c d ws MasterWrite) es
    (apart d b ws MasterRead settings.mode c good (of-neither (no_entry d ws) entry MasterRead))
