-- The default on any area is keeping on the area with the old entries zeroed, where nothing is in the way.
-- Assumes nothing.
use mathlib.Core.Path.{◌≡◌, refl, sym, ◌∙◌, ap, subst}
use mathlib.Core.Bool.{Bool, true, false, not, ◌||◌, ◌&&◌}
use mathlib.Core.List.{List, [], ◌∷◌, ◌++◌, map}
use mathlib.Core.Logic.{◌⊎◌, inl, inr}
use Prim.Native.Nat.{ℕ}
use lib.Dec.{eqb, ltb}
use lib.ListN.{length, get_or, replicate}
use borrow.Author.Tests.{eqb-true, eq-eqb}
use Rattle.fmmu.specs.Image.{fields_of}
use Rattle.wire.specs.Image.{Bytes}
use Rattle.wire.specs.Outcome.{Outcome, refused, accepted, when, decide}
use Rattle.pdi.specs.Offset.{past_end}
use Rattle.sheet.specs.Sheet.{sheet_refusals, sheet_data}
use Rattle.area.specs.Area.{entries_of, flat, not_entries, not_channels, chunks}
use Rattle.area.proofs.Flat.{Sixteen, sixteen-of, flat-bytes, flat-entries}
use Rattle.passes.specs.declared.OldEntries.TheVariants.{Clear, Keep}
use Rattle.passes.specs.declared.Chosen.{Chosen}
use Rattle.passes.specs.declared.Settings.{Settings}
use Rattle.passes.specs.Use.{Use, size_of}
use Rattle.passes.specs.Pairs.{bad_pairs}
use Rattle.passes.specs.Old.{cleared_of_both, in_the_way, both_bits, carries_both}
use Rattle.passes.specs.Start.{Offsets, of_either, offset_of, is_given, end_of, Both, segments_alone, offsets_after}
use Rattle.passes.specs.Entries.{plan_both, too_long, uses_of_both}
use Rattle.passes.specs.Call.{uses_for, starts_at, wanted_of_both, both_of, call, entries_after, images_after}
use Rattle.passes.proofs.Cleared.{cleared-eight, sixteen-begun, Off, zeros-all-off, none-used, both-off, cleared_at}
use Rattle.passes.proofs.Lengths.{short-area}
use Rattle.agreement.specs.Clean.{zeroed, with_old, by_default, by_keeping, Free, AsKeeping, PromiseAsKeeping, NothingCleared, AsFromZeros}
use Rattle.agreement.proofs.Basics.{either, none-at}
use Rattle.agreement.proofs.Told.{answered, none-holds, area-long, told}

-- an entry's length is two of its bytes, so 8 is the same counted from zero as from those lengths
pub eight-same : (us : List Use) (fmmus : List ℕ) → Bytes fmmus → in_the_way Clear us (entries_of 16 fmmus) ≡ false
    → too_long Clear us (entries_of 16 fmmus) ≡ too_long Keep us (map cleared_of_both (entries_of 16 fmmus))
eight-same us fmmus bytes free = sym (cleared-eight us (entries_of 16 fmmus) (short-area fmmus bytes).short free)

-- an area of 256 bytes with its old entries zeroed is as long, and its entries are those that a call in the default begins with
module _ (fmmus : List ℕ) (long : length fmmus ≡ 256) where
  zeroed-whole : zeroed fmmus ≡ flat (map cleared_of_both (entries_of 16 fmmus))
  zeroed-whole = rw (eq-eqb (length fmmus) 256 long) refl

  sixteen : Sixteen 16 (map cleared_of_both (entries_of 16 fmmus))
  sixteen = sixteen-begun Clear (entries_of 16 fmmus) (sixteen-of 16 fmmus long)

  pub zeroed-long : length (zeroed fmmus) ≡ 256
  zeroed-long = ap length zeroed-whole ∙ flat-bytes 16 16 (map cleared_of_both (entries_of 16 fmmus)) sixteen

  pub zeroed-entries : entries_of 16 (zeroed fmmus) ≡ map cleared_of_both (entries_of 16 fmmus)
  zeroed-entries = ap (entries_of 16) zeroed-whole ∙ flat-entries 16 (map cleared_of_both (entries_of 16 fmmus)) sixteen

-- a call by the answers to 1, 8 and 15
abbrev answer : List ℕ → List ℕ → Chosen → Offsets → Settings → List ℕ → Bool → Bool → Bool → Outcome Both
answer sheet ws c o settings channels one eight fifteen =
    decide
    (when 1 (one || not_channels channels) ∷ sheet_refusals sheet ++ (when 18 (bad_pairs settings.mode c (sheet_data sheet) ws) ∷ wanted_of_both (sheet_data sheet) ws
    ++ (when 8 eight
    ∷ when 9 (of_either (λ r. past_end (end_of settings.outputs o (size_of (sheet_data sheet) ws) r)))
    ∷ when 10 (of_either (λ r. is_given r settings.outputs && ltb (offset_of r o) settings.group))
    ∷ when 15 fifteen
    ∷ [])))
    (both_of (sheet_data sheet) ws o settings)

module _ (sheet ws : List ℕ) (c : Chosen) (o : Offsets) (settings : Settings) (fmmus channels : List ℕ) (bytes : Bytes fmmus) (free : Free sheet ws c settings fmmus) where
  abbrev uses : List Use
  uses = uses_of_both (uses_for settings c (sheet_data sheet) ws)

  outcomes-same : (eqb (length fmmus) 256 ≡ true) ⊎ (eqb (length fmmus) 256 ≡ false) → by_default sheet ws c o settings fmmus channels ≡ by_keeping sheet ws c o settings fmmus channels
  unfolding call in_the_way
  outcomes-same (inr h) = let z : zeroed fmmus ≡ fmmus = rw h refl in rw (z, h) refl
  outcomes-same (inl h) =
      let long = eqb-true (length fmmus) 256 h in
      let one : not_entries fmmus ≡ not_entries (zeroed fmmus) = ap (λ (n : ℕ). not (eqb n 256)) (long ∙ sym (zeroed-long fmmus long)) in
      let eight : too_long Clear uses (entries_of 16 fmmus) ≡ too_long Keep uses (entries_of 16 (zeroed fmmus)) =
      eight-same uses fmmus bytes free ∙ ap (too_long Keep uses) (sym (zeroed-entries fmmus long)) in
      λ i. answer sheet ws c o settings channels (one i) (eight i) (free i)

  -- accepted, it is of 256 bytes
  entries-same : (b : Both) → by_default sheet ws c o settings fmmus channels ≡ accepted b
      → entries_after (accepted b) (sheet_data sheet) ws c o (with_old Clear settings) fmmus ≡ entries_after (accepted b) (sheet_data sheet) ws c o (with_old Keep settings) (zeroed fmmus)
  entries-same b e =
      let long = area-long sheet ws c o (with_old Clear settings) fmmus channels (none-holds sheet ws c o (with_old Clear settings) fmmus channels b e) in
      ap (λ (es : List (List ℕ)). flat (plan_both (starts_at settings o (sheet_data sheet) ws) (uses_for settings c (sheet_data sheet) ws) es)) (sym (zeroed-entries fmmus long))

pub as-keeping : AsKeeping
as-keeping sheet ws c o settings fmmus channels bytes free =
    let same = outcomes-same sheet ws c o settings fmmus channels bytes free (either (eqb (length fmmus) 256)) in
    record {
      outcomes = same;
      entries = entries-same sheet ws c o settings fmmus channels bytes free;
      images = ap (λ (x : Outcome Both). images_after x (sheet_data sheet) ws channels) same;
    }

-- an accepted call has nothing in the way
pub promise-as-keeping : PromiseAsKeeping
promise-as-keeping sheet ws c o settings fmmus channels i u p f g bytes k =
    let d = sheet_data sheet in
    let went = answered (by_default sheet ws c o settings fmmus channels) i u k.says in
    let t = told sheet ws c o (with_old Clear settings) fmmus channels f went.both went.says k.entries in
    let kept = as-keeping sheet ws c o settings fmmus channels bytes t.free in
    let same = kept.outcomes in
    record {
      says = k.says ∙ ap segments_alone same;
      moves = k.moves ∙ ap (λ (x : Outcome Both). offsets_after x o) same;
      entries =
          k.entries ∙ ap (λ (x : Outcome Both). entries_after x d ws c o (with_old Clear settings) fmmus) went.says
          ∙ kept.entries went.both went.says
          ∙ ap (λ (x : Outcome Both). entries_after x d ws c o (with_old Keep settings) (zeroed fmmus)) (sym went.says ∙ same);
      images = k.images ∙ kept.images;
    }

-- a refusal leaves the area, of either
pub nothing-cleared : NothingCleared
nothing-cleared sheet ws c o settings fmmus channels s p f g bytes same free k =
    let d = sheet_data sheet in
    let kept = as-keeping sheet ws c o settings fmmus channels bytes free in
    let outcomes : by_default sheet ws c o settings fmmus channels ≡ call sheet ws c o (with_old Keep settings) fmmus channels =
    kept.outcomes ∙ ap (λ (area : List ℕ). call sheet ws c o (with_old Keep settings) area channels) same in
    let left =
    go (by_default sheet ws c o settings fmmus channels)
    (λ b h. kept.entries b h ∙ ap (λ (area : List ℕ). entries_after (accepted b) d ws c o (with_old Keep settings) area) same) in
    record {
      says = k.says ∙ ap segments_alone outcomes;
      moves = k.moves ∙ ap (λ (x : Outcome Both). offsets_after x o) outcomes;
      entries = k.entries ∙ left ∙ ap (λ (x : Outcome Both). entries_after x d ws c o (with_old Keep settings) fmmus) outcomes;
      images = k.images ∙ ap (λ (x : Outcome Both). images_after x d ws channels) outcomes;
    }
  where
    go : (x : Outcome Both)
        → ((b : Both) → x ≡ accepted b
        → entries_after (accepted b) (sheet_data sheet) ws c o (with_old Clear settings) fmmus ≡ entries_after (accepted b) (sheet_data sheet) ws c o (with_old Keep settings) fmmus)
        → entries_after x (sheet_data sheet) ws c o (with_old Clear settings) fmmus ≡ entries_after x (sheet_data sheet) ws c o (with_old Keep settings) fmmus
    go (refused n) h = refl
    go (accepted b) h = h b refl

-- nothing of zeros is in the way
zeros-free : (us : List Use) → in_the_way Clear us (entries_of 16 (replicate 256 0)) ≡ false
unfolding chunks in_the_way
zeros-free us =
    let zeros : List (List ℕ) = replicate 16 (replicate 16 0) in
    let both = none-at both_bits zeros [] (λ k. ap (λ (b : Bool). b && carries_both (fields_of (get_or zeros k []))) (zeros-all-off 16 k)) in
    let off : (k : ℕ) → Off (get_or (map cleared_of_both zeros) k []) = λ k. subst Off (sym (cleared_at zeros k ∙ both-off (get_or zeros k []) (zeros-all-off 16 k))) (zeros-all-off 16 k) in
    λ i. both i || none-used us (map cleared_of_both zeros) off i

-- 8 counts from zero over any area, so by default only 1 and 15 look at one
pub as-from-zeros : AsFromZeros
unfolding call too_long
as-from-zeros sheet ws c o settings fmmus channels long free =
    let uses = uses_of_both (uses_for settings c (sheet_data sheet) ws) in
    let one : not_entries fmmus ≡ not_entries (replicate 256 0) = ap (λ (n : ℕ). not (eqb n 256)) long in
    let fifteen : in_the_way Clear uses (entries_of 16 fmmus) ≡ in_the_way Clear uses (entries_of 16 (replicate 256 0)) = free ∙ sym (zeros-free uses) in
    λ i. answer sheet ws c o settings channels (one i) (too_long Clear uses (entries_of 16 fmmus)) (fifteen i)
