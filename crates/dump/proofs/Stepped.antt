-- A category at the front of a dump, whatever follows it; and what an unknown one among others changes: nothing.
-- Assumes nothing.
use mathlib.Core.Path.{◌≡◌, refl, sym, ◌∙◌, ap, ap₂, subst₂}
use mathlib.Core.Bool.{Bool, false, not, cond, ◌||◌}
use mathlib.Core.List.{List, [], ◌∷◌, ◌++◌, map, append_assoc}
use Prim.Native.Nat.{ℕ, ◌+◌, ◌*◌, ◌<◌}
use native.Mathlib.Omega.{arith}
use lib.ListN.{length, take, drop, length-append}
use lib.Seq.{take-append_seam, drop-append_seam}
use lib.Dec.{eqb, ltb}
use borrow.Author.Tests.{ne_eqb, le-leb}
use Rattle.wire.specs.Lists.{some_of}
use Rattle.wire.specs.Number.{little_at}
use Rattle.area.specs.Area.{flat}
use Rattle.sheet.specs.Device.{Pdo}
use Rattle.dump.specs.Parts.{rest_of}
use Rattle.dump.specs.Categories.{type_of, marked, category_long, categories, content_of, content_for, how_many, unended}
use Rattle.dump.specs.Records.{kind_for, pdos_for, pdos_in, not_whole, second, not_records}
use Rattle.dump.specs.Calls.{Category, bytes_of, all_bytes, Unknown}
use Rattle.dump.proofs.Parts.{rest-on}
use Rattle.dump.proofs.Categories.{category-fits, category-on}

-- a category at the front, whatever follows it
module _ (u : Category) (back : List ℕ) where
  abbrev l : List ℕ
  l = bytes_of u ++ back

  -- it is as long as its words say
  long-is : category_long l ≡ length (bytes_of u)
  long-is =
      let kind : type_of l ≡ u.type_word = omega (arith, u.no_mark) in
      let words : little_at l 2 2 ≡ u.words = omega (arith, u.fits) in
      let n = length-append u.content back in
      rw (ne_eqb (type_of l) 65535 (λ e. omega (arith, u.no_mark)), le-leb (4 + 2 * little_at l 2 2) (length l) (omega (arith, u.even))) (omega (arith, u.even))

  stands : 0 < category_long l
  stands = omega (arith, long-is)

  behind : drop (category_long l) l ≡ back
  behind = ap (λ (n : ℕ). drop n l) long-is ∙ drop-append_seam (bytes_of u) back

  -- so it is the first of the categories, and the others are those of what follows
  first-category : categories l ≡ bytes_of u ∷ categories back
  first-category =
      category-on l stands ∙ ap₂ (λ (x : List ℕ) (y : List ℕ). x ∷ categories y) (ap (λ (n : ℕ). take n l) long-is ∙ take-append_seam (bytes_of u) back) behind

  first_rest : rest_of category_long l ≡ rest_of category_long back
  first_rest = rest-on category_long category-fits l stands ∙ ap (rest_of category_long) behind

-- several, whatever follows them
module _ (back : List ℕ) where
  joined : (u : Category) (us : List Category) → all_bytes (u ∷ us) ++ back ≡ bytes_of u ++ (all_bytes us ++ back)
  unfolding flat
  joined u us = append_assoc (bytes_of u) (all_bytes us) back

  front-categories : (us : List Category) → categories (all_bytes us ++ back) ≡ map bytes_of us ++ categories back
  unfolding flat
  front-categories [] = refl
  front-categories (u ∷ us) = ap categories (joined u us) ∙ first-category u (all_bytes us ++ back) ∙ ap (λ (cs : List (List ℕ)). bytes_of u ∷ cs) (front-categories us)

  front_rest : (us : List Category) → rest_of category_long (all_bytes us ++ back) ≡ rest_of category_long back
  unfolding flat
  front_rest [] = refl
  front_rest (u ∷ us) = ap (rest_of category_long) (joined u us) ∙ first_rest u (all_bytes us ++ back) ∙ front_rest us

-- what is asked of categories one by one, and not of this one, isn't changed by it, wherever it stands
module _ {X : Type 0} (asked : List (List ℕ) → X) (on : (c : List ℕ) (xs ys : List (List ℕ)) → asked xs ≡ asked ys → asked (c ∷ xs) ≡ asked (c ∷ ys)) where
  passed_over : (c : List ℕ) → ((xs : List (List ℕ)) → asked (c ∷ xs) ≡ asked xs) → (before behind : List (List ℕ)) → asked (before ++ (c ∷ behind)) ≡ asked (before ++ behind)
  passed_over c skip [] behind = skip behind
  passed_over c skip (x ∷ before) behind = on x (before ++ (c ∷ behind)) (before ++ behind) (passed_over c skip before behind)

-- what reading asks of categories
pub record Alike (cs ds : List (List ℕ)) : Type 0 where
  pub records : not_records cs ≡ not_records ds
  pub fmmus : content_for 40 cs ≡ content_for 40 ds
  pub managers : content_for 41 cs ≡ content_for 41 ds
  pub pdos : pdos_in cs ≡ pdos_in ds

-- one of an unknown type is asked nothing
module _ (u : Category) (n : Unknown u) (before behind : List (List ℕ)) where
  abbrev c : List ℕ
  c = bytes_of u

  kind-alone : type_of c ≡ u.type_word
  kind-alone = omega (arith, u.no_mark)

  other : (t : ℕ) → (u.type_word ≡ t → ⊥) → eqb (type_of c) t ≡ false
  other t z = ne_eqb (type_of c) t (λ e. z (sym kind-alone ∙ e))

  content-over : (t : ℕ) → (u.type_word ≡ t → ⊥) → content_for t (before ++ (c ∷ behind)) ≡ content_for t (before ++ behind)
  content-over t z =
      passed_over (content_for t) (λ x xs ys e. ap (λ (l : List ℕ). cond (eqb (type_of x) t) (content_of x) l) e) c (λ xs. rw (other t z)) before behind

  count-over : (t : ℕ) → (u.type_word ≡ t → ⊥) → how_many t (before ++ (c ∷ behind)) ≡ how_many t (before ++ behind)
  count-over t z =
      passed_over (how_many t) (λ x xs ys e. ap (λ (k : ℕ). cond (eqb (type_of x) t) 1 0 + k) e) c (λ xs. rw (other t z) (omega arith)) before behind

  pdos-over : pdos_in (before ++ (c ∷ behind)) ≡ pdos_in (before ++ behind)
  unfolding pdos_in
  pdos-over =
      passed_over pdos_in (λ x xs ys e. ap (λ (ps : List Pdo). pdos_for (kind_for (type_of x)) (content_of x) ++ ps) e) c
      (λ xs. rw (other 50 n.no_inputs, other 51 n.no_outputs)) before behind

  whole-over : some_of not_whole (before ++ (c ∷ behind)) ≡ some_of not_whole (before ++ behind)
  whole-over =
      passed_over (some_of not_whole) (λ x xs ys e. ap (λ (b : Bool). not_whole x || b) e) c
      (λ xs. rw (other 41 n.no_manager, other 50 n.no_inputs, other 51 n.no_outputs)) before behind

  unknown-over : Alike (before ++ (c ∷ behind)) (before ++ behind)
  unfolding not_records
  unknown-over =
      record {
        records = λ i. whole-over i || second-over i;
        fmmus = content-over 40 n.no_fmmu;
        managers = content-over 41 n.no_manager;
        pdos = pdos-over;
      }
    where
      second-over : second (before ++ (c ∷ behind)) ≡ second (before ++ behind)
      second-over =
          λ i. ltb 1 (count-over 40 n.no_fmmu i) || (ltb 1 (count-over 41 n.no_manager i) || (ltb 1 (count-over 50 n.no_inputs i) || (ltb 1 (count-over 51 n.no_outputs i) || false)))

-- a dump with it, and the same dump without it: its categories are asked alike, and it ends alike
module _ (front : List Category) (u : Category) (back : List ℕ) where
  abbrev with : List ℕ
  with = all_bytes front ++ (bytes_of u ++ back)

  abbrev without : List ℕ
  without = all_bytes front ++ back

  pub categories-alike : Unknown u → Alike (categories with) (categories without)
  categories-alike n =
      let a : categories with ≡ map bytes_of front ++ (bytes_of u ∷ categories back) =
      front-categories (bytes_of u ++ back) front ∙ ap (λ (cs : List (List ℕ)). map bytes_of front ++ cs) (first-category u back) in
      subst₂ Alike (sym a) (sym (front-categories back front)) (unknown-over u n (map bytes_of front) (categories back))

  pub ends-alike : unended with ≡ unended without
  unfolding unended
  ends-alike =
      ap (λ (l : List ℕ). not (marked l)) (front_rest (bytes_of u ++ back) front ∙ first_rest u back ∙ sym (front_rest back front))
