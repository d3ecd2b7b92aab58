-- One walk over a dump: of each type the first place is noted, those of the four types are counted, and the end is found.
-- Assumes nothing.
use mathlib.Core.Path.{◌≡◌, refl, sym, ◌∙◌, ap, subst, subst₂}
use mathlib.Core.Bool.{Bool, true, false, cond}
use mathlib.Core.List.{List, [], ◌∷◌}
use mir.Val.{bool_byte}
use Prim.Native.Nat.{ℕ, suc, ◌+◌, ◌≤◌, ◌<◌}
use native.Mathlib.Omega.{arith}
use lib.ListN.{length, take, drop, length-drop}
use lib.Seq.{drop-drop}
use lib.Dec.{eqb, ltb}
use borrow.Author.Tests.{eqb-true, lt-ltb, le-ltb}
use Rattle.std.specs.Prelude.{Option, Some, None}
use Rattle.dump.specs.Parts.{rest_of}
use Rattle.dump.specs.Categories.{type_of, category_long, categories}
use Rattle.dump.specs.Looked.{from_type, from_place, first_noted, comes_before, known_type, known_in, Finds}
use Rattle.dump.proofs.Parts.{rest-none, rest-on}
use Rattle.dump.proofs.Categories.{category-fits, no-category, category-on, type-alone}

-- a flag as a number: that of its type, and at most one
pub flag-counts : (b : Bool) {known : ℕ} → cond b 1 0 ≡ known → (bool_byte b ≡ known) × (bool_byte b ≤ 1)
flag-counts true e = (e, omega arith)
flag-counts false e = (e, omega arith)

module _ (dump : List ℕ) where
  -- what is noted of a type where the walk stands: the first one's place; where none is, the first is still to come
  abbrev Noted : ℕ → ℕ → Option ℕ → Type 0
  Noted t at None = from_type t (categories dump) ≡ from_type t (categories (drop at dump))
  Noted t at (Some place) = from_type t (categories dump) ≡ categories (drop place dump)

  -- how many categories there are from a place on; none where there is no place
  abbrev left : Option ℕ → ℕ
  left place = length (categories (from_place place dump))

  -- a place that is noted is behind the walk, and from it on there are more
  abbrev Passed : ℕ → Option ℕ → Type 0
  Passed at None = Unit {0}
  Passed at (Some place) = (place < at) × (left (Some at) < left (Some place))

  -- where the walk stands
  pub record Seen (fmmus managers inputs outputs : Option ℕ) (known at : ℕ) : Type 0 where
    pub rest : rest_of category_long (drop at dump) ≡ rest_of category_long dump
    pub within : at ≤ length dump
    pub few : known ≤ at
    pub count : known + known_in (categories (drop at dump)) ≡ known_in (categories dump)
    pub fmmus_noted : Noted 40 at fmmus
    pub managers_noted : Noted 41 at managers
    pub inputs_noted : Noted 50 at inputs
    pub outputs_noted : Noted 51 at outputs
    pub inputs_passed : Passed at inputs
    pub outputs_passed : Passed at outputs
    pub order : comes_before inputs outputs ≡ ltb (left outputs) (left inputs)

  -- nothing stands where there is no place
  none_left : left None ≡ 0
  none_left = ap length (no-category [] refl)

  -- the category where the walk stands, and those behind it
  module _ (at long : ℕ) (e : long ≡ category_long (drop at dump)) (h : 0 < long) where
    behind : drop (category_long (drop at dump)) (drop at dump) ≡ drop (at + long) dump
    behind = drop-drop (category_long (drop at dump)) at dump ∙ ap (λ (k : ℕ). drop (at + k) dump) (sym e)

    next : categories (drop at dump) ≡ take (category_long (drop at dump)) (drop at dump) ∷ categories (drop (at + long) dump)
    next = category-on (drop at dump) (omega arith) ∙ ap (λ (l : List ℕ). take (category_long (drop at dump)) (drop at dump) ∷ categories l) behind

    kind-here : type_of (take (category_long (drop at dump)) (drop at dump)) ≡ type_of (drop at dump)
    kind-here = type-alone (drop at dump) (omega arith)

    first-is : (t : ℕ) → from_type t (categories (drop at dump)) ≡ cond (eqb (type_of (drop at dump)) t) (categories (drop at dump)) (from_type t (categories (drop (at + long) dump)))
    first-is t =
        ap (from_type t) next
        ∙ ap (λ (k : ℕ). cond (eqb k t) (take (category_long (drop at dump)) (drop at dump) ∷ categories (drop (at + long) dump)) (from_type t (categories (drop (at + long) dump)))) kind-here
        ∙ ap (λ (cs : List (List ℕ)). cond (eqb (type_of (drop at dump)) t) cs (from_type t (categories (drop (at + long) dump)))) (sym next)

    -- of a type: this one is it, or it is still to come; what is noted stays
    noted-turn : (t : ℕ) (place : Option ℕ) (x : Bool) → eqb (type_of (drop at dump)) t ≡ x → Noted t at place → Noted t (at + long) (first_noted place at x)
    noted-turn t (Some place) x p n = n
    noted-turn t None true p n = n ∙ first-is t ∙ rw p refl
    noted-turn t None false p n = n ∙ first-is t ∙ rw p refl

    -- this one is counted where it is of one of the four types
    counted-turn : (known more kind : ℕ) → kind ≡ type_of (drop at dump) → more ≡ known_type kind → known + known_in (categories (drop at dump)) ≡ known_in (categories dump)
        → known + more + known_in (categories (drop (at + long) dump)) ≡ known_in (categories dump)
    counted-turn known more kind ek en c = omega (arith, ap known_in next, en ∙ ap known_type (ek ∙ sym kind-here), c)

    -- one category fewer is left
    fewer : left (Some at) ≡ suc (left (Some (at + long)))
    fewer = ap length next

    -- what is passed stays so, and this one is
    passed-turn : (place : Option ℕ) (x : Bool) → Passed at place → Passed (at + long) (first_noted place at x)
    passed-turn (Some place) x p = (omega (arith, p.0), omega (arith, p.1, fewer))
    passed-turn None true p = (omega arith, omega (arith, fewer))
    passed-turn None false p = tt

    -- of two places the one that is noted later stands behind, and fewer are left from it on
    later : (place : Option ℕ) → Passed at place
        → (comes_before place (Some at) ≡ ltb (left (Some at)) (left place)) × (comes_before (Some at) place ≡ ltb (left place) (left (Some at)))
    later None p =
        let z = none_left in
        (sym (le-ltb (left (Some at)) (left None) (omega arith)), sym (lt-ltb (left None) (left (Some at)) (omega (arith, fewer))))
    later (Some place) p = (
      lt-ltb place at p.0 ∙ sym (lt-ltb (left (Some at)) (left (Some place)) p.1),
      le-ltb at place (omega (arith, p.0)) ∙ sym (le-ltb (left (Some place)) (left (Some at)) (omega (arith, p.1))),
    )

    order-turn : (x y : Bool) (i o : Option ℕ) → (x ≡ true → y ≡ true → ⊥) → Passed at i → Passed at o → comes_before i o ≡ ltb (left o) (left i)
        → comes_before (first_noted i at x) (first_noted o at y) ≡ ltb (left (first_noted o at y)) (left (first_noted i at x))
    order-turn true true i o n p q e = absurd (n refl refl)
    order-turn true false None None n p q e = (later None q).1
    order-turn true false None (Some o) n p q e = (later (Some o) q).1
    order-turn true false (Some i) None n p q e = e
    order-turn true false (Some i) (Some o) n p q e = e
    order-turn false true None None n p q e = (later None p).0
    order-turn false true (Some i) None n p q e = (later (Some i) p).0
    order-turn false true None (Some o) n p q e = e
    order-turn false true (Some i) (Some o) n p q e = e
    order-turn false false None None n p q e = e
    order-turn false false None (Some o) n p q e = e
    order-turn false false (Some i) None n p q e = e
    order-turn false false (Some i) (Some o) n p q e = e

    pub seen-turn :
        {f m i o f' m' i' o' : Option ℕ} {known more : ℕ} (kind : ℕ) → Seen f m i o known at → kind ≡ type_of (drop at dump)
        → f' ≡ first_noted f at (eqb kind 40) → m' ≡ first_noted m at (eqb kind 41) → i' ≡ first_noted i at (eqb kind 50) → o' ≡ first_noted o at (eqb kind 51)
        → more ≡ known_type kind → more ≤ 1 → Seen f' m' i' o' (known + more) (at + long)
    seen-turn {f} {m} {i} {o} {known = known} {more = more} kind s ek ef em ei eo en one =
        let d = length-drop at dump in
        let in-range = s.within in
        let fits = category-fits (drop at dump) in
        record {
          rest = ap (rest_of category_long) (sym behind) ∙ sym (rest-on category_long category-fits (drop at dump) (omega arith)) ∙ s.rest;
          within = omega arith;
          few = let k = s.few in omega arith;
          count = counted-turn known more kind ek en s.count;
          fmmus_noted = turned 40 f s.fmmus_noted ef;
          managers_noted = turned 41 m s.managers_noted em;
          inputs_noted = turned 50 i s.inputs_noted ei;
          outputs_noted = turned 51 o s.outputs_noted eo;
          inputs_passed = subst (Passed (at + long)) (sym ei) (passed-turn i (eqb kind 50) s.inputs_passed);
          outputs_passed = subst (Passed (at + long)) (sym eo) (passed-turn o (eqb kind 51) s.outputs_passed);
          order =
              subst₂ (λ (x y : Option ℕ). comes_before x y ≡ ltb (left y) (left x)) (sym ei) (sym eo)
              (order-turn (eqb kind 50) (eqb kind 51) i o apart s.inputs_passed s.outputs_passed s.order);
        }
      where
        turned : (t : ℕ) (place : Option ℕ) {then : Option ℕ} → Noted t at place → then ≡ first_noted place at (eqb kind t) → Noted t (at + long) then
        turned t place n q = subst (Noted t (at + long)) (sym q) (noted-turn t place (eqb kind t) (ap (λ (k : ℕ). eqb k t) (sym ek)) n)

        apart : eqb kind 50 ≡ true → eqb kind 51 ≡ true → ⊥
        apart x y = omega (arith, eqb-true kind 50 x, eqb-true kind 51 y)

  -- at the end no category is left, so what isn't noted isn't there
  module _ (at : ℕ) (none : categories (drop at dump) ≡ []) where
    noted-end : (t : ℕ) (place : Option ℕ) → Noted t at place → categories (from_place place dump) ≡ from_type t (categories dump)
    noted-end t None n = no-category [] refl ∙ sym (n ∙ ap (from_type t) none)
    noted-end t (Some place) n = sym n

  pub seen_end : {f m i o : Option ℕ} {known at : ℕ} → Seen f m i o known at → category_long (drop at dump) ≡ 0
      → Finds dump (record { places = record { fmmus = f; managers = m; inputs = i; outputs = o }; known = known; end = at })
  seen_end {f} {m} {i} {o} {known} {at} s z =
      let none = no-category (drop at dump) z in
      let k = ap known_in none in
      record {
        fmmus = noted-end at none 40 f s.fmmus_noted;
        managers = noted-end at none 41 m s.managers_noted;
        inputs = noted-end at none 50 i s.inputs_noted;
        outputs = noted-end at none 51 o s.outputs_noted;
        order = s.order ∙ (λ j. ltb (length (noted-end at none 51 o s.outputs_noted j)) (length (noted-end at none 50 i s.inputs_noted j)));
        known = omega (arith, s.count);
        end = sym (rest-none category_long category-fits (drop at dump) z) ∙ s.rest;
      }
