-- What is in the way of a call: asked sync manager by sync manager; what the entries are then, and that 8 on those is 8 of the call.
-- Assumes nothing.
use mathlib.Core.Path.{◌≡◌, refl, sym, ◌∙◌, ap, subst}
use mathlib.Core.Bool.{Bool, true, false, cond, ◌||◌}
use mathlib.Core.List.{List, [], ◌∷◌, ◌++◌, map}
use mathlib.Core.Logic.{inl}
use Prim.Native.Nat.{ℕ, ◌+◌, ◌<◌, ◌≤◌, min}
use native.Mathlib.Omega.{arith}
use lib.ListN.{length, get_or, length-map, get_or-eq_default}
use Rattle.std.specs.Prelude.{Some, None}
use Rattle.wire.specs.Lists.{some_of}
use Rattle.wire.proofs.Lists.{at_none}
use Rattle.fmmu.specs.Image.{fields_of}
use Rattle.sheet.specs.Sheet.{manager_count}
use Rattle.pdo.specs.declared.PdoDirection.{PdoDirection}
use Rattle.pdo.specs.declared.PdoDirection.TheVariants.{MasterRead, MasterWrite}
use Rattle.passes.specs.declared.OldEntries.{OldEntries}
use Rattle.passes.specs.declared.OldEntries.TheVariants.{Clear, Keep}
use Rattle.passes.specs.Use.{Use}
use Rattle.passes.specs.Handed.{Short}
use Rattle.passes.specs.Entries.{length_now, too_long, uses_of_both}
use Rattle.passes.specs.Old.{cleared_of_both, some_enabled, in_the_way}
use Rattle.passes.proofs.Cleared.{nil-off, none-used, zeros-all-off, cleared_at, length-off, cleared-short, from_zero, cleared-eight}
use Rattle.entries.specs.declared.uses.Uses.{Uses}
use Rattle.entries.specs.Lay.{entry_used, uses_of}
use Rattle.entries.specs.Ready.{on, zero_entries, ready, Clears, Readies}
use Rattle.entries.proofs.Taken.{uses_at, uses-end, uses-next}

-- a number past the last one is no entry
pub past_off : (es : List (List ℕ)) (k : ℕ) → length es ≡ 16 → 16 ≤ k → false ≡ on (get_or es k [])
unfolding fields_of
past_off es k many h = ap on (sym (get_or-eq_default es [] (omega arith)))

-- whether an entry of the sync managers from the number k on is enabled
abbrev enabled_from : Uses → List (List ℕ) → ℕ → Bool
enabled_from u es k = some_enabled (uses_at u k) es

-- before the number k none is
pub record NoneYet (u : Uses) (es : List (List ℕ)) (k : ℕ) : Type 0 where
  pub same : enabled_from u es k ≡ enabled_from u es 0

pub none-asked : {u : Uses} {es : List (List ℕ)} → NoneYet u es 0
none-asked = record { same = refl }

module _ {u : Uses} {es : List (List ℕ)} {k : ℕ} (y : NoneYet u es k) where
  pub none-enabled : min (manager_count u.sheet.now) 16 ≤ k → false ≡ some_enabled (uses_of u) es
  none-enabled h = sym (ap (λ (us : List Use). some_enabled us es) (uses-end u k h)) ∙ y.same

  module _ (h : k < min (manager_count u.sheet.now) 16) where
    -- it uses no entry
    pub skip-passed : entry_used u k ≡ None → NoneYet u es (k + 1)
    skip-passed t = record { same = ap (λ (us : List Use). some_enabled us es) (sym (uses-next u k h t)) ∙ y.same }

    -- its entry is enabled, or not
    module _ {e : ℕ} (t : entry_used u k ≡ Some e) where
      asked : on (get_or es e []) || enabled_from u es (k + 1) ≡ enabled_from u es 0
      asked = ap (λ (us : List Use). some_enabled us es) (sym (uses-next u k h t)) ∙ y.same

      pub enabled-found : on (get_or es e []) ≡ true → true ≡ some_enabled (uses_of u) es
      enabled-found o = sym (ap (λ (b : Bool). b || enabled_from u es (k + 1)) o) ∙ asked

      pub free-passed : on (get_or es e []) ≡ false → NoneYet u es (k + 1)
      free-passed o = record { same = sym (ap (λ (b : Bool). b || enabled_from u es (k + 1)) o) ∙ asked }

-- of both directions together: one that the inputs use, else one that the outputs use
of_two : (us vs : List Use) (es : List (List ℕ)) → some_enabled us es || some_enabled vs es ≡ some_enabled (us ++ vs) es
of_two [] vs es = refl
of_two (u ∷ us) vs es = go (on (get_or es u.entry [])) (of_two us vs es)
  where
    go : (b : Bool) → some_enabled us es || some_enabled vs es ≡ some_enabled (us ++ vs) es → (b || some_enabled us es) || some_enabled vs es ≡ b || some_enabled (us ++ vs) es
    go true e = refl
    go false e = e

pub by-inputs :
    (uses : PdoDirection → List Use) (es : List (List ℕ)) {b : Bool} → some_enabled (uses MasterRead) es ≡ b → b || some_enabled (uses MasterWrite) es ≡ some_enabled (uses_of_both uses) es
by-inputs uses es e = ap (λ (b : Bool). b || some_enabled (uses MasterWrite) es) (sym e) ∙ of_two (uses MasterRead) (uses MasterWrite) es

-- the entries as they are made ready
module _ {old : OldEntries} (us : List Use) (before : List (List ℕ)) where
  pub keeps : old ≡ Keep → Readies old us before before false
  unfolding in_the_way
  keeps is = subst (λ (o : OldEntries). Readies o us before before false) (sym is) (record { says = refl; holds = refl })

  -- what is in the way once they are cleared
  module _ (is : old ≡ Clear) {after : List (List ℕ)} {enabled both : Bool} (c : Clears before after enabled both) where
    pub made : {now : List (List ℕ)} {b : Bool} → b ≡ both || some_enabled us after → now ≡ cond b zero_entries after → Readies old us before now b
    unfolding in_the_way
    made {now} {b} w h =
        let way : b ≡ in_the_way Clear us before = w ∙ (λ i. c.twice i || some_enabled us (c.holds i)) in
        subst (λ (o : OldEntries). Readies o us before now b) (sym is)
        (record { says = way; holds = h ∙ (λ i. cond (way i) zero_entries (c.holds i)) })

-- where none is enabled at all, and none has both bits, none is in the way
pub none-in_way : (us : List Use) (es : List (List ℕ)) {enabled both : Bool} → both ≡ false → enabled ≡ false → enabled ≡ some_of on es → enabled ≡ both || some_enabled us es
none-in_way us es b e some = e ∙ (λ i. sym b i || sym (none-used us es (at_none on es [] nil-off (sym some ∙ e))) i)

short-zeros : Short zero_entries
short-zeros = record { many = refl; short = λ k h. (let z = length-off (get_or zero_entries k []) (zeros-all-off 16 k) in omega arith) }

short-cleared : (es : List (List ℕ)) → Short es → Short (map cleared_of_both es)
short-cleared es s =
    record {
      many = length-map es cleared_of_both ∙ s.many;
      short = λ k h. subst (λ (e : List ℕ). length_now e ≤ 65535) (sym (cleared_at es k)) (cleared-short (get_or es k []) (s.short k h));
    }

-- what is made ready is as short
short-ready : (old : OldEntries) (us : List Use) (es : List (List ℕ)) → Short es → Short (ready old us es)
unfolding in_the_way
short-ready Keep us es s = s
short-ready Clear us es s = go (in_the_way Clear us es)
  where
    go : (b : Bool) → Short (cond b zero_entries (map cleared_of_both es))
    go true = short-zeros
    go false = short-cleared es s

pub short-made : {old : OldEntries} {us : List Use} {before after : List (List ℕ)} {blocked : Bool} → Readies old us before after blocked → Short before → Short after
short-made {old} {us} {before} m s = subst (λ (es : List (List ℕ)). Short es) (sym m.holds) (short-ready old us before s)

-- 8 on what is laid on is 8 of the call
pub too-long-ready : (old : OldEntries) (us : List Use) (es : List (List ℕ)) → Short es → too_long Keep us (ready old us es) ≡ too_long old us es
unfolding in_the_way
too-long-ready Keep us es s = refl
too-long-ready Clear us es s = go (in_the_way Clear us es) refl
  where
    go : (b : Bool) → in_the_way Clear us es ≡ b → too_long Keep us (cond b zero_entries (map cleared_of_both es)) ≡ too_long Clear us es
    go true w = from_zero us zero_entries es short-zeros.short (λ k. inl (zeros-all-off 16 k))
    go false w = cleared-eight us es s.short w
