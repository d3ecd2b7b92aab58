-- Entries that are written from the last pair to the first: the first pair for a sync manager is written last, and stays.
-- Assumes nothing.
use mathlib.Core.Path.{◌≡◌, refl, sym, ◌∙◌, ap, subst}
use mathlib.Core.Bool.{Bool, true, false, cond, ◌||◌}
use mathlib.Core.List.{List, [], ◌∷◌}
use Prim.Native.Nat.{ℕ, suc, ◌+◌, ◌-◌, ◌<◌, ◌≤◌}
use native.Mathlib.Omega.{arith}
use lib.Dec.{eqb}
use lib.ListN.{length, get_or, take, drop, set, length-set, drop_of_length-le}
use lib.Seq.{take-suc, take_all, drop-cons, ext_get_or, get_or-set_same, get_or-set_other}
use borrow.Author.Tests.{eqb-true, eqb-false, ne_eqb}
use Rattle.std.specs.List.{push}
use Rattle.wire.specs.Lists.{list_of, some_of}
use Rattle.wire.proofs.Lists.{length-list_of, get_d-list_of}
use Rattle.passes.specs.declared.FmmuPair.{FmmuPair}
use Rattle.passes.specs.Use.{entry_for, past_last, chosen_of}

-- what becomes of the entry that stands for a number, once the pairs that are left are written too
unfoldable pub then : List FmmuPair → ℕ → ℕ → ℕ
then [] number entry = entry
then (p ∷ ps) number entry = cond (eqb p.sync_manager number) p.fmmu (then ps number entry)

-- the last of them is written first
pub then-push : (ps : List FmmuPair) (p : FmmuPair) (number entry : ℕ) → then (push ps p) number entry ≡ then ps number (cond (eqb p.sync_manager number) p.fmmu entry)
unfolding then
then-push [] p number entry = refl
then-push (q ∷ ps) p number entry = ap (cond (eqb q.sync_manager number) q.fmmu) (then-push ps p number entry)

-- over the own number they write what they mean
then-own : (ps : List FmmuPair) (number : ℕ) → then ps number number ≡ entry_for ps number
unfolding entry_for then
then-own [] number = refl
then-own (p ∷ ps) number = ap (cond (eqb p.sync_manager number) p.fmmu) (then-own ps number)

-- sixteen entries become those of a list of pairs, once the pairs that are left are written too
pub record Becomes (left : List FmmuPair) (entries : List ℕ) (ps : List FmmuPair) : Type 0 where
  pub sixteen : length entries ≡ 16
  pub each : (number : ℕ) → number < 16 → then left number (get_or entries number 0) ≡ entry_for ps number

-- at the start each sync manager has its own number
pub becomes-all : (ps left : List FmmuPair) → left ≡ ps → Becomes left (0 ∷ 1 ∷ 2 ∷ 3 ∷ 4 ∷ 5 ∷ 6 ∷ 7 ∷ 8 ∷ 9 ∷ 10 ∷ 11 ∷ 12 ∷ 13 ∷ 14 ∷ 15 ∷ []) ps
unfolding list_of
becomes-all ps left e = rw e record {
  sixteen = refl;
  each = λ number h. ap (then ps number) (get_d-list_of (λ n. n) 16 number 0 h) ∙ then-own ps number;
}

module _ (ps left rest : List FmmuPair) (p : FmmuPair) (entries : List ℕ) (last : left ≡ push rest p) (before : Becomes left entries ps) where
  -- what the last of them is written over
  over : (number : ℕ) → number < 16 → then rest number (cond (eqb p.sync_manager number) p.fmmu (get_or entries number 0)) ≡ entry_for ps number
  over number h = sym (ap (λ (l : List FmmuPair). then l number (get_or entries number 0)) last ∙ then-push rest p number (get_or entries number 0)) ∙ before.each number h

  -- it is written
  pub becomes-with : {k : ℕ} → k ≡ p.sync_manager → k < 16 → Becomes rest (set entries k p.fmmu) ps
  becomes-with {k} e l = record {
    sixteen = length-set entries k p.fmmu ∙ before.sixteen;
    each = λ number h. ap (then rest number) (now number (eqb p.sync_manager number) refl) ∙ over number h;
  }
    where
      within : k < length entries
      within = omega (arith, before.sixteen)

      now : (number : ℕ) (b : Bool) → eqb p.sync_manager number ≡ b → get_or (set entries k p.fmmu) number 0 ≡ cond b p.fmmu (get_or entries number 0)
      now number true q = subst (λ (j : ℕ). get_or (set entries k p.fmmu) j 0 ≡ p.fmmu) (e ∙ eqb-true p.sync_manager number q) (get_or-set_same entries k p.fmmu 0 within)
      now number false q = get_or-set_other entries k number p.fmmu 0 (λ z. eqb-false p.sync_manager number q (sym (z ∙ e)))

  -- or it is for none of sixteen
  pub becomes-without : 15 < p.sync_manager → Becomes rest entries ps
  becomes-without l = record {
    sixteen = before.sixteen;
    each = λ number h.
        ap (λ (b : Bool). then rest number (cond b p.fmmu (get_or entries number 0))) (sym (ne_eqb p.sync_manager number (λ q. absurd (omega (arith, q))))) ∙ over number h;
  }

-- none is left
pub becomes-end : (ps left : List FmmuPair) (entries : List ℕ) → length left ≡ 0 → Becomes left entries ps → entries ≡ list_of (entry_for ps) 16
unfolding then
becomes-end ps (p ∷ left) entries e b = absurd (omega (arith, e))
becomes-end ps [] entries e b =
    let own = entry_for ps in
    ext_get_or 0 entries (list_of own 16) (b.sixteen ∙ sym (length-list_of own 16)) (λ k h. b.each k (omega (arith, b.sixteen)) ∙ sym (get_d-list_of own 16 k 0 (omega (arith, b.sixteen))))

-- k pairs are left: the entries of those that were read, and whether one of those has a number above 15
pub record Said (ps : List FmmuPair) (k : ℕ) (entries : List ℕ) (above : Bool) : Type 0 where
  pub few : k ≤ length ps
  pub becomes : Becomes (take k ps) entries ps
  pub asked : above ≡ some_of past_last (drop k ps)

pub none-said : (ps : List FmmuPair) → Said ps (length ps) (0 ∷ 1 ∷ 2 ∷ 3 ∷ 4 ∷ 5 ∷ 6 ∷ 7 ∷ 8 ∷ 9 ∷ 10 ∷ 11 ∷ 12 ∷ 13 ∷ 14 ∷ 15 ∷ []) false
none-said ps = record {
  few = omega arith;
  becomes = becomes-all ps (take (length ps) ps) (take_all (length ps) ps (omega arith));
  asked = ap (some_of past_last) (sym (drop_of_length-le ps (omega arith)));
}

-- the pair with the number j is read, which is the last of those that are left
module _ {ps : List FmmuPair} {k : ℕ} (j : ℕ) (d : FmmuPair) {entries : List ℕ} {a above : Bool} (is : a ≡ past_last (get_or ps j d)) (last : j + 1 ≡ k) (said : Said ps k entries above) where
  front : take k ps ≡ push (take (k - 1) ps) (get_or ps j d)
  front =
      let few = said.few in
      let e : k ≡ suc j = omega arith in
      let f : j ≡ k - 1 = omega arith in
      ap (λ (n : ℕ). take n ps) e ∙ take-suc ps j d (omega arith) ∙ ap (λ (n : ℕ). push (take n ps) (get_or ps j d)) f

  asked-too : a || above ≡ some_of past_last (drop (k - 1) ps)
  asked-too =
      let few = said.few in
      let e : suc j ≡ k = omega arith in
      let f : j ≡ k - 1 = omega arith in
      (λ i. is i || said.asked i) ∙ sym (ap (some_of past_last) (ap (λ (n : ℕ). drop n ps) (sym f) ∙ drop-cons ps j d (omega arith) ∙ ap (λ (n : ℕ). get_or ps j d ∷ drop n ps) e))

  -- it is written, or is for none of sixteen
  pub said-with : {n : ℕ} → n ≡ (get_or ps j d).sync_manager → n < 16 → Said ps (k - 1) (set entries n (get_or ps j d).fmmu) (a || above)
  said-with e h =
      record {
        few = let few = said.few in omega arith;
        becomes = becomes-with ps (take k ps) (take (k - 1) ps) (get_or ps j d) entries front said.becomes e h;
        asked = asked-too;
      }

  pub said-without : 15 < (get_or ps j d).sync_manager → Said ps (k - 1) entries (a || above)
  said-without h =
      record {
        few = let few = said.few in omega arith;
        becomes = becomes-without ps (take k ps) (take (k - 1) ps) (get_or ps j d) entries front said.becomes h;
        asked = asked-too;
      }

-- none is left
pub said-all : (ps : List FmmuPair) (k : ℕ) (entries : List ℕ) (above : Bool) → k ≡ 0 → Said ps k entries above → record { entries = entries; above = above } ≡ chosen_of ps
said-all ps k entries above e said =
    let all = becomes-end ps (take k ps) entries (ap (λ (n : ℕ). length (take n ps)) e) said.becomes in
    let asked = said.asked ∙ ap (λ (n : ℕ). some_of past_last (drop n ps)) e in
    λ i. record { entries = all i; above = asked i }
