-- What laying a direction's uses leaves of each entry: those that it uses carry the direction's bit alone, all others are as it found them. And two areas on which
-- the uses of both directions leave the same.
-- Assumes nothing.
use mathlib.Core.Path.{◌≡◌, refl, sym, ◌∙◌, ap, subst}
use mathlib.Core.Bool.{true, false, true≢false}
use mathlib.Core.List.{List, [], ◌∷◌, ◌++◌, append-nil}
use mathlib.Core.Logic.{◌⊎◌, inl, inr, ⊎_elim}
use Prim.Native.Nat.{ℕ, ◌+◌, ◌<◌}
use lib.ListN.{length, get_or, length-set}
use lib.Seq.{get_or-set_same, get_or-set_other, ext_get_or}
use Rattle.wire.specs.Lists.{Each}
use Rattle.fmmu.specs.declared.Fmmu.{Fmmu}
use Rattle.fmmu.specs.Image.{fields_of, image_of}
use Rattle.pdo.specs.declared.PdoDirection.{PdoDirection}
use Rattle.pdo.specs.declared.PdoDirection.TheVariants.{MasterRead, MasterWrite}
use Rattle.passes.specs.Use.{Use}
use Rattle.passes.specs.Old.{is_old}
use Rattle.passes.specs.Entries.{mapped, grown, laid, plan, plan_both, uses_of_both}
use Rattle.passes.proofs.Kept.{plan-length}
use Rattle.agreement.proofs.Basics.{either, same_or_not}
use Rattle.agreement.proofs.Straight.{Fresh}
use Rattle.passes.proofs.Cleared.{Off}
use Rattle.agreement.proofs.Step.{image-old}
use Rattle.agreement.proofs.Run.{made, after, Placed, placed-after}

-- enabled with the direction's bit alone, as laying the direction leaves its entries
abbrev pub Ours : PdoDirection → List ℕ → Type 0
Ours r e = is_old r (fields_of e) ≡ true

mapped-old : (r : PdoDirection) (s n p : ℕ) → is_old r (mapped r s n p) ≡ true
mapped-old MasterRead s n p = refl
mapped-old MasterWrite s n p = refl

grown-old : (r : PdoDirection) (f : Fmmu) (n : ℕ) → is_old r (grown f n) ≡ is_old r f
grown-old MasterRead f n = refl
grown-old MasterWrite f n = refl

-- a use leaves its entry so, if it was disabled or so already
laid-ours : (r : PdoDirection) (q : ℕ) (u : Use) (e : List ℕ) → Off e ⊎ Ours r e → Ours r (image_of (laid r q u (fields_of e)))
laid-ours r q u e h = image-old r (laid r q u (fields_of e)) ∙ go (either (fields_of e).enable) h
  where
    go : ((fields_of e).enable ≡ true) ⊎ ((fields_of e).enable ≡ false) → Off e ⊎ Ours r e → is_old r (laid r q u (fields_of e)) ≡ true
    go (inr off) h = let z : laid r q u (fields_of e) ≡ mapped r q u.size u.at = rw off refl in ap (is_old r) z ∙ mapped-old r q u.size u.at
    go (inl on) (inl off) = absurd (true≢false (sym on ∙ off))
    go (inl on) (inr h) = let z : laid r q u (fields_of e) ≡ grown (fields_of e) u.size = rw on refl in ap (is_old r) z ∙ grown-old r (fields_of e) u.size ∙ h

-- a number that no use is on, or one that has what each use's entry has
pub fresh-or : (k : ℕ) (P : ℕ → Type 0) (us : List Use) → Each (λ (u : Use). P u.entry) us → Fresh k us ⊎ P k
fresh-or k P [] h = inl tt
fresh-or k P (u ∷ us) h =
    ⊎_elim
    (λ e. inr (subst P e h.0))
    (λ n. ⊎_elim (λ f. inl (n, f)) (λ p. inr p) (fresh-or k P us h.1))
    (same_or_not u.entry k)

-- a fact of the entry k after a use, given of the use's own, and of any other as it was
module _ (r : PdoDirection) (q : ℕ) (u : Use) (us : List Use) (area : List (List ℕ)) (p : Placed (u ∷ us) area) where
  at_number : (k : ℕ) (P : List ℕ → Type 0) → (u.entry ≡ k → P (made r q u area)) → ((u.entry ≡ k → ⊥) → P (get_or area k [])) → P (get_or (after r q u area) k [])
  at_number k P new old =
      ⊎_elim
      (λ e. subst (λ (j : ℕ). P (get_or (after r q u area) j [])) e (subst P (sym (get_or-set_same area u.entry (made r q u area) [] p.0)) (new e)))
      (λ n. subst P (sym (get_or-set_other area u.entry k (made r q u area) [] (λ z. n (sym z)))) (old n))
      (same_or_not u.entry k)

-- an entry that the uses leave alone, or one that may be laid on
abbrev Free : PdoDirection → List Use → List ℕ → ℕ → Type 0
Free r us e k = Fresh k us ⊎ (Off e ⊎ Ours r e)

-- what is left of an entry
abbrev pub LeftOf : PdoDirection → List Use → ℕ → List ℕ → List ℕ → Type 0
LeftOf r us k e e' = (Fresh k us × (e' ≡ e)) ⊎ Ours r e'

left-free : (r : PdoDirection) (q : ℕ) (us : List Use) (area : List (List ℕ)) → Placed us area → ((k : ℕ) → Free r us (get_or area k []) k)
    → (k : ℕ) → LeftOf r us k (get_or area k []) (get_or (plan r q us area) k [])
unfolding plan
left-free r q [] area p h k = inl (tt, refl)
left-free r q (u ∷ us) area p h k = go (left-free r (q + u.size) us (after r q u area) (placed-after r q u us area p.1) still k)
  where
    new : Ours r (made r q u area)
    new = laid-ours r q u (get_or area u.entry []) (⊎_elim (λ f. absurd (f.0 refl)) (λ x. x) (h u.entry))

    still : (k : ℕ) → Free r us (get_or (after r q u area) k []) k
    still k = at_number r q u us area p k (λ e. Free r us e k) (λ e. inr (inr new)) (λ n. ⊎_elim (λ f. inl f.1) (λ x. inr x) (h k))

    go : LeftOf r us k (get_or (after r q u area) k []) (get_or (plan r (q + u.size) us (after r q u area)) k [])
        → LeftOf r (u ∷ us) k (get_or area k []) (get_or (plan r (q + u.size) us (after r q u area)) k [])
    go (inr x) = inr x
    go (inl (f, e)) =
        at_number r q u us area p k (λ x. get_or (plan r (q + u.size) us (after r q u area)) k [] ≡ x → LeftOf r (u ∷ us) k (get_or area k []) (get_or (plan r (q + u.size) us (after r q u area)) k []))
        (λ s z. inr (subst (Ours r) (sym z) new))
        (λ n z. inl ((n, f), z))
        e

pub left_at : (r : PdoDirection) (q : ℕ) (us : List Use) (area : List (List ℕ)) → Placed us area → Each (λ (v : Use). Off (get_or area v.entry [])) us
    → (k : ℕ) → LeftOf r us k (get_or area k []) (get_or (plan r q us area) k [])
left_at r q us area p off = left-free r q us area p (λ k. ⊎_elim (λ f. inl f) (λ o. inr (inl o)) (fresh-or k (λ (j : ℕ). Off (get_or area j [])) us off))

-- two areas that differ only in disabled entries, and in none that no use is on
pub record SameBut (us : List Use) (area area' : List (List ℕ)) : Type 0 where
  pub long : length area ≡ length area'
  pub away : (k : ℕ) → Fresh k us → get_or area k [] ≡ get_or area' k []
  pub alike : (k : ℕ) → (get_or area k [] ≡ get_or area' k []) ⊎ (Off (get_or area k []) × Off (get_or area' k []))

-- where no use is left to lay, they are the same
same_none : (area area' : List (List ℕ)) → SameBut [] area area' → area ≡ area'
same_none area area' s = ext_get_or [] area area' s.long (λ k h. s.away k tt)

-- laying some of the uses leaves two such areas for the rest
same_rest :
    (r : PdoDirection) (q : ℕ) (us vs : List Use) (area area' : List (List ℕ)) → Placed us area → SameBut (us ++ vs) area area' → SameBut vs (plan r q us area) (plan r q us area')
unfolding plan
same_rest r q [] vs area area' p s = s
same_rest r q (u ∷ us) vs area area' p s = same_rest r (q + u.size) us vs (after r q u area) (after r q u area') (placed-after r q u us area p.1) next
  where
    new : made r q u area ≡ made r q u area'
    new =
        ⊎_elim
        (λ e. ap (λ (x : List ℕ). image_of (laid r q u (fields_of x))) e)
        (λ o. ap image_of (rw (o.0, o.1) refl))
        (s.alike u.entry)

    p' : Placed (u ∷ us) area'
    p' = subst (λ (n : ℕ). Each (λ (v : Use). v.entry < n) (u ∷ us)) s.long p

    both : (k : ℕ) (P : List ℕ → List ℕ → Type 0) → P (made r q u area) (made r q u area') → ((u.entry ≡ k → ⊥) → P (get_or area k []) (get_or area' k []))
        → P (get_or (after r q u area) k []) (get_or (after r q u area') k [])
    both k P x y =
        at_number r q u us area p k (λ e. P e (get_or (after r q u area') k []))
        (λ z. at_number r q u us area' p' k (λ e'. P (made r q u area) e') (λ w. x) (λ n. absurd (n z)))
        (λ n. at_number r q u us area' p' k (λ e'. P (get_or area k []) e') (λ z. absurd (n z)) y)

    next : SameBut (us ++ vs) (after r q u area) (after r q u area')
    next =
        record {
          long = length-set area u.entry (made r q u area) ∙ s.long ∙ sym (length-set area' u.entry (made r q u area'));
          away = λ k f. both k (λ e e'. e ≡ e') new (λ n. s.away k (n, f));
          alike = λ k. both k (λ e e'. (e ≡ e') ⊎ (Off e × Off e')) (inl new) (λ n. s.alike k);
        }

-- so the uses of both directions leave the same
module _ (start : PdoDirection → ℕ) (uses : PdoDirection → List Use) (area area' : List (List ℕ)) (p : Placed (uses MasterRead) area) (w : Placed (uses MasterWrite) area) where
  abbrev inputs : List (List ℕ) → List (List ℕ)
  inputs es = plan MasterRead (start MasterRead) (uses MasterRead) es

  pub both-same : SameBut (uses_of_both uses) area area' → plan_both start uses area ≡ plan_both start uses area'
  both-same s =
      let rest = same_rest MasterRead (start MasterRead) (uses MasterRead) (uses MasterWrite) area area' p s in
      same_none (plan_both start uses area) (plan_both start uses area')
      (same_rest MasterWrite (start MasterWrite) (uses MasterWrite) [] (inputs area) (inputs area')
      (subst (λ (n : ℕ). Each (λ (v : Use). v.entry < n) (uses MasterWrite)) (sym (plan-length MasterRead (start MasterRead) (uses MasterRead) area)) w)
      (subst (λ (vs : List Use). SameBut vs (inputs area) (inputs area')) (sym (append-nil (uses MasterWrite))) rest))
