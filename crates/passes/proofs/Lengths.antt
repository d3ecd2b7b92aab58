-- The lengths of entries while uses are laid: the first use whose entry has no room decides 8, and each use that has room leaves it to the rest.
-- Assumes nothing.
use mathlib.Core.Path.{◌≡◌, refl, sym, ◌∙◌, ap, ap₂, subst}
use mathlib.Core.Bool.{Bool, true, false, cond, ◌&&◌, ◌||◌, false≢true}
use mathlib.Core.List.{List, [], ◌∷◌, ◌++◌}
use Prim.Native.Nat.{ℕ, ◌+◌, ◌<◌, ◌≤◌}
use native.Mathlib.Nat.{zero-add}
use native.Mathlib.Decide.{ℕ_discrete}
use native.Mathlib.Omega.{arith}
use lib.ListN.{length, get_or, length-set}
use lib.Seq.{get_or-set_same, get_or-set_other}
use lib.Dec.{ltb}
use borrow.Author.Tests.{ltb-true, ltb-false, lt-ltb, le-ltb, eq-eqb, ne_eqb}
use Rattle.wire.specs.Image.{Bytes}
use Rattle.wire.proofs.Fields.{flag-bit}
use Rattle.wire.proofs.Numbers.{joined_is}
use Rattle.wire.proofs.Lists.{some-hit, some-none, some_same}
use Rattle.fmmu.specs.declared.Fmmu.{Fmmu}
use Rattle.fmmu.specs.Image.{fields_of, image_of}
use Rattle.pdo.specs.declared.PdoDirection.{PdoDirection}
use Rattle.passes.specs.declared.OldEntries.TheVariants.{Keep}
use Rattle.passes.specs.Use.{Use, total_on}
use Rattle.passes.specs.Entries.{mapped, grown, laid, with_use, plan, length_of, length_now, too_long}
use Rattle.area.specs.Area.{entries_of}
use Rattle.area.proofs.Flat.{length-chunks, entry-bytes}
use Rattle.passes.proofs.Cleared.{length-bytes}
use Rattle.passes.specs.Handed.{no_room, Short}

-- two bytes hold no more
pub short-area : (area : List ℕ) → Bytes area → Short (entries_of 16 area)
short-area area bytes = record { many = length-chunks 16 16 area; short = λ k h. length-bytes (get_or (entries_of 16 area) k []) (entry-bytes 16 16 area k bytes) }

-- the length of an entry that was written
written-length : (f : Fmmu) → f.length_bytes.0 ≤ 65535 → length_now (image_of f) ≡ length_of f
unfolding fields_of image_of
written-length f h = ap₂ (λ (b : Bool) (n : ℕ). cond b n 0) (flag-bit f.enable) (joined_is 2 f.length_bytes.0 (omega arith))

-- laying adds the size, to nothing where the entry was disabled
laid-length : (r : PdoDirection) (o : ℕ) (u : Use) (f : Fmmu) → length_of f + u.size ≤ 65535 → length_now (image_of (laid r o u f)) ≡ length_of f + u.size
laid-length r o u f h = go f.enable refl
  where
    chosen : {b : Bool} → f.enable ≡ b → length_now (image_of (laid r o u f)) ≡ length_now (image_of (cond b (grown f u.size) (mapped r o u.size u.at)))
    chosen e = ap (λ (b : Bool). length_now (image_of (cond b (grown f u.size) (mapped r o u.size u.at)))) e

    go : (b : Bool) → f.enable ≡ b → length_now (image_of (laid r o u f)) ≡ length_of f + u.size
    go true e =
        let s : f.length_bytes.0 + u.size ≤ 65535 = simp e at h in
        let t : length_of (grown f u.size) ≡ length_of f + u.size = rw e in
        chosen e ∙ written-length (grown f u.size) s ∙ t
    go false e =
        let s : u.size ≤ 65535 = omega arith in
        let t : u.size ≡ length_of f + u.size = rw (e, zero-add) in
        chosen e ∙ written-length (mapped r o u.size u.at) s ∙ t

-- what a use adds to the bytes on an entry
module _ (u : Use) (us : List Use) (k : ℕ) where
  total_here : u.entry ≡ k → total_on k (u ∷ us) ≡ u.size + total_on k us
  unfolding total_on
  total_here e = rw (eq-eqb u.entry k e)

  total-other : (u.entry ≡ k → ⊥) → total_on k (u ∷ us) ≡ total_on k us
  unfolding total_on
  total-other e = rw (ne_eqb u.entry k e, zero-add)

-- the bytes on an entry of two lists together
pub total-both : (k : ℕ) (us vs : List Use) → total_on k (us ++ vs) ≡ total_on k us + total_on k vs
unfolding total_on
total-both k [] vs = sym (zero-add (total_on k vs))
total-both k (u ∷ us) vs = let t = total-both k us vs in omega arith

-- nothing to lay
pub too-long-none : (entries : List (List ℕ)) → Short entries → too_long Keep [] entries ≡ false
unfolding too_long total_on
too-long-none entries s =
    some-none (λ k. ltb 65535 (length_now (get_or entries k []) + 0)) 16 (λ k h. le-ltb 65535 (length_now (get_or entries k []) + 0) (let f = s.short k h in omega arith))

-- the first use's entry has no room
pub too-long-first : (u : Use) (us : List Use) (entries : List (List ℕ)) → no_room u entries ≡ true → too_long Keep (u ∷ us) entries ≡ true
unfolding too_long
too-long-first u us entries e =
    let p = both (ltb u.entry 16) (ltb 65535 (length_now (get_or entries u.entry []) + u.size)) e in
    let h = ltb-true u.entry 16 p.0 in
    let l = ltb-true 65535 (length_now (get_or entries u.entry []) + u.size) p.1 in
    let t = total_here u us u.entry refl in
    some-hit (λ k. ltb 65535 (length_now (get_or entries k []) + total_on k (u ∷ us))) u.entry 16 h
    (lt-ltb 65535 (length_now (get_or entries u.entry []) + total_on u.entry (u ∷ us)) (omega arith))
  where
    both : (a b : Bool) → a && b ≡ true → (a ≡ true) × (b ≡ true)
    both true b q = (refl, q)
    both false b q = absurd (false≢true q)

-- it has room, or is none
module _ (u : Use) (entries : List (List ℕ)) (r : PdoDirection) (o : ℕ) (many : length entries ≡ 16) (fit : no_room u entries ≡ false) where
  abbrev after : List (List ℕ)
  after = with_use r o u entries

  fits : u.entry < 16 → length_now (get_or entries u.entry []) + u.size ≤ 65535
  fits h =
      let n = length_now (get_or entries u.entry []) + u.size in
      ltb-false 65535 n (sym (ap (λ (b : Bool). b && ltb 65535 n) (lt-ltb u.entry 16 h)) ∙ fit)

  here : u.entry < 16 → length_now (get_or after u.entry []) ≡ length_now (get_or entries u.entry []) + u.size
  here h =
      let f = fields_of (get_or entries u.entry []) in
      ap length_now (get_or-set_same entries u.entry (image_of (laid r o u f)) [] (omega arith)) ∙ laid-length r o u f (fits h)

  there : (k : ℕ) → (u.entry ≡ k → ⊥) → length_now (get_or after k []) ≡ length_now (get_or entries k [])
  there k d = ap length_now (get_or-set_other entries u.entry k (image_of (laid r o u (fields_of (get_or entries u.entry [])))) [] (λ q. d (sym q)))

  pub short-after : Short entries → Short after
  short-after s = record { many = length-set entries u.entry _ ∙ many; short = λ k h. go k h (ℕ_discrete u.entry k) }
    where
      go : (k : ℕ) → k < 16 → Dec (u.entry ≡ k) → length_now (get_or after k []) ≤ 65535
      go k h (yes e) =
          subst (λ (j : ℕ). length_now (get_or after j []) ≤ 65535) e (let a = here (omega arith) in let b = fits (omega arith) in omega arith)
      go k h (no d) = let a = there k d in let b = s.short k h in omega arith

  -- an entry's length with the uses to come
  abbrev Same : List Use → ℕ → Type 0
  Same us k = length_now (get_or after k []) + total_on k us ≡ length_now (get_or entries k []) + total_on k (u ∷ us)

  pub too-long-rest : (us : List Use) → too_long Keep (u ∷ us) entries ≡ too_long Keep us after
  unfolding too_long
  too-long-rest us =
      some_same (λ k. ltb 65535 (length_now (get_or entries k []) + total_on k (u ∷ us))) (λ k. ltb 65535 (length_now (get_or after k []) + total_on k us)) 16
      (λ k h. ap (ltb 65535) (sym (go k h (ℕ_discrete u.entry k))))
    where
      go : (k : ℕ) → k < 16 → Dec (u.entry ≡ k) → Same us k
      go k h (yes e) = subst (Same us) e (let a = here (omega arith) in let t = total_here u us u.entry refl in omega arith)
      go k h (no d) = let a = there k d in let t = total-other u us k d in omega arith

-- laid one after the other: 8 of all is 8 of the first, or of the rest on what those leave
pub too-long-both : (r : PdoDirection) (o : ℕ) (us vs : List Use) (entries : List (List ℕ)) → Short entries → too_long Keep (us ++ vs) entries ≡ too_long Keep us entries || too_long Keep vs (plan r o us entries)
unfolding plan
too-long-both r o [] vs entries s = ap (λ (b : Bool). b || too_long Keep vs entries) (sym (too-long-none entries s))
too-long-both r o (u ∷ us) vs entries s = go (no_room u entries) refl (λ f. too-long-both r (o + u.size) us vs (with_use r o u entries) (short-after u entries r o s.many f s))
  where
    go : (b : Bool) → no_room u entries ≡ b
        → (no_room u entries ≡ false → too_long Keep (us ++ vs) (with_use r o u entries) ≡ too_long Keep us (with_use r o u entries) || too_long Keep vs (plan r (o + u.size) us (with_use r o u entries)))
        → too_long Keep (u ∷ us ++ vs) entries ≡ too_long Keep (u ∷ us) entries || too_long Keep vs (plan r (o + u.size) us (with_use r o u entries))
    go true e rest =
        too-long-first u (us ++ vs) entries e
        ∙ ap (λ (b : Bool). b || too_long Keep vs (plan r (o + u.size) us (with_use r o u entries))) (sym (too-long-first u us entries e))
    go false e rest =
        too-long-rest u entries r o s.many e (us ++ vs)
        ∙ rest e
        ∙ ap (λ (b : Bool). b || too_long Keep vs (plan r (o + u.size) us (with_use r o u entries))) (sym (too-long-rest u entries r o s.many e us))

-- entries stay short where all have room
pub short-planned : (r : PdoDirection) (o : ℕ) (us : List Use) (entries : List (List ℕ)) → Short entries → too_long Keep us entries ≡ false → Short (plan r o us entries)
unfolding plan
short-planned r o [] entries s e = s
short-planned r o (u ∷ us) entries s e = go (no_room u entries) refl (λ f. short-planned r (o + u.size) us (with_use r o u entries) (short-after u entries r o s.many f s))
  where
    go : (b : Bool) → no_room u entries ≡ b
        → (no_room u entries ≡ false → too_long Keep us (with_use r o u entries) ≡ false → Short (plan r (o + u.size) us (with_use r o u entries)))
        → Short (plan r (o + u.size) us (with_use r o u entries))
    go true h rest = absurd (false≢true (sym e ∙ too-long-first u us entries h))
    go false h rest = rest h (sym (too-long-rest u entries r o s.many h us) ∙ e)
