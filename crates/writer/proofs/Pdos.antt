-- The PDOs that were written, read: each is the one that was written, and their records are those of a sheet that ends with them.
-- Assumes nothing.
use mathlib.Core.Path.{◌≡◌, refl, sym, ◌∙◌, ap, ap₂}
use mathlib.Core.Bool.{Bool, true, false, cond, ◌&&◌}
use mathlib.Core.List.{List, [], ◌∷◌, ◌++◌}
use Prim.Native.Nat.{ℕ, ◌+◌}
use native.Mathlib.Omega.{arith}
use lib.ListN.{length, get_or, length-append}
use lib.Dec.{eqb}
use borrow.Author.Tests.{eq-eqb, le-leb, eqb-true, eqb-false}
use Rattle.wire.specs.Number.{big_at, big_of}
use Rattle.wire.specs.Lists.{list_of, Each}
use Rattle.area.specs.Area.{flat}
use Rattle.grammar.proofs.Fitting.{coe-fits, other_fits}
use Rattle.sheet.specs.Device.{Pdo, next_pdo, pdo_at, pdos_from}
use Rattle.sheet.specs.Sheet.{kind_fits, pdos_fit}
use Rattle.writer.specs.Form.{pdo_bytes}
use Rattle.writer.proofs.Keeps.{KeepsPdo}
use Rattle.writer.proofs.Stands.{Stands, first-stands, second-stands, stands-byte, stands-number, stands-all}
use Rattle.writer.proofs.Parts.{pdos_bytes}

-- the bytes of the bit lengths, by the kind: as many as they are, or two
abbrev lengths_bytes : Bool → List ℕ → List ℕ
lengths_bytes many l = cond many l (big_of 2 (get_or l 0 0))

-- one that stands there is read: its kind, its count, its index, its bit lengths, and so all of it
module _ {s : List ℕ} {at : ℕ} (p : Pdo) (k : KeepsPdo p) (h : Stands s at (pdo_bytes p)) where
  abbrev many : Bool
  many = eqb p.kind 0

  kind-read : get_or s at 0 ≡ p.kind
  kind-read = stands-byte (pdo_bytes p) 0 (omega arith) (omega arith) h

  count-read : get_or s (at + 4) 0 ≡ length (lengths_bytes many p.lengths)
  count-read = stands-byte (pdo_bytes p) 4 refl (omega arith) h

  index_read : big_at s (at + 2) 2 ≡ p.index
  index_read = stands-number p.index _ k.index (second-stands (p.kind ∷ p.manager ∷ []) _ refl h)

  lengths-stand : Stands s (at + 5) (lengths_bytes many p.lengths)
  lengths-stand =
      let l = lengths_bytes many p.lengths in
      second-stands (p.kind ∷ p.manager ∷ (big_of 2 p.index ++ (length l ∷ []))) l refl h

  lengths_read : cond (eqb (get_or s at 0) 0) (list_of (λ j. get_or s (at + 5 + j) 0) (get_or s (at + 4) 0)) (big_at s (at + 5) 2 ∷ []) ≡ p.lengths
  lengths_read =
      ap (λ (n : ℕ). cond (eqb n 0) (list_of (λ j. get_or s (at + 5 + j) 0) (get_or s (at + 4) 0)) (big_at s (at + 5) 2 ∷ [])) kind-read
      ∙ go many refl count-read lengths-stand
    where
      go :
          (b : Bool) → many ≡ b → get_or s (at + 4) 0 ≡ length (lengths_bytes b p.lengths) → Stands s (at + 5) (lengths_bytes b p.lengths)
          → cond b (list_of (λ j. get_or s (at + 5 + j) 0) (get_or s (at + 4) 0)) (big_at s (at + 5) 2 ∷ []) ≡ p.lengths
      go true e m t = stands-all p.lengths m t
      go false e m t =
          let one = k.one (eqb-false p.kind 0 e) in
          ap (λ (n : ℕ). n ∷ []) (stands-number (get_or p.lengths 0 0) [] one.1 t) ∙ sym one.0

  pdo-read : pdo_at s at ≡ p
  pdo-read = λ i. record { kind = kind-read i; manager = stands-byte (pdo_bytes p) 1 refl (omega arith) h i; index = index_read i; lengths = lengths_read i }

  -- its kind goes with its count
  pdo-fits : kind_fits (get_or s at 0) (get_or s (at + 4) 0) ≡ true
  pdo-fits = ap₂ kind_fits kind-read count-read ∙ go many refl
    where
      go : (b : Bool) → many ≡ b → kind_fits p.kind (length (lengths_bytes b p.lengths)) ≡ true
      go true e = coe-fits p.kind (length p.lengths) (eqb-true p.kind 0 e)
      go false e = other_fits p.kind 2 (eqb-false p.kind 0 e) k.kind

  -- the next one begins behind it
  pdo-next : next_pdo s at ≡ at + length (pdo_bytes p)
  pdo-next = omega (arith, count-read)

-- all of them are read, one behind the other
pub pdos-read : {s : List ℕ} (ps : List Pdo) (at : ℕ) → Each KeepsPdo ps → Stands s at (pdos_bytes ps) → pdos_from s (length ps) at ≡ ps
unfolding pdos_from flat
pdos-read [] at each h = refl
pdos-read {s} (p ∷ ps) at each h =
    let here = first-stands (pdo_bytes p) (pdos_bytes ps) h in
    let rest = pdos-read ps (next_pdo s at) each.1 (second-stands (pdo_bytes p) (pdos_bytes ps) (pdo-next p each.0 here) h) in
    λ i. pdo-read p each.0 here i ∷ rest i

-- and each fits, where the sheet ends with the last
pub pdos-fit : {s : List ℕ} (ps : List Pdo) (at : ℕ) → Each KeepsPdo ps → Stands s at (pdos_bytes ps) → at + length (pdos_bytes ps) ≡ length s → pdos_fit s (length ps) at ≡ true
unfolding pdos_fit flat
pdos-fit {s} [] at each h e = eq-eqb at (length s) (omega arith)
pdos-fit {s} (p ∷ ps) at each h e =
    let here = first-stands (pdo_bytes p) (pdos_bytes ps) h in
    let next = pdo-next p each.0 here in
    let l = length-append (pdo_bytes p) (pdos_bytes ps) in
    let rest = pdos-fit ps (next_pdo s at) each.1 (second-stands (pdo_bytes p) (pdos_bytes ps) next h) (omega arith) in
    λ i. (le-leb (next_pdo s at) (length s) (omega arith) i && pdo-fits p each.0 here i) && rest i
