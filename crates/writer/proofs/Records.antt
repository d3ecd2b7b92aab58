-- PDO records that stand to a list's end, each kind going with its count: they are the bytes of the PDOs read there, and those PDOs have a sheet.
-- Assumes nothing.
use mathlib.Core.Path.{◌≡◌, refl, sym, ◌∙◌, ap, ap₂}
use mathlib.Core.Bool.{Bool, true, false, cond}
use mathlib.Core.List.{List, [], ◌∷◌, ◌++◌, map, append_assoc}
use Prim.Native.Nat.{ℕ, zero, suc, ◌+◌, ◌≤◌}
use native.Mathlib.Nat.{add-zero}
use native.Mathlib.Omega.{arith}
use lib.ListN.{length, get_or, drop, drop_of_length-le}
use lib.Dec.{eqb}
use borrow.Author.Tests.{eq-eqb, ne_eqb, eqb-true, eqb-false}
use Rattle.wire.specs.Image.{Bytes}
use Rattle.wire.specs.Lists.{list_of, Each}
use Rattle.wire.specs.Number.{big_at, big_of}
use Rattle.wire.proofs.Bytes.{big-fits}
use Rattle.wire.proofs.Numbers.{big-back}
use Rattle.area.specs.Area.{flat}
use Rattle.sheet.specs.Device.{next_pdo, pdo_at, pdos_from}
use Rattle.sheet.specs.Sheet.{kind_fits, pdos_fit}
use Rattle.sheet.proofs.Sound.{fits_on, fits-two}
use Rattle.writer.specs.Form.{pdo_bytes}
use Rattle.writer.proofs.Keeps.{KeepsPdo}
use Rattle.writer.proofs.From.{from, from-length, from_bytes, stands}

-- one record
module _ (l : List ℕ) (at : ℕ) (h : Bytes l) (kind : kind_fits (get_or l at 0) (get_or l (at + 4) 0) ≡ true) where
  abbrev count : ℕ
  count = get_or l (at + 4) 0

  -- its bit lengths, and the bytes after its head, by whether it is of kind 0
  abbrev lengths : Bool → List ℕ
  lengths many = cond many (from l (at + 5) count) (big_at l (at + 5) 2 ∷ [])

  abbrev held : Bool → List ℕ
  held many = cond many (lengths many) (big_of 2 (get_or (lengths many) 0 0))

  -- which are as many as its count says
  held-is : held (eqb (get_or l at 0) 0) ≡ from l (at + 5) count
  unfolding list_of
  held-is = go (eqb (get_or l at 0) 0) (eqb-false (get_or l at 0) 0)
    where
      go : (b : Bool) → (b ≡ false → get_or l at 0 ≡ 0 → ⊥) → held b ≡ from l (at + 5) count
      go true n = refl
      go false n =
          big-back (at + 5) h
          ∙ ap (λ (x : ℕ). get_or l x 0 ∷ get_or l (at + 5 + 1) 0 ∷ []) (sym (add-zero (at + 5)))
          ∙ ap (from l (at + 5)) (sym (fits-two (get_or l at 0) count kind (n refl)).1)

  -- its bytes: its head, and those
  record_is : pdo_bytes (pdo_at l at) ≡ from l at 5 ++ from l (at + 5) count
  unfolding list_of
  record_is =
      let third : at + 2 + 1 ≡ at + 3 = omega arith in
      let index = big-back (at + 2) h ∙ ap (λ (x : ℕ). get_or l (at + 2) 0 ∷ get_or l x 0 ∷ []) third in
      let long : length (held (eqb (get_or l at 0) 0)) ≡ count = ap length held-is ∙ from-length l (at + 5) count in
      λ i. get_or l (sym (add-zero at) i) 0 ∷ get_or l (at + 1) 0 ∷ (index i ++ (long i ∷ held-is i))

  -- its PDO has a sheet
  record-keeps : KeepsPdo (pdo_at l at)
  record-keeps =
      record {
        kind = go (eqb (get_or l at 0) 0) (eqb-true (get_or l at 0) 0) (eqb-false (get_or l at 0) 0);
        manager = h.below (at + 1);
        index = big-fits (at + 2) h;
        many = λ e. rw (eq-eqb (get_or l at 0) 0 e) (let n = from-length l (at + 5) count in let m = h.below (at + 4) in omega arith, from_bytes l (at + 5) count h);
        one = λ n. rw (ne_eqb (get_or l at 0) 0 n) (refl, big-fits (at + 5) h);
      }
    where
      go : (b : Bool) → (b ≡ true → get_or l at 0 ≡ 0) → (b ≡ false → get_or l at 0 ≡ 0 → ⊥) → get_or l at 0 ≤ 2
      go true y n = let z = y refl in omega arith
      go false y n = (fits-two (get_or l at 0) count kind (n refl)).0

-- PDO records that stand to a list's end are the bytes of the PDOs that are read there
pub fit-bytes : (l : List ℕ) (p at : ℕ) → Bytes l → pdos_fit l p at ≡ true → flat (map pdo_bytes (pdos_from l p at)) ≡ drop at l
unfolding flat pdos_from pdos_fit
fit-bytes l zero at h e = sym (drop_of_length-le l {i = at} (let z = eqb-true at (length l) e in omega arith))
fit-bytes l (suc p) at h e =
    let f = fits_on l p at e in
    let m = get_or l (at + 4) 0 in
    ap₂ (λ (x y : List ℕ). x ++ y) (record_is l at h f.kind) (fit-bytes l p (next_pdo l at) h f.others)
    ∙ append_assoc (from l at 5) (from l (at + 5) m) (drop (next_pdo l at) l)
    ∙ ap (λ (x : List ℕ). from l at 5 ++ x) (stands l (at + 5) m f.within)
    ∙ stands l at 5 (let w = f.within in omega arith)

-- and those PDOs have a sheet
pub fit-keeps : (l : List ℕ) (p at : ℕ) → Bytes l → pdos_fit l p at ≡ true → Each KeepsPdo (pdos_from l p at)
unfolding pdos_from
fit-keeps l zero at h e = tt
fit-keeps l (suc p) at h e =
    let f = fits_on l p at e in
    (record-keeps l at h f.kind, fit-keeps l p (next_pdo l at) h f.others)
