-- The PDO records of a sheet that keeps the rules: each lies within the bytes, and its own bits fit 16 bits.
-- Assumes nothing.
use mathlib.Core.Path.{◌≡◌, refl, ap}
use mathlib.Core.Bool.{Bool, true, false, ◌&&◌, ◌||◌, false≢true}
use mathlib.Core.List.{List}
use Prim.Native.Nat.{ℕ, zero, suc, ◌+◌, ◌≤◌}
use native.Mathlib.Omega.{arith}
use lib.ListN.{length, get_or}
use lib.Dec.{eqb, leb}
use borrow.Author.Tests.{eqb-true, leb-true}
use Rattle.sheet.specs.Device.{next_pdo, pdos_from}
use Rattle.sheet.specs.Sheet.{kind_fits, pdos_fit}

-- as many PDOs as were asked for
pub length-pdos : (s : List ℕ) (p at : ℕ) → length (pdos_from s p at) ≡ p
unfolding pdos_from
length-pdos s zero at = refl
length-pdos s (suc p) at = ap suc (length-pdos s p (next_pdo s at))

-- a record that fits: it ends within the bytes, its kind goes with its count, and the others fit
pub record Fits (s : List ℕ) (left at : ℕ) : Type 0 where
  pub within : next_pdo s at ≤ length s
  pub kind : kind_fits (get_or s at 0) (get_or s (at + 4) 0) ≡ true
  pub others : pdos_fit s left (next_pdo s at) ≡ true

pub fits_on : (s : List ℕ) (left at : ℕ) → pdos_fit s (suc left) at ≡ true → Fits s left at
unfolding pdos_fit
fits_on s left at e = go (leb (next_pdo s at) (length s)) (kind_fits (get_or s at 0) (get_or s (at + 4) 0)) (pdos_fit s left (next_pdo s at)) refl refl refl e
  where
    go :
        (a b c : Bool) → leb (next_pdo s at) (length s) ≡ a → kind_fits (get_or s at 0) (get_or s (at + 4) 0) ≡ b → pdos_fit s left (next_pdo s at) ≡ c
        → (a && b) && c ≡ true → Fits s left at
    go true true true p q r h = record { within = leb-true (next_pdo s at) (length s) p; kind = q; others = r }
    go true true false p q r h = absurd (false≢true h)
    go true false c p q r h = absurd (false≢true h)
    go false b c p q r h = absurd (false≢true h)

-- kinds 1 and 2 have two bytes
pub fits-two : (kind m : ℕ) → kind_fits kind m ≡ true → (kind ≡ 0 → ⊥) → (kind ≤ 2) × (m ≡ 2)
unfolding kind_fits
fits-two kind m e n = go (eqb kind 0) (eqb kind 1) (eqb kind 2) (eqb m 2) (eqb-true kind 0) (eqb-true kind 1) (eqb-true kind 2) (eqb-true m 2) e
  where
    go :
        (a b c d : Bool) → (a ≡ true → kind ≡ 0) → (b ≡ true → kind ≡ 1) → (c ≡ true → kind ≡ 2) → (d ≡ true → m ≡ 2) → a || ((b || c) && d) ≡ true
        → (kind ≤ 2) × (m ≡ 2)
    go true b c d p q r t h = absurd (n (p refl))
    go false true c true p q r t h = let z = q refl in (omega arith, t refl)
    go false false true true p q r t h = let z = r refl in (omega arith, t refl)
    go false true c false p q r t h = absurd (false≢true h)
    go false false true false p q r t h = absurd (false≢true h)
    go false false false d p q r t h = absurd (false≢true h)
