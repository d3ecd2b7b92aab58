-- A PDO record as code reads it: its bits, and their bound.
-- Assumes nothing.
use mathlib.Core.Path.{◌≡◌, sym, ◌∙◌}
use mathlib.Core.List.{List, [], ◌∷◌}
use Prim.Native.Nat.{ℕ, ◌+◌, ◌*◌, ◌≤◌}
use native.Mathlib.Nat.{mul-le-mul}
use native.Mathlib.Omega.{arith}
use lib.ListN.{get_or}
use borrow.Author.Tests.{eq-eqb, ne_eqb}
use Rattle.wire.specs.Number.{big_at}
use Rattle.wire.specs.Lists.{list_of, sum}
use Rattle.sheet.specs.Device.{pdo_at}

-- kind 0: m mapping bit lengths
pub bits-coe :
    (s : List ℕ) (at kind m r : ℕ) → kind ≡ get_or s at 0 → kind ≡ 0 → m ≡ get_or s (at + 4) 0 → r ≡ sum (list_of (λ k. get_or s (at + 5 + k) 0) m)
    → r ≡ sum (pdo_at s at).lengths
bits-coe s at kind m r ek z em e = rw (eq-eqb (get_or s at 0) 0 (sym ek ∙ z), ← em) e

-- the others: one 16-bit bit length
pub bits-eeprom :
    (s : List ℕ) (at kind a b r : ℕ) → kind ≡ get_or s at 0 → (kind ≡ 0 → ⊥) → a ≡ get_or s (at + 5) 0 → b ≡ get_or s (at + 6) 0 → r ≡ big_at (a ∷ b ∷ []) 0 2
    → r ≡ sum (pdo_at s at).lengths
bits-eeprom s at kind a b r ek z ea eb e =
    let six : at + 5 + 1 ≡ at + 6 = omega arith in
    rw (ne_eqb (get_or s at 0) 0 (λ y. z (ek ∙ y)), six, ← ea, ← eb) (omega arith)

-- a PDO's own bits fit 16 bits, a multiplier 8
pub product-bounded : (r w : ℕ) → r ≤ 65535 → w ≤ 255 → r * w ≤ 16711425
product-bounded r w a b = mul-le-mul a b
