-- A multiplier that is lacking is 1, and what is left over counts nowhere.
-- Assumes nothing.
use mathlib.Core.Path.{◌≡◌, refl}
use mathlib.Core.Bool.{cond, ◌&&◌}
use mathlib.Core.List.{List, [], ◌∷◌, ◌++◌}
use Prim.Native.Nat.{ℕ, ◌+◌, ◌*◌}
use native.Mathlib.Omega.{arith}
use lib.ListN.{length}
use lib.Dec.{eqb}
use Rattle.wire.specs.Lists.{sum}
use Rattle.sheet.specs.Device.{Pdo}
use Rattle.pdo.specs.Bits.{multiplier_of, multipliers_of, bits_of}

-- by either list the PDOs give every sync manager the same exact bits
abbrev pub SameBits : List Pdo → List ℕ → List ℕ → Type 0
SameBits ps ws vs = (kind k : ℕ) → bits_of kind k ps ws ≡ bits_of kind k ps vs

-- what the first PDO adds, and what the others give
abbrev added : ℕ → ℕ → Pdo → ℕ → ℕ → ℕ
added kind k p w n = cond (eqb p.kind kind && eqb p.manager k) (sum p.lengths * w) 0 + n

-- a list that has none says what a table without records says
pub bits_none : (ps : List Pdo) → SameBits ps [] (multipliers_of [] ps)
unfolding bits_of multiplier_of
bits_none [] kind k = refl
bits_none (p ∷ ps) kind k = λ i. added kind k p 1 (bits_none ps kind k i)

-- a list that has enough of them says what its front says
pub bits-front : (ps : List Pdo) (ws rest : List ℕ) → length ws ≡ length ps → SameBits ps (ws ++ rest) ws
unfolding bits_of
bits-front [] ws rest h kind k = refl
bits-front (p ∷ ps) [] rest h kind k = absurd (omega arith)
bits-front (p ∷ ps) (w ∷ ws) rest h kind k = λ i. added kind k p w (bits-front ps ws rest (omega arith) kind k i)
