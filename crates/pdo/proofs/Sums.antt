-- The exact bits over the PDO records of a sheet: a turn of a walk over them, and its end.
-- Assumes nothing.
use mathlib.Core.Path.{◌≡◌, refl}
use mathlib.Core.Bool.{cond, ◌&&◌}
use mathlib.Core.List.{List, [], ◌∷◌}
use Prim.Native.Nat.{ℕ, zero, suc, ◌+◌, ◌*◌}
use native.Mathlib.Numerals.{add-one}
use lib.ListN.{get_or, drop}
use lib.Dec.{eqb}
use Rattle.wire.specs.Lists.{sum}
use Rattle.sheet.specs.Device.{pdo_at, next_pdo, pdos_from}
use Rattle.pdo.specs.Bits.{first_of, others_of, bits_of}

-- the multipliers from number i on
first-drop : (ws : List ℕ) (i : ℕ) → first_of (drop i ws) ≡ get_or ws i 1
first-drop [] zero = refl
first-drop [] (suc i) = refl
first-drop (w ∷ ws) zero = refl
first-drop (w ∷ ws) (suc i) = first-drop ws i

others-drop : (ws : List ℕ) (i : ℕ) → others_of (drop i ws) ≡ drop (suc i) ws
others-drop [] zero = refl
others-drop [] (suc i) = refl
others-drop (w ∷ ws) zero = refl
others-drop (w ∷ ws) (suc i) = others-drop ws i

-- the first record, and the others
pub bits-turn :
    (s ws : List ℕ) (kind k left more place next i : ℕ) → left ≡ suc more → next ≡ next_pdo s place
    → bits_of kind k (pdos_from s left place) (drop i ws)
    ≡ cond (eqb (get_or s place 0) kind && eqb (get_or s (place + 1) 0) k) (sum (pdo_at s place).lengths * get_or ws i 1) 0
    + bits_of kind k (pdos_from s more next) (drop (i + 1) ws)
unfolding bits_of pdos_from
bits-turn s ws kind k left more place next i h e = rw (h, e, add-one i, first-drop, others-drop)

-- none is left
pub bits-end : (s ws : List ℕ) (kind k left place : ℕ) → left ≡ 0 → bits_of kind k (pdos_from s left place) ws ≡ 0
unfolding bits_of pdos_from
bits-end s ws kind k left place h = rw h
