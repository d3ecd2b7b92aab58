-- An array of 255 ones, filled from a table, gives the exact bits of the table's multipliers; and a table of no records is the empty one.
-- Assumes nothing.
use mathlib.Core.Path.{◌≡◌, ◌∙◌, ap}
use mathlib.Core.List.{List, [], ◌∷◌}
use Prim.Native.Nat.{ℕ}
use native.Mathlib.Omega.{arith}
use lib.ListN.{length, replicate}
use Rattle.wire.specs.Image.{Bytes}
use Rattle.wire.specs.Room.{over}
use Rattle.sheet.specs.Sheet.{sheet_data}
use Rattle.pdo.specs.declared.Oversampling.{Oversampling}
use Rattle.pdo.specs.Bits.{multipliers_of, bits_of}
use Rattle.pdo.proofs.Lacking.{SameBits, bits_none}
use Rattle.oversampling.proofs.Made.{made}

-- a table of no records multiplies by 1, as a list that has none
pub unmultiplied : (t : List Oversampling) (s : List ℕ) → length t ≡ 0 → SameBits (sheet_data s).pdos [] (multipliers_of t (sheet_data s).pdos)
unmultiplied [] s h = bits_none (sheet_data s).pdos
unmultiplied (r ∷ t) s h = absurd (omega arith)

abbrev pub Ones : List ℕ
Ones = replicate 255 1

-- what it holds once it is filled, and that it gives the exact bits of the table's multipliers
abbrev pub Filled : List Oversampling → List ℕ → List ℕ → Type 0
Filled t s ws = ws ≡ over (multipliers_of t (sheet_data s).pdos) Ones

pub fronted : (t : List Oversampling) (s ws : List ℕ) → Bytes s → Filled t s ws → SameBits (sheet_data s).pdos ws (multipliers_of t (sheet_data s).pdos)
fronted t s ws small e kind k = ap (bits_of kind k (sheet_data s).pdos) e ∙ made t s (small.below 10) kind k
