-- Which sync manager uses which entry, by the path, the mode and what pairs chose.
-- Assumes nothing.
use Rattle.std.specs.Prelude.{Bool, false, cond, ◌||◌, List, [], ◌∷◌, ℕ, zero, suc, ◌+◌, eqb, ltb, get_or, replicate}
use Rattle.wire.specs.Lists.{list_of, some_of}
use Rattle.pdi.specs.Unit.{bytes_of}
use Rattle.sheet.specs.Device.{Data}
use Rattle.pdo.specs.declared.PdoDirection.{PdoDirection}
use Rattle.pdo.specs.Direction.{fmmu_usage_of}
use Rattle.pdo.specs.Bits.{Piece, by_coe, pieces_of}
use Rattle.passes.specs.declared.FmmuPair.{FmmuPair}
use Rattle.passes.specs.declared.FmmuMode.{FmmuMode}
use Rattle.passes.specs.declared.FmmuMode.TheVariants.{OwnNumber, Paired}
use Rattle.passes.specs.declared.Chosen.{Chosen}

-- a sync manager that is laid: the entry that it uses, its size in bytes, its device address
pub record Use : Type 0 where
  pub entry : ℕ
  pub size : ℕ
  pub at : ℕ

-- each rounded up by itself
abbrev pub use_of : ℕ → Piece → Use
use_of k p = record { entry = k; size = bytes_of p.bits; at = p.address }

-- EEPROM: the entry with its own number, even at 0 bits
unfoldable pub own : List Piece → List Use
own [] = []
own (p ∷ ps) = use_of p.number p ∷ own ps

-- with more than 0 bits, the entry that is given for its number
unfoldable pub given : (ℕ → ℕ) → List Piece → List Use
given entry [] = []
given entry (p ∷ ps) = cond (ltb 0 p.bits) (use_of (entry p.number) p ∷ given entry ps) (given entry ps)

-- the place of the first entry with the usage; the list's length where there is none
unfoldable pub first_with : ℕ → List ℕ → ℕ
first_with usage [] = zero
first_with usage (u ∷ us) = cond (eqb u usage) zero (suc (first_with usage us))

abbrev pub coe_entry : Data → PdoDirection → ℕ
coe_entry d r = first_with (fmmu_usage_of r) d.usages

-- the first pair for a sync manager decides; none means its own number (document 02, 6/13)
unfoldable pub entry_for : List FmmuPair → ℕ → ℕ
entry_for [] number = number
entry_for (p ∷ ps) number = cond (eqb p.sync_manager number) p.fmmu (entry_for ps number)

-- a pair number above 15
abbrev pub past_last : FmmuPair → Bool
past_last p = ltb 15 p.fmmu || ltb 15 p.sync_manager

-- what a list of pairs hands on: sixteen entry numbers, and whether a number is above 15
abbrev pub chosen_of : List FmmuPair → Chosen
chosen_of ps = record { entries = list_of (entry_for ps) 16; above = some_of past_last ps }

-- nothing is handed on
abbrev pub nothing_chosen : Chosen
nothing_chosen = record { entries = replicate 16 0; above = false }

-- by own numbers the list isn't read
abbrev pub chosen_by : FmmuMode → List FmmuPair → Chosen
chosen_by OwnNumber ps = nothing_chosen
chosen_by Paired ps = chosen_of ps

-- by pairs: with more than 0 bits the entry that was chosen for its number
abbrev pub paired : Chosen → List Piece → List Use
paired c ps = given (λ number. get_or c.entries number 0) ps

-- EEPROM, by mode
abbrev pub by_mode : FmmuMode → Chosen → List Piece → List Use
by_mode OwnNumber c ps = own ps
by_mode Paired c ps = paired c ps

-- CoE: with more than 0 bits the first entry with the wanted usage, whatever pairs there are
unfoldable pub uses_of : FmmuMode → Chosen → Data → List ℕ → PdoDirection → List Use
uses_of mode c d ws r = cond (by_coe d) (given (λ number. coe_entry d r) (pieces_of d ws r)) (by_mode mode c (pieces_of d ws r))

-- the bytes of all; and those on the entry k
unfoldable pub total : List Use → ℕ
total [] = 0
total (u ∷ us) = u.size + total us

unfoldable pub total_on : ℕ → List Use → ℕ
total_on k [] = 0
total_on k (u ∷ us) = cond (eqb u.entry k) u.size 0 + total_on k us

-- the rounded bytes of all wanted sync managers, whatever entries they use
unfoldable pub size_of : Data → List ℕ → PdoDirection → ℕ
size_of d ws r = total (own (pieces_of d ws r))
