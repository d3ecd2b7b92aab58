-- Pairs that can't be planned by (document 02, 6/13): refusal 18, judged over both directions of the sheet with exact bits.
-- Assumes nothing.
use Rattle.std.specs.Prelude.{Bool, false, not, ◌&&◌, ◌||◌, List, [], ◌∷◌, ℕ, eqb, ltb, get_or}
use Rattle.wire.specs.Lists.{some_of, some_below}
use Rattle.sheet.specs.Device.{Data}
use Rattle.pdo.specs.declared.PdoDirection.TheVariants.{MasterRead, MasterWrite}
use Rattle.pdo.specs.Bits.{by_coe, pieces_of}
use Rattle.passes.specs.declared.FmmuMode.{FmmuMode}
use Rattle.passes.specs.declared.FmmuMode.TheVariants.{OwnNumber, Paired}
use Rattle.passes.specs.declared.Chosen.{Chosen}
use Rattle.passes.specs.Use.{Use, paired}

-- a number above 15: of a pair, or among the entries, where no list gives one without the other
abbrev pub number_above : Chosen → Bool
number_above c = c.above || some_below (λ k. ltb 15 (get_or c.entries k 0)) 16

-- one of the uses is on the entry
abbrev pub some_on : ℕ → List Use → Bool
some_on k us = some_of (λ (u : Use). eqb u.entry k) us

-- one of the uses is on another entry, and one after it on this
abbrev pub comes_back : ℕ → List Use → Bool
comes_back k [] = false
comes_back k (u ∷ us) = (not (eqb u.entry k) && some_on k us) || comes_back k us

-- two of the uses are on the entry, and between them one on another
abbrev pub interrupted : ℕ → List Use → Bool
interrupted k [] = false
interrupted k (u ∷ us) = (eqb u.entry k && comes_back k us) || interrupted k us

-- an entry shared by nonempty sync managers of both directions
abbrev pub shared_by_both : List Use → List Use → ℕ → Bool
shared_by_both us vs k = some_on k us && some_on k vs

-- or by two with a nonempty one of their direction on another entry between them
abbrev pub one_between : List Use → List Use → ℕ → Bool
one_between us vs k = interrupted k us || interrupted k vs

abbrev pub bad_entry : List Use → List Use → ℕ → Bool
bad_entry us vs k = shared_by_both us vs k || one_between us vs k

-- a pair number above 15, or one of sixteen entries that is bad; never by own numbers or on the CoE path, which leave the pairs unread
abbrev pub bad_by : (List Use → List Use → ℕ → Bool) → FmmuMode → Chosen → Data → List ℕ → Bool
bad_by bad OwnNumber c d ws = false
bad_by bad Paired c d ws = not (by_coe d) && (number_above c || some_below (bad (paired c (pieces_of d ws MasterRead)) (paired c (pieces_of d ws MasterWrite))) 16)

-- 18
unfoldable pub bad_pairs : FmmuMode → Chosen → Data → List ℕ → Bool
bad_pairs mode c d ws = bad_by bad_entry mode c d ws
