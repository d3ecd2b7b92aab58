-- Sizes from exact bits, 7 of a direction, and what is wanted on either path.
-- Assumes nothing.
use Rattle.std.specs.Prelude.{Bool, false, not, ◌&&◌, List, [], ◌∷◌, ◌++◌, ℕ, ◌-◌, Option, Some, None, cond, length, replicate, eqb, ltb}
use Rattle.wire.specs.Lists.{list_of, some_below}
use Rattle.wire.specs.Outcome.{Outcome, when, decide}
use Rattle.pdi.specs.Unit.{bytes_of, too_many_bits}
use Rattle.pdi.specs.declared.BitLen.{BitLen}
use Rattle.pdi.specs.declared.ByteLen.{ByteLen}
use Rattle.sheet.specs.Device.{Data}
use Rattle.sheet.specs.declared.SyncManager.{SyncManager}
use Rattle.channels.specs.Channels.{size_at}
use Rattle.pdo.specs.declared.PdoDirection.{PdoDirection}
use Rattle.pdo.specs.declared.PdoDirection.TheVariants.{MasterRead, MasterWrite}
use Rattle.pdo.specs.Direction.{usage_of}
use Rattle.passes.specs.declared.FmmuMode.{FmmuMode}
use Rattle.passes.specs.declared.FmmuMode.TheVariants.{OwnNumber, Paired}
use Rattle.passes.specs.declared.Chosen.{Chosen}
use Rattle.passes.specs.declared.Route.{Route}
use Rattle.passes.specs.declared.Route.TheVariants.{Given}
use Rattle.passes.specs.declared.Wanted.{Wanted}
use Rattle.passes.specs.Use.{first_with, coe_entry}
use Rattle.passes.specs.Start.{of_either}
use Rattle.passes.specs.Handed.{has_usage, route_by}
use Rattle.wanted.specs.ByKind.{bit_at}

-- the first n of sixteen rounded up, each by itself, or 6
abbrev pub rounded_in : ℕ → List BitLen → Outcome (List ByteLen)
rounded_in n bits =
    decide (when 6 (some_below (λ k. too_many_bits (bit_at bits k)) n) ∷ []) (list_of (λ k. record { 0 = bytes_of (bit_at bits k) }) n ++ replicate (16 - n) (record { 0 = 0 }))

-- some sync manager of the usage has a size above 0
unfoldable pub some_size : List SyncManager → ℕ → List ByteLen → Bool
some_size ms usage sizes = some_below (λ k. has_usage usage ms k && ltb 0 (size_at sizes k)) (length ms)

-- the place of the first entry with the usage, if there is one
abbrev pub first_place : ℕ → List ℕ → Option ℕ
first_place usage us = cond (ltb (first_with usage us) (length us)) (Some (first_with usage us)) None

-- 7 of a direction, on the CoE path: by an entry that is handed on, and by the one that the sheet has
abbrev pub lacks_at : Data → List ByteLen → PdoDirection → ℕ → Bool
lacks_at d sizes r entry = eqb entry (length d.usages) && some_size d.managers (usage_of r) sizes

abbrev pub lacks_entry : Data → List ByteLen → PdoDirection → Bool
lacks_entry d sizes r = lacks_at d sizes r (coe_entry d r)

-- the pairs are read
abbrev pub pairs_read : Bool → FmmuMode → Bool
pairs_read path OwnNumber = false
pairs_read path Paired = not path

-- what is wanted by EEPROM; the CoE path's route on one entry; what is wanted on it, or 7
abbrev pub eeprom_wants : FmmuMode → Chosen → List ByteLen → Wanted
eeprom_wants mode c sizes = record { sizes = sizes; routes = record { inputs = route_by mode c; outputs = route_by mode c } }

abbrev pub coe_route : Data → PdoDirection → Route
coe_route d r = Given (replicate 16 (coe_entry d r))

abbrev pub coe_wants : Data → List ByteLen → Outcome Wanted
coe_wants d sizes =
    decide (when 7 (of_either (lacks_entry d sizes)) ∷ []) (record { sizes = sizes; routes = record { inputs = coe_route d MasterRead; outputs = coe_route d MasterWrite } })
