-- What the parts of a call hand to one another: a size in bytes for each of sixteen numbers, and the routes.
-- Assumes nothing.
use Rattle.std.specs.Prelude.{◌≡◌, Bool, cond, ◌&&◌, List, [], ℕ, ◌+◌, ◌*◌, ◌<◌, ◌≤◌, length, get_or, replicate, eqb, ltb}
use Rattle.wire.specs.Lists.{list_of}
use Rattle.pdi.specs.Unit.{bytes_of}
use Rattle.pdi.specs.declared.ByteLen.{ByteLen}
use Rattle.sheet.specs.Device.{Data}
use Rattle.sheet.specs.Sheet.{no_manager}
use Rattle.sheet.specs.declared.SyncManager.{SyncManager}
use Rattle.pdo.specs.declared.PdoDirection.{PdoDirection}
use Rattle.pdo.specs.declared.PdoDirection.TheVariants.{MasterRead, MasterWrite}
use Rattle.pdo.specs.Direction.{usage_of}
use Rattle.pdo.specs.Bits.{Piece, by_coe, path_kind, bits_of, pieces_from}
use Rattle.channels.specs.Channels.{size_at}
use Rattle.passes.specs.Use.{Use, own, given, coe_entry}
use Rattle.passes.specs.Entries.{length_now}
use Rattle.passes.specs.declared.FmmuMode.{FmmuMode}
use Rattle.passes.specs.declared.FmmuMode.TheVariants.{OwnNumber, Paired}
use Rattle.passes.specs.declared.Chosen.{Chosen}
use Rattle.passes.specs.declared.Route.{Route}
use Rattle.passes.specs.declared.Route.TheVariants.{Own, Given}
use Rattle.passes.specs.declared.Wanted.{Wanted}

-- the sync manager with a number is there and has the usage
abbrev pub has_usage : ℕ → List SyncManager → ℕ → Bool
has_usage usage ms k = ltb k (length ms) && eqb (get_or ms k no_manager).usage_type usage

-- the exact bits of a number: of a sync manager that the direction wants, else 0
abbrev pub exact_bits : Data → List ℕ → PdoDirection → ℕ → ℕ
exact_bits d ws r k = cond (has_usage (usage_of r) d.managers k) (bits_of (path_kind d r) k d.pdos ws) 0

-- each rounded up by itself
abbrev pub sizes_of : Data → List ℕ → PdoDirection → List ByteLen
sizes_of d ws r = list_of (λ k. record { 0 = bytes_of (exact_bits d ws r k) }) 16

-- of both directions: no sync manager is of both
abbrev pub data_bits : Data → List ℕ → ℕ → ℕ
data_bits d ws k = exact_bits d ws MasterRead k + exact_bits d ws MasterWrite k

abbrev pub sizes_of_both : Data → List ℕ → List ByteLen
sizes_of_both d ws = list_of (λ k. record { 0 = bytes_of (data_bits d ws k) }) 16

-- the route of a mode on the EEPROM path
abbrev pub route_by : FmmuMode → Chosen → Route
route_by OwnNumber c = Own
route_by Paired c = Given c.entries

-- by CoE each number has the CoE entry
abbrev pub route_of : FmmuMode → Chosen → Data → PdoDirection → Route
route_of mode c d r = cond (by_coe d) (Given (replicate 16 (coe_entry d r))) (route_by mode c)

-- what a call wants of a sheet
abbrev pub wanted_from : FmmuMode → Chosen → Data → List ℕ → Wanted
wanted_from mode c d ws =
    record { sizes = sizes_of_both d ws; routes = record { inputs = route_of mode c d MasterRead; outputs = route_of mode c d MasterWrite } }

-- which of sixteen entries a number has
abbrev pub entry_by : List ℕ → ℕ → ℕ
entry_by entries number = get_or entries number 0

-- the sync managers of a usage with these sizes: pieces with eight bits for each byte
abbrev pub pieces_by : ℕ → List ByteLen → List SyncManager → List Piece
pieces_by usage sizes ms = pieces_from usage (λ k. 8 * size_at sizes k) 0 ms

-- their uses by a route
abbrev pub by_route : Route → List Piece → List Use
by_route Own ps = own ps
by_route (Given entries) ps = given (entry_by entries) ps

abbrev pub uses_by : Route → List ByteLen → PdoDirection → List SyncManager → List Use
uses_by route sizes r ms = by_route route (pieces_by (usage_of r) sizes ms)

-- of both directions
abbrev pub uses_by_both : Wanted → List SyncManager → PdoDirection → List Use
uses_by_both w ms MasterRead = uses_by w.routes.inputs w.sizes MasterRead ms
uses_by_both w ms MasterWrite = uses_by w.routes.outputs w.sizes MasterWrite ms

-- a use's own entry has no room for it; a number past the last one is no entry
abbrev pub no_room : Use → List (List ℕ) → Bool
no_room u entries = ltb u.entry 16 && ltb 65535 (length_now (get_or entries u.entry []) + u.size)

-- sixteen entries, none longer than its two bytes say
pub record Short (entries : List (List ℕ)) : Type 0 where
  pub many : length entries ≡ 16
  pub short : (k : ℕ) → k < 16 → length_now (get_or entries k []) ≤ 65535
