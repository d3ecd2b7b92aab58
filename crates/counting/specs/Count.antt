-- Counting through the sync managers (document 01, 'Counting').
-- Assumes nothing.
use Rattle.std.specs.Prelude.{cond, List, [], ◌∷◌, ◌++◌, ℕ, ◌+◌, ◌-◌}
use Rattle.std.specs.Prelude as std
use Rattle.std.proofs.Math.Option.{Option, none, some}
use Rattle.wire.specs.Outcome.{Outcome, refused, accepted, Refusal, when, decide, outcome_by}
use Rattle.wire.specs.declared.Reason.{Reason}
use Rattle.pdi.specs.Unit.{bytes_of}
use Rattle.pdi.specs.Offset.{past_end}
use Rattle.sheet.specs.Sheet.{sheet_refusals, sheet_data}
use Rattle.pdo.specs.declared.PdoDirection.{PdoDirection}
use Rattle.pdo.specs.Bits.{Piece, pieces_of}
use Rattle.passes.specs.Use.{size_of}
use Rattle.passes.specs.Pass.{wanted_refusals}
use Rattle.translation.specs.Translate.{within, named, reached_of}
use Rattle.counting.specs.declared.Position.{Position}

-- where an address is reached: the sync manager, the byte within it, and the device address, none if that is over 65,535
pub record Spot : Type 0 where
  pub manager : ℕ
  pub byte : ℕ
  pub device : Option ℕ

-- a sync manager's number, its sheet address and a byte: the device address is the sheet address plus that byte
abbrev pub spot_at : ℕ → ℕ → ℕ → Spot
spot_at number address byte = record { manager = number; byte = byte; device = named (address + byte) }

-- the sizes laid one after another from the offset, each rounded up by itself, whatever entry it uses; none outside
unfoldable pub spot_in : ℕ → List Piece → ℕ → Option Spot
spot_in offset [] a = none
spot_in offset (p ∷ ps) a =
    cond (within offset (bytes_of p.bits) a) (some (spot_at p.number p.address (a - offset))) (spot_in (offset + bytes_of p.bits) ps a)

-- the sheet's refusals, those that a call asks of the direction too, then 9
abbrev pub count_refusals : List ℕ → List ℕ → PdoDirection → ℕ → List Refusal
count_refusals sheet ws r offset =
    sheet_refusals sheet ++ (wanted_refusals (sheet_data sheet) ws r ++ (when 9 (past_end (offset + size_of (sheet_data sheet) ws r)) ∷ []))

-- counting; `ws` has a multiplier for each PDO, as for a call, `offset` is where the direction starts
unfoldable pub count : PdoDirection → ℕ → List ℕ → List ℕ → ℕ → Outcome (Option Spot)
count r a sheet ws offset = decide (count_refusals sheet ws r offset) (spot_in offset (pieces_of (sheet_data sheet) ws r) a)

-- the device address alone
abbrev pub device_in : Option Spot → Option ℕ
device_in none = none
device_in (some p) = p.device

abbrev pub device_alone : Outcome (Option Spot) → Outcome (Option ℕ)
device_alone (refused n) = refused n
device_alone (accepted p) = accepted (device_in p)

abbrev pub counted_address : PdoDirection → ℕ → List ℕ → List ℕ → ℕ → Outcome (Option ℕ)
counted_address r a sheet ws offset = device_alone (count r a sheet ws offset)

-- what an answer says: a position, if there is one, and what counting does
abbrev pub spot_of : Position → Spot
spot_of p = record { manager = p.sync_manager; byte = p.byte; device = reached_of p.device }

abbrev pub found_of : std.Option Position → Option Spot
found_of std.None = none
found_of (std.Some p) = some (spot_of p)

abbrev pub counted_of : std.Result (std.Option Position) Reason → Outcome (Option Spot)
counted_of r = outcome_by found_of r
