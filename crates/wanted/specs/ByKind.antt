-- What a call and counting want as code goes: by the path, over both directions.
-- Assumes nothing.
use Rattle.std.specs.Prelude.{Bool, cond, ◌&&◌, List, ℕ, ◌+◌, length, get_or, eqb, ltb}
use Rattle.wire.specs.Lists.{list_of}
use Rattle.pdi.specs.declared.BitLen.{BitLen}
use Rattle.sheet.specs.Sheet.{no_manager, sheet_data}
use Rattle.sheet.specs.declared.SyncManager.{SyncManager}
use Rattle.pdo.specs.declared.PdoDirection.{PdoDirection}
use Rattle.pdo.specs.declared.PdoDirection.TheVariants.{MasterRead, MasterWrite}
use Rattle.pdo.specs.Direction.{usage_of, kind_of, is_data}
use Rattle.pdo.specs.Bits.{bits_of}
use Rattle.passes.specs.Handed.{has_usage}

-- the kind of PDO that counts for a sync manager of a usage with process data: 0 on the CoE path, else its direction's
abbrev pub kind_for : Bool → ℕ → ℕ
kind_for path usage = cond path 0 (cond (eqb usage (usage_of MasterRead)) (kind_of MasterRead) (kind_of MasterWrite))

-- the usage of a number, whether it is there and has process data, and whether a PDO of a kind that names it counts
abbrev pub usage_at : List SyncManager → ℕ → ℕ
usage_at ms k = (get_or ms k no_manager).usage_type

abbrev pub has_data : List SyncManager → ℕ → Bool
has_data ms k = ltb k (length ms) && is_data (usage_at ms k)

abbrev pub counted : List SyncManager → Bool → ℕ → ℕ → Bool
counted ms path kind k = has_data ms k && eqb kind (kind_for path (usage_at ms k))

-- the exact bits of a number in a direction, in both (no number is of both), and of all sixteen
abbrev pub bits_for : List ℕ → Bool → PdoDirection → List ℕ → ℕ → ℕ
bits_for sheet path r ws k = cond (has_usage (usage_of r) (sheet_data sheet).managers k) (bits_of (cond path 0 (kind_of r)) k (sheet_data sheet).pdos ws) 0

abbrev pub bits_at : List ℕ → Bool → List ℕ → ℕ → ℕ
bits_at sheet path ws k = bits_for sheet path MasterRead ws k + bits_for sheet path MasterWrite ws k

abbrev pub bits_in : List ℕ → Bool → List ℕ → List BitLen
bits_in sheet path ws = list_of (λ k. record { 0 = bits_at sheet path ws k }) 16

-- the bits of a number in a list of sixteen; of those of a usage alone
abbrev pub no_bits : BitLen
no_bits = record { 0 = 0 }

abbrev pub bit_at : List BitLen → ℕ → ℕ
bit_at bits k = (get_or bits k no_bits).0

abbrev pub of_usage : List SyncManager → ℕ → List BitLen → List BitLen
of_usage ms usage bits = list_of (λ k. record { 0 = cond (has_usage usage ms k) (bit_at bits k) 0 }) 16
