-- Direction read takes usage 4, FMMU usage 2 and EEPROM kind 1; write takes 3, 1 and 2.
-- Assumes nothing.
use Rattle.std.specs.Prelude.{Bool, true, false, ◌||◌, ℕ, eqb}
use Rattle.pdo.specs.declared.PdoDirection.{PdoDirection}
use Rattle.pdo.specs.declared.Terms.{Terms}
use Rattle.pdo.specs.declared.PdoDirection.TheVariants.{MasterRead, MasterWrite}

abbrev pub usage_of : PdoDirection → ℕ
usage_of MasterRead = 4
usage_of MasterWrite = 3

abbrev pub fmmu_usage_of : PdoDirection → ℕ
fmmu_usage_of MasterRead = 2
fmmu_usage_of MasterWrite = 1

abbrev pub kind_of : PdoDirection → ℕ
kind_of MasterRead = 1
kind_of MasterWrite = 2

-- a sync manager of the usage has process data, of either direction
abbrev pub is_data : ℕ → Bool
is_data usage = eqb usage (usage_of MasterRead) || eqb usage (usage_of MasterWrite)

-- the direction bit of an entry
abbrev pub is_read : PdoDirection → Bool
is_read MasterRead = true
is_read MasterWrite = false

abbrev pub is_write : PdoDirection → Bool
is_write MasterRead = false
is_write MasterWrite = true

abbrev pub other : PdoDirection → PdoDirection
other MasterRead = MasterWrite
other MasterWrite = MasterRead

-- all three together
abbrev pub terms_of : PdoDirection → Terms
terms_of r = record { usage = usage_of r; fmmu_usage = fmmu_usage_of r; kind = kind_of r }
