-- What the code stores, part by part, as the record has it: it only mirrors the code. What is meant is said in Form.
-- Assumes nothing.
use Rattle.std.specs.Prelude.{List, ◌++◌, map, ℕ, ◌-◌, take}
use Rattle.area.specs.Area.{flat}
use Rattle.sheet.specs.declared.SyncManager.{SyncManager}
use Rattle.sheet.specs.declared.Device.{Device}
use Rattle.writer.specs.Form.{flags_byte, head_bytes, manager_bytes}

-- the head of a sheet of `total` bytes
abbrev pub head_laid : Device → ℕ → List ℕ
head_laid d total =
    head_bytes
    (total - 2)
    (flags_byte d.has_mailbox d.coe_protocol d.complete_access)
    d.receive_size.0
    d.send_size.0
    d.n
    d.f
    d.p

-- the first n sync managers
abbrev pub managers_laid : List SyncManager → ℕ → List ℕ
managers_laid list n = flat (map manager_bytes (take n list))

-- head, sync managers, FMMU usages, PDO records
abbrev pub sheet_laid : Device → ℕ → List ℕ → List ℕ
sheet_laid d total records = head_laid d total ++ (managers_laid d.managers d.n ++ (take d.f d.usages ++ records))
