-- The rules of the device sheet (document 01, 'The device sheet'), after its length: where its parts stand, and refusals 3 and 4.
-- Assumes nothing.
use Rattle.std.specs.Prelude.{Bool, not, ◌&&◌, ◌||◌, List, ℕ, zero, suc, ◌+◌, ◌*◌, length, get_or, eqb, ltb, leb}
use Rattle.wire.specs.Lists.{some_below}

-- 8: n sync managers; 9: f FMMU usages; 10: p PDOs
abbrev pub manager_count : List ℕ → ℕ
manager_count s = get_or s 8 0

abbrev pub usage_count : List ℕ → ℕ
usage_count s = get_or s 9 0

abbrev pub pdo_count : List ℕ → ℕ
pdo_count s = get_or s 10 0

-- then n times 5 bytes, then f bytes, then the PDOs
abbrev pub manager_place : ℕ → ℕ
manager_place k = 11 + 5 * k

abbrev pub usages_place : List ℕ → ℕ
usages_place s = 11 + 5 * manager_count s

abbrev pub pdos_place : List ℕ → ℕ
pdos_place s = usages_place s + usage_count s

-- a PDO: kind, sync manager number, PDO index (2), count m, m bytes; then the next one
abbrev pub next_pdo : List ℕ → ℕ → ℕ
next_pdo s at = at + 5 + get_or s (at + 4) 0

-- where the last of p of them ends
unfoldable pub pdos_end : List ℕ → ℕ → ℕ → ℕ
pdos_end s zero at = at
pdos_end s (suc p) at = pdos_end s p (next_pdo s at)

-- 3: the version isn't 1
abbrev pub wrong_version : List ℕ → Bool
wrong_version s = not (eqb (get_or s 2 0) 1)

-- 4: another sheet rule is broken. A PDO: kind 0, or kinds 1 and 2 with m = 2
unfoldable pub kind_fits : ℕ → ℕ → Bool
kind_fits kind m = eqb kind 0 || ((eqb kind 1 || eqb kind 2) && eqb m 2)

-- p of them from a place on, none past the end, and the sheet ends there
unfoldable pub pdos_fit : List ℕ → ℕ → ℕ → Bool
pdos_fit s zero at = eqb at (length s)
pdos_fit s (suc p) at = (leb (next_pdo s at) (length s) && kind_fits (get_or s at 0) (get_or s (at + 4) 0)) && pdos_fit s p (next_pdo s at)

-- a sync manager's usage is 0 to 4, an FMMU's 0 to 3
unfoldable pub some_manager_wrong : List ℕ → Bool
some_manager_wrong s = some_below (λ k. ltb 4 (get_or s (manager_place k + 4) 0)) (manager_count s)

unfoldable pub some_usage_wrong : List ℕ → Bool
some_usage_wrong s = some_below (λ k. ltb 3 (get_or s (usages_place s + k) 0)) (usage_count s)

-- flags above bit 2 are 0, at most 16 sync managers, at most 16 usages, both within the sheet, their values, the PDOs
unfoldable pub broken : List ℕ → Bool
broken s =
    ltb 7 (get_or s 3 0)
    || (ltb 16 (manager_count s)
    || (ltb 16 (usage_count s)
    || (ltb (length s) (pdos_place s)
    || (some_manager_wrong s
    || (some_usage_wrong s || not (pdos_fit s (pdo_count s) (pdos_place s)))))))
