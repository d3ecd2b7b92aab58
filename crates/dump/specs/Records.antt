-- The records of the four categories that device data is made of (ETG2010), little-endian: FMMU (40), SyncM (41), TxPDO (50), RxPDO (51).
-- Assumes nothing.
use Rattle.std.specs.Prelude.{Bool, false, cond, ◌||◌, List, [], ◌∷◌, ◌++◌, map, ℕ, ◌+◌, ◌*◌, length, get_or, eqb, ltb}
use Rattle.wire.specs.Field.{flag_at}
use Rattle.wire.specs.Lists.{list_of, some_of, sum}
use Rattle.wire.specs.Number.{little_at}
use Rattle.channel_bytes.specs.Bytes.{control_at}
use Rattle.sheet.specs.declared.SyncManager.{SyncManager}
use Rattle.sheet.specs.Device.{Pdo}
use Rattle.dump.specs.Parts.{whole, parts_of, rest_of}
use Rattle.dump.specs.Categories.{type_of, content_of, how_many}

-- FMMU: each byte is a usage; 0xFF reads as unused
abbrev pub usage_for : ℕ → ℕ
usage_for b = cond (eqb b 255) 0 b

-- SyncM: eight bytes: start (2), length (2), control, status, enable (bit 0 is ENABLE, others ignored), type
abbrev pub manager_long : List ℕ → ℕ
manager_long l = whole 8 l

abbrev pub manager_for : List ℕ → SyncManager
manager_for r = record { start_addr = little_at r 0 2; control = control_at (get_or r 4 0); enable = flag_at (get_or r 6 0) 0; usage_type = get_or r 7 0 }

-- TxPDO, RxPDO: index (2), entries, sync manager, synchronisation, name, flags (2)
-- then for each entry: index (2), sub-index, name, type, bit length, flags (2)
abbrev pub pdo_long : List ℕ → ℕ
pdo_long l = whole (8 + 8 * get_or l 2 0) l

-- a PDO's bits are the sum of its entries'
abbrev pub bits_in : List ℕ → ℕ
bits_in r = sum (list_of (λ k. get_or r (8 + 8 * k + 5) 0) (get_or r 2 0))

abbrev pub pdo_for : ℕ → List ℕ → Pdo
pdo_for kind r = record { kind = kind; manager = get_or r 3 0; index = little_at r 0 2; lengths = bits_in r ∷ [] }

-- TxPDO holds kind 1, RxPDO kind 2; 0 says that a category holds no PDOs
abbrev pub kind_for : ℕ → ℕ
kind_for t = cond (eqb t 50) 1 (cond (eqb t 51) 2 0)

-- the PDOs of a category, and of categories in their order
abbrev pub pdos_for : ℕ → List ℕ → List Pdo
pdos_for kind l = cond (eqb kind 0) [] (map (pdo_for kind) (parts_of pdo_long l))

unfoldable pub pdos_in : List (List ℕ) → List Pdo
pdos_in [] = []
pdos_in (c ∷ cs) = pdos_for (kind_for (type_of c)) (content_of c) ++ pdos_in cs

-- something is there
abbrev pub nonempty : List ℕ → Bool
nonempty l = ltb 0 (length l)

-- 17: a category that isn't whole records: something stands behind the last one. FMMU's are always whole, and the others aren't looked into
abbrev pub not_whole : List ℕ → Bool
not_whole c =
    cond (eqb (type_of c) 41) (nonempty (rest_of manager_long (content_of c)))
    (cond (eqb (kind_for (type_of c)) 0) false (nonempty (rest_of pdo_long (content_of c))))

-- or a second one of these four types
abbrev pub second : List (List ℕ) → Bool
second cs = some_of (λ t. ltb 1 (how_many t cs)) (40 ∷ 41 ∷ 50 ∷ 51 ∷ [])

-- over all categories
unfoldable pub not_records : List (List ℕ) → Bool
not_records cs = some_of not_whole cs || second cs
