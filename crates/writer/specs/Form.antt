-- The sheet of device data (document 01, 'The device sheet', big-endian): its bytes in their order.
-- Assumes nothing.
use Rattle.std.specs.Prelude.{Bool, cond, List, [], ◌∷◌, ◌++◌, map, ℕ, ◌+◌, ◌*◌, length, get_or, eqb}
use Rattle.wire.specs.Field.{bit}
use Rattle.wire.specs.Number.{big_of}
use Rattle.area.specs.Area.{flat}
use Rattle.channel_bytes.specs.Bytes.{control_byte}
use Rattle.sheet.specs.declared.SyncManager.{SyncManager}
use Rattle.sheet.specs.Device.{Pdo, Data}

-- 3: flags: bit 0 has a mailbox, bit 1 CoE among the protocols, bit 2 complete access, others 0
abbrev pub flags_byte : Bool → Bool → Bool → ℕ
flags_byte mailbox protocol complete = bit mailbox + 2 * bit protocol + 4 * bit complete

-- 0-1: L; 2: version, 1; 3: flags; 4-5 receive size; 6-7 send size; 8: n sync managers; 9: f FMMU usages; 10: p PDOs
abbrev pub head_bytes : (follow flags receive send n f p : ℕ) → List ℕ
head_bytes follow flags receive send n f p = big_of 2 follow ++ (1 ∷ flags ∷ (big_of 2 receive ++ (big_of 2 send ++ (n ∷ f ∷ p ∷ []))))

-- a sync manager: start address (2), control, EEPROM enable (bit 0 is ENABLE, others 0), usage
abbrev pub manager_bytes : SyncManager → List ℕ
manager_bytes m = big_of 2 m.start_addr ++ (control_byte m.control ∷ bit m.enable ∷ m.usage_type ∷ [])

-- count m, m bytes
abbrev pub counted : List ℕ → List ℕ
counted l = length l ∷ l

-- a PDO: kind, sync manager number, PDO index (2), count m, m bytes
-- kind 0 holds m mapping bit lengths; kinds 1 and 2 have m = 2 and one 16-bit bit length
abbrev pub pdo_bytes : Pdo → List ℕ
pdo_bytes p = p.kind ∷ p.manager ∷ (big_of 2 p.index ++ counted (cond (eqb p.kind 0) p.lengths (big_of 2 (get_or p.lengths 0 0))))

-- then n times 5 bytes, then f bytes, then p PDOs
unfoldable pub body_bytes : Data → List ℕ
body_bytes x = flat (map manager_bytes x.managers) ++ (x.usages ++ flat (map pdo_bytes x.pdos))

-- L is how many bytes follow it: nine more of the head, and the rest
unfoldable pub sheet_of : Data → List ℕ
sheet_of x =
    head_bytes
    (9 + length (body_bytes x))
    (flags_byte x.mailbox x.coe_protocol x.complete)
    x.receive
    x.send
    (length x.managers)
    (length x.usages)
    (length x.pdos)
    ++ body_bytes x
