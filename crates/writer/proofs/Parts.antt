-- The parts of a sheet that was written: what its head says, and where the sync managers, the usages and the PDOs stand.
-- Assumes nothing.
use mathlib.Core.Path.{◌≡◌, refl}
use mathlib.Core.List.{List, ◌++◌, map}
use Prim.Native.Nat.{ℕ, ◌+◌}
use native.Mathlib.Omega.{arith}
use lib.ListN.{length, get_or, length-append}
use Rattle.wire.specs.Number.{big_at}
use Rattle.wire.proofs.Numbers.{big-joined}
use Rattle.area.specs.Area.{flat}
use Rattle.sheet.specs.declared.SyncManager.{SyncManager}
use Rattle.sheet.specs.Device.{Pdo, Data}
use Rattle.sheet.specs.Sheet.{manager_count, usage_count, pdo_count, usages_place, pdos_place}
use Rattle.writer.specs.Form.{flags_byte, head_bytes, manager_bytes, pdo_bytes, body_bytes, sheet_of}
use Rattle.writer.proofs.Keeps.{Keeps}
use Rattle.writer.proofs.Stored.{managers-long}
use Rattle.writer.proofs.Stands.{Stands, first-stands, second-stands, stands-behind}

-- the bytes of all sync managers, and of all PDOs
abbrev pub managers_bytes : List SyncManager → List ℕ
managers_bytes ms = flat (map manager_bytes ms)

abbrev pub pdos_bytes : List Pdo → List ℕ
pdos_bytes ps = flat (map pdo_bytes ps)

-- a sheet with these parts
pub record Parts (x : Data) (s : List ℕ) : Type 0 where
  pub long : length s ≡ 11 + length (body_bytes x)
  pub follow : big_at s 0 2 ≡ 9 + length (body_bytes x)
  pub version : get_or s 2 0 ≡ 1
  pub flags : get_or s 3 0 ≡ flags_byte x.mailbox x.coe_protocol x.complete
  pub receive : big_at s 4 2 ≡ x.receive
  pub send : big_at s 6 2 ≡ x.send
  pub n : manager_count s ≡ length x.managers
  pub f : usage_count s ≡ length x.usages
  pub p : pdo_count s ≡ length x.pdos
  pub managers : Stands s 11 (managers_bytes x.managers)
  pub usages : Stands s (usages_place s) x.usages
  pub pdos : Stands s (pdos_place s) (pdos_bytes x.pdos)
  pub end : pdos_place s + length (pdos_bytes x.pdos) ≡ length s

-- the first eleven bytes of the sheet of device data
abbrev head_of : Data → List ℕ
head_of x =
    head_bytes (9 + length (body_bytes x)) (flags_byte x.mailbox x.coe_protocol x.complete) x.receive x.send (length x.managers) (length x.usages) (length x.pdos)

-- how long that sheet is
pub sheet-length : (x : Data) → length (sheet_of x) ≡ 11 + length (body_bytes x)
unfolding sheet_of
sheet-length x = length-append (head_of x) (body_bytes x)

-- the body stands behind the head's eleven bytes, and in it one part behind the other
body-stands : (x : Data) → Stands (sheet_of x) 11 (managers_bytes x.managers ++ (x.usages ++ pdos_bytes x.pdos))
unfolding sheet_of body_bytes
body-stands x = stands-behind (head_of x) (body_bytes x)

usages-stand : (x : Data) → Stands (sheet_of x) (usages_place (sheet_of x)) (x.usages ++ pdos_bytes x.pdos)
unfolding sheet_of
usages-stand x = second-stands (managers_bytes x.managers) (x.usages ++ pdos_bytes x.pdos) (omega (arith, managers-long x.managers)) (body-stands x)

-- where the last PDO ends, the sheet does
body-ends : (x : Data) → pdos_place (sheet_of x) + length (pdos_bytes x.pdos) ≡ length (sheet_of x)
unfolding sheet_of body_bytes
body-ends x =
    let l = managers-long x.managers in
    let a = length-append (managers_bytes x.managers) (x.usages ++ pdos_bytes x.pdos) in
    let b = length-append x.usages (pdos_bytes x.pdos) in
    omega (arith, sheet-length x)

-- the sheet of device data that keeps the rules has these parts
pub parts : (x : Data) → Keeps x → Parts x (sheet_of x)
unfolding sheet_of
parts x k =
    record {
      long = sheet-length x;
      follow = big-joined (9 + length (body_bytes x)) (omega arith);
      version = refl;
      flags = refl;
      receive = big-joined x.receive k.receive;
      send = big-joined x.send k.send;
      n = refl;
      f = refl;
      p = refl;
      managers = first-stands (managers_bytes x.managers) (x.usages ++ pdos_bytes x.pdos) (body-stands x);
      usages = first-stands x.usages (pdos_bytes x.pdos) (usages-stand x);
      pdos = second-stands x.usages (pdos_bytes x.pdos) refl (usages-stand x);
      end = body-ends x;
    }
