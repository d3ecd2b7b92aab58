-- Device data: what planning reads, whatever it was read from.
-- Assumes nothing.
use Rattle.std.specs.Prelude.{Bool, cond, List, [], ◌∷◌, ℕ, zero, suc, ◌+◌, get_or, take, eqb}
use Rattle.wire.specs.Number.{big_at}
use Rattle.wire.specs.Lists.{list_of}
pub use Rattle.grammar.specs.Grammar.{next_pdo}
use Rattle.sheet.specs.declared.SyncManager.{SyncManager}
use Rattle.sheet.specs.declared.Device.{Device}

-- a PDO: its kind (0 CoE, 1 EEPROM read, 2 EEPROM write), the sync manager that it names, its index, its bit lengths
pub record Pdo : Type 0 where
  pub kind : ℕ
  pub manager : ℕ
  pub index : ℕ
  pub lengths : List ℕ

pub record Data : Type 0 where
  pub mailbox : Bool
  pub coe_protocol : Bool
  pub complete : Bool
  pub receive : ℕ
  pub send : ℕ
  pub managers : List SyncManager
  pub usages : List ℕ
  pub pdos : List Pdo

-- the PDO at a place: kind, sync manager number, PDO index (2), count m, m bytes
-- kind 0 holds m mapping bit lengths; kinds 1 and 2 one 16-bit bit length
abbrev pub pdo_at : List ℕ → ℕ → Pdo
pdo_at s at =
    record {
      kind = get_or s at 0;
      manager = get_or s (at + 1) 0;
      index = big_at s (at + 2) 2;
      lengths = cond (eqb (get_or s at 0) 0) (list_of (λ k. get_or s (at + 5 + k) 0) (get_or s (at + 4) 0)) (big_at s (at + 5) 2 ∷ []);
    }

-- p of them from a place on
unfoldable pub pdos_from : List ℕ → ℕ → ℕ → List Pdo
pdos_from s zero at = []
pdos_from s (suc p) at = pdo_at s at ∷ pdos_from s p (next_pdo s at)

-- device data in the form that code holds it: the record, and lent bytes in which the PDOs stand
unfoldable pub data_of : Device → List ℕ → Data
data_of d s =
    record {
      mailbox = d.has_mailbox;
      coe_protocol = d.coe_protocol;
      complete = d.complete_access;
      receive = d.receive_size.0;
      send = d.send_size.0;
      managers = take d.n d.managers;
      usages = take d.f d.usages;
      pdos = pdos_from s d.p d.pdos;
    }
