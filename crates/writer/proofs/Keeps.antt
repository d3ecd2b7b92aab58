-- What holds of device data for which there is a sheet: each number in its range, each value with a name, and no more bytes than a sheet has.
-- Assumes nothing.
use mathlib.Core.Path.{◌≡◌}
use mathlib.Core.Bool.{false}
use mathlib.Core.List.{[], ◌∷◌}
use Prim.Native.Nat.{ℕ, ◌+◌, ◌<◌, ◌≤◌}
use lib.ListN.{length, get_or}
use Rattle.wire.specs.Image.{Bytes}
use Rattle.wire.specs.Lists.{Each}
use Rattle.channel_bytes.specs.Bytes.{unnamed}
use Rattle.sheet.specs.declared.SyncManager.{SyncManager}
use Rattle.sheet.specs.Device.{Pdo, Data}
use Rattle.writer.specs.Form.{body_bytes}

pub record KeepsManager (m : SyncManager) : Type 0 where
  pub start : m.start_addr < 65536
  pub named : unnamed m.control ≡ false
  pub usage : m.usage_type ≤ 4

-- kind 0 holds at most 255 bit lengths, each a byte; kinds 1 and 2 hold one, of two bytes
pub record KeepsPdo (p : Pdo) : Type 0 where
  pub kind : p.kind ≤ 2
  pub manager : p.manager < 256
  pub index : p.index < 65536
  pub many : p.kind ≡ 0 → (length p.lengths < 256) × Bytes p.lengths
  pub one : (p.kind ≡ 0 → ⊥) → (p.lengths ≡ get_or p.lengths 0 0 ∷ []) × (get_or p.lengths 0 0 < 65536)

pub record Keeps (x : Data) : Type 0 where
  pub receive : x.receive < 65536
  pub send : x.send < 65536
  pub few_managers : length x.managers ≤ 16
  pub managers : Each KeepsManager x.managers
  pub few_usages : length x.usages ≤ 16
  pub usages : Each (λ (u : ℕ). u ≤ 3) x.usages
  pub few_pdos : length x.pdos < 256
  pub pdos : Each KeepsPdo x.pdos
  pub short : 9 + length (body_bytes x) ≤ 16384
