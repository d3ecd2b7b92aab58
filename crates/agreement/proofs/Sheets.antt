-- What an accepted sheet gives of its device data: at most sixteen sync managers and usages, and addresses of sixteen bits.
-- Assumes nothing.
use mathlib.Core.Path.{sym, subst}
use mathlib.Core.List.{List}
use Prim.Native.Nat.{ℕ, ◌≤◌, ◌<◌}
use Rattle.wire.specs.Image.{Bytes}
use Rattle.wire.specs.Lists.{Each}
use Rattle.wire.proofs.Bytes.{big-fits}
use Rattle.wire.proofs.Lists.{each_number}
use Rattle.sheet.specs.declared.SyncManager.{SyncManager}
use Rattle.sheet.specs.Sheet.{manager_count, manager_place, manager_at, sheet_data}
use Rattle.sheet.proofs.Managers.{manager-count, usage-count}
use Rattle.sheet.proofs.Kept.{Accepts}
use Rattle.agreement.proofs.Uses.{Bounded}

addresses-below : (s : List ℕ) → Bytes s → Each (λ (m : SyncManager). m.start_addr < 65536) (sheet_data s).managers
unfolding sheet_data
addresses-below s h =
    each_number (λ (m : SyncManager). m.start_addr < 65536) (λ k. manager_at s (manager_place k)) (manager_count s) (λ k l. big-fits (manager_place k) h)

pub bounded : (s : List ℕ) → Bytes s → Accepts s → Bounded (sheet_data s)
bounded s h a =
    record {
      managers = subst (λ (m : ℕ). m ≤ 16) (sym (manager-count s)) a.managers;
      usages = subst (λ (m : ℕ). m ≤ 16) (sym (usage-count s)) a.usages;
      addresses = addresses-below s h;
    }
