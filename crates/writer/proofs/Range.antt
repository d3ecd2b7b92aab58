-- The sync managers of a record by value have start addresses of two bytes.
-- Assumes nothing.
use mathlib.Core.List.{List, [], ◌∷◌}
use Prim.Native.Nat.{◌<◌}
use mir.Val.{Val}
use denote.Shadow.{shadow}
use denote.Array.{each}
use Rattle.wire.specs.Lists.{Each}
use Rattle.sheet.specs.declared.SyncManager.{SyncManager}
use Rattle.sheet.specs.contracts.SyncManager.{the_row}

pub starts_fit : (ms : List SyncManager) (us : List Val) → shadow (each the_row.Denot the_row.own_val ms us)
    → Each (λ (m : SyncManager). m.start_addr < 65536) ms
starts_fit [] us p = tt
starts_fit (m ∷ ms) [] p = absurd p
starts_fit (m ∷ ms) (u ∷ us) p = (p.0.1.1.0.1, starts_fit ms us p.1)
