-- What an accepted sheet reads as has a sheet: it keeps what `Keeps` asks for.
-- Assumes nothing.
use mathlib.Core.List.{List}
use mathlib.Core.Path.{◌≡◌, refl, sym, ◌∙◌, ap}
use mathlib.Core.Bool.{false}
use Prim.Native.Nat.{ℕ, ◌+◌, ◌≤◌, ◌<◌}
use native.Mathlib.Omega.{arith}
use lib.ListN.{get_or}
use lib.Dec.{ltb}
use borrow.Author.Tests.{ltb-false}
use Rattle.wire.specs.Image.{Bytes}
use Rattle.wire.proofs.Bytes.{big-fits}
use Rattle.wire.proofs.Lists.{none_below, at_none, each_number}
use Rattle.channel_bytes.specs.Bytes.{control_at, unnamed}
use Rattle.grammar.proofs.Length.{exact}
use Rattle.grammar.proofs.Broken.{kept}
use Rattle.sheet.specs.Sheet.{manager_count, usage_count, pdo_count, manager_place, usages_place, pdos_place, some_manager_wrong, some_usage_wrong, manager_at, some_unnamed, sheet_data, no_manager}
use Rattle.sheet.specs.declared.SyncManager.{SyncManager}
use Rattle.sheet.proofs.Kept.{Accepts}
use Rattle.sheet.proofs.Managers.{manager-count, manager-number, usage-count}
use Rattle.sheet.proofs.Sound.{length-pdos}
use Rattle.writer.proofs.Keeps.{KeepsManager, Keeps}
use Rattle.writer.proofs.Records.{fit-keeps}
use Rattle.writer.proofs.Cleaned.{follow-is}

-- the control of no sync manager has names
zero-named : unnamed no_manager.control ≡ false
unfolding unnamed control_at
zero-named = refl

module _ (s : List ℕ) (h : Bytes s) (a : Accepts s) where
  -- a sync manager and a usage: its number is in range, and its mode, its direction and its usage have names
  manager-keeps : (k : ℕ) → k < manager_count s → KeepsManager (manager_at s (manager_place k))
  unfolding some_manager_wrong some_unnamed
  manager-keeps k l =
      record {
        start = big-fits (manager_place k) h;
        named =
            ap (λ (m : SyncManager). unnamed m.control) (sym (manager-number s k no_manager l))
            ∙ at_none (λ (m : SyncManager). unnamed m.control) (sheet_data s).managers no_manager zero-named a.named k;
        usage =
            ltb-false 4 (get_or s (manager_place k + 4) 0)
            (none_below (λ j. ltb 4 (get_or s (manager_place j + 4) 0)) (manager_count s) (kept s a.whole).manager_usages k l);
      }

  usage-keeps : (k : ℕ) → k < usage_count s → get_or s (usages_place s + k) 0 ≤ 3
  unfolding some_usage_wrong
  usage-keeps k l =
      ltb-false 3 (get_or s (usages_place s + k) 0)
      (none_below (λ j. ltb 3 (get_or s (usages_place s + j) 0)) (usage_count s) (kept s a.whole).fmmu_usages k l)

  -- all of it
  pub read_keeps : Keeps (sheet_data s)
  unfolding sheet_data
  read_keeps =
      record {
        receive = big-fits 4 h;
        send = big-fits 6 h;
        few_managers = let n = manager-count s in let m = a.managers in omega arith;
        managers = each_number KeepsManager (λ k. manager_at s (manager_place k)) (manager_count s) manager-keeps;
        few_usages = let n = usage-count s in let m = a.usages in omega arith;
        usages = each_number (λ (u : ℕ). u ≤ 3) (λ k. get_or s (usages_place s + k) 0) (usage_count s) usage-keeps;
        few_pdos = let n = length-pdos s (pdo_count s) (pdos_place s) in let m = h.below 10 in omega arith;
        pdos = fit-keeps s (pdo_count s) (pdos_place s) h a.walk;
        short = let l = follow-is s h a in let r = exact s a.right in let m = a.high in omega arith;
      }
