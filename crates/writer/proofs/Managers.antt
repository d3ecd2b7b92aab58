-- The sync managers that were written, read: each is the one that was written, and none has a usage without a name.
-- Assumes nothing.
use mathlib.Core.Path.{◌≡◌, refl, ◌∙◌, ap, subst}
use mathlib.Core.Bool.{false}
use mathlib.Core.List.{List, [], ◌∷◌}
use Prim.Native.Nat.{ℕ, zero, suc, ◌+◌, ◌*◌, ◌<◌}
use native.Mathlib.Nat.{not-suc-le-zero, le_of_suc-le-suc}
use native.Mathlib.Omega.{arith}
use lib.ListN.{length, get_or}
use lib.Seq.{ext_get_or}
use lib.Dec.{ltb}
use borrow.Author.Tests.{le-ltb}
use Rattle.wire.specs.Lists.{list_of, Each}
use Rattle.wire.specs.Field.{flag_at}
use Rattle.wire.proofs.Fields.{flag-bit}
use Rattle.wire.proofs.Lists.{some-none, each_at, length-list_of, get_d-list_of}
use Rattle.area.specs.Area.{flat}
use Rattle.channel_bytes.specs.Bytes.{control_at}
use Rattle.channel_bytes.proofs.RoundTrip.{control-read-write, named-numbered}
use Rattle.sheet.specs.declared.SyncManager.{SyncManager}
use Rattle.sheet.specs.Sheet.{manager_count, manager_place, some_manager_wrong, manager_at, no_manager}
use Rattle.writer.specs.Form.{manager_bytes}
use Rattle.writer.proofs.Keeps.{KeepsManager}
use Rattle.writer.proofs.Stands.{Stands, first-stands, second-stands, stands-byte, stands-number}
use Rattle.writer.proofs.Parts.{managers_bytes}

-- one stands behind the other, five bytes on
manager-stands :
    {s : List ℕ} (ms : List SyncManager) (at k : ℕ) {p : ℕ} → p ≡ at + 5 * k → k < length ms → Stands s at (managers_bytes ms)
    → Stands s p (manager_bytes (get_or ms k no_manager))
unfolding flat
manager-stands [] at k e b h = absurd (not-suc-le-zero b)
manager-stands {s} (m ∷ ms) at zero {p} e b h =
    let here : at ≡ p = omega arith in
    subst (λ (n : ℕ). Stands s n (manager_bytes m)) here (first-stands (manager_bytes m) (managers_bytes ms) h)
manager-stands (m ∷ ms) at (suc k) e b h =
    manager-stands ms (at + 5) k (omega arith) (le_of_suc-le-suc b) (second-stands (manager_bytes m) (managers_bytes ms) refl h)

-- one that stands there is read
manager-read : {s : List ℕ} {at : ℕ} (m : SyncManager) → KeepsManager m → Stands s at (manager_bytes m) → manager_at s at ≡ m
manager-read m k h =
    λ i.
    record {
      start_addr = stands-number m.start_addr _ k.start h i;
      control = (ap control_at (stands-byte (manager_bytes m) 2 refl (omega arith) h) ∙ control-read-write m.control (named-numbered m.control k.named)) i;
      enable = (ap (λ (b : ℕ). flag_at b 0) (stands-byte (manager_bytes m) 3 refl (omega arith) h) ∙ flag-bit m.enable) i;
      usage_type = stands-byte (manager_bytes m) 4 refl (omega arith) h i;
    }

module _ (s : List ℕ) (ms : List SyncManager) (n : manager_count s ≡ length ms) (h : Stands s 11 (managers_bytes ms)) where
  -- each stands at its place
  here : (k : ℕ) → k < manager_count s → Stands s (manager_place k) (manager_bytes (get_or ms k no_manager))
  here k b = manager-stands ms 11 k refl (omega arith) h

  -- together they are those that were written
  pub managers-read : Each KeepsManager ms → list_of (λ k. manager_at s (manager_place k)) (manager_count s) ≡ ms
  managers-read each =
      let f : ℕ → SyncManager = λ k. manager_at s (manager_place k) in
      let l = length-list_of f (manager_count s) in
      ext_get_or no_manager (list_of f (manager_count s)) ms (l ∙ n)
      (λ k b. get_d-list_of f (manager_count s) k no_manager (omega arith)
      ∙ manager-read (get_or ms k no_manager) (each_at KeepsManager ms k no_manager (omega arith) each) (here k (omega arith)))

  -- each usage has its name
  pub usages-named : Each KeepsManager ms → some_manager_wrong s ≡ false
  unfolding some_manager_wrong
  usages-named each =
      some-none (λ k. ltb 4 (get_or s (manager_place k + 4) 0)) (manager_count s)
      (λ k b.
      let e = stands-byte (manager_bytes (get_or ms k no_manager)) 4 {p = manager_place k + 4} refl (omega arith) (here k b) in
      let u = each_at KeepsManager ms k no_manager (omega arith) each in
      le-ltb 4 (get_or s (manager_place k + 4) 0) (omega arith))
