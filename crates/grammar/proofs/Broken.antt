-- The rules of a sheet, and what a sheet that keeps them is known to hold.
-- Assumes nothing.
use mathlib.Core.Path.{◌≡◌, refl}
use mathlib.Core.Bool.{Bool, true, false, not, ◌||◌}
use mathlib.Core.List.{List}
use Prim.Native.Nat.{ℕ, ◌≤◌}
use lib.ListN.{length, get_or}
use lib.Dec.{ltb}
use borrow.Author.Tests.{le-ltb, ltb-false, not-false}
use Rattle.grammar.specs.Grammar.{manager_count, usage_count, pdo_count, pdos_place, pdos_fit, some_manager_wrong, some_usage_wrong, broken}
use Rattle.wire.proofs.Lists.{or-none}

-- 4, where only the walk over the PDOs is left to decide
module _ (s : List ℕ) where
  pub only-walk :
      get_or s 3 0 ≤ 7 → manager_count s ≤ 16 → usage_count s ≤ 16 → pdos_place s ≤ length s → some_manager_wrong s ≡ false → some_usage_wrong s ≡ false
      → broken s ≡ not (pdos_fit s (pdo_count s) (pdos_place s))
  unfolding broken
  only-walk a b c d u v = rw (le-ltb 7 (get_or s 3 0) a, le-ltb 16 (manager_count s) b, le-ltb 16 (usage_count s) c, le-ltb (length s) (pdos_place s) d, u, v) refl

-- what a sheet holds that isn't refused with 4
pub record Kept (s : List ℕ) : Type 0 where
  pub flags : get_or s 3 0 ≤ 7
  pub managers : manager_count s ≤ 16
  pub usages : usage_count s ≤ 16
  pub places : pdos_place s ≤ length s
  pub manager_usages : some_manager_wrong s ≡ false
  pub fmmu_usages : some_usage_wrong s ≡ false
  pub walk : pdos_fit s (pdo_count s) (pdos_place s) ≡ true

-- the chain of rules from each on
abbrev last_on : List ℕ → Bool
last_on s = some_usage_wrong s || not (pdos_fit s (pdo_count s) (pdos_place s))

abbrev bytes_on : List ℕ → Bool
bytes_on s = some_manager_wrong s || last_on s

abbrev places_on : List ℕ → Bool
places_on s = ltb (length s) (pdos_place s) || bytes_on s

abbrev usages_on : List ℕ → Bool
usages_on s = ltb 16 (usage_count s) || places_on s

abbrev managers_on : List ℕ → Bool
managers_on s = ltb 16 (manager_count s) || usages_on s

pub kept : (s : List ℕ) → broken s ≡ false → Kept s
unfolding broken
kept s h =
    let a = or-none (ltb 7 (get_or s 3 0)) (managers_on s) h in
    let b = or-none (ltb 16 (manager_count s)) (usages_on s) a.1 in
    let c = or-none (ltb 16 (usage_count s)) (places_on s) b.1 in
    let d = or-none (ltb (length s) (pdos_place s)) (bytes_on s) c.1 in
    let e = or-none (some_manager_wrong s) (last_on s) d.1 in
    let w = or-none (some_usage_wrong s) (not (pdos_fit s (pdo_count s) (pdos_place s))) e.1 in
    record {
      flags = ltb-false 7 (get_or s 3 0) a.0;
      managers = ltb-false 16 (manager_count s) b.0;
      usages = ltb-false 16 (usage_count s) c.0;
      places = ltb-false (length s) (pdos_place s) d.0;
      manager_usages = e.0;
      fmmu_usages = w.0;
      walk = not-false (pdos_fit s (pdo_count s) (pdos_place s)) w.1;
    }
