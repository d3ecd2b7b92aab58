-- What data keeps that isn't refused with 4.
-- Assumes nothing.
use mathlib.Core.Path.{◌≡◌}
use mathlib.Core.Bool.{Bool, true, false, not, ◌||◌}
use mathlib.Core.List.{List}
use Prim.Native.Nat.{ℕ, ◌≤◌}
use lib.ListN.{take}
use lib.Dec.{ltb}
use borrow.Author.Tests.{le-ltb, ltb-false, not-false}
use Rattle.wire.specs.Lists.{some_of}
use Rattle.wire.proofs.Lists.{or-none}
use Rattle.sheet.specs.declared.SyncManager.{SyncManager}
use Rattle.sheet.specs.declared.Device.{Device}
use Rattle.writer.specs.Writing.{pdos_fit, rule_broken}

-- a sync manager's usage that has no name
abbrev pub unnamed_use : SyncManager → Bool
unnamed_use m = ltb 4 m.usage_type

-- what is known where 4 isn't given
pub record Kept (d : Device) (records : List ℕ) : Type 0 where
  pub few_managers : d.n ≤ 16
  pub few_usages : d.f ≤ 16
  pub managers : some_of unnamed_use (take d.n d.managers) ≡ false
  pub usages : some_of (ltb 3) (take d.f d.usages) ≡ false
  pub whole : pdos_fit records d.p 0 ≡ true

module _ (d : Device) (records : List ℕ) where
  -- the chain of rules from each on
  abbrev whole_on : Bool
  whole_on = not (pdos_fit records d.p 0)

  abbrev usages_on : Bool
  usages_on = some_of (ltb 3) (take d.f d.usages) || whole_on

  abbrev managers_on : Bool
  managers_on = some_of unnamed_use (take d.n d.managers) || usages_on

  -- 4 isn't given exactly where all that is known
  pub kept : rule_broken d records ≡ false → Kept d records
  unfolding rule_broken
  kept e =
      let a = or-none (ltb 16 d.n) (ltb 16 d.f || managers_on) e in
      let b = or-none (ltb 16 d.f) managers_on a.1 in
      let c = or-none (some_of unnamed_use (take d.n d.managers)) usages_on b.1 in
      let u = or-none (some_of (ltb 3) (take d.f d.usages)) whole_on c.1 in
      record {
        few_managers = ltb-false 16 d.n a.0;
        few_usages = ltb-false 16 d.f b.0;
        managers = c.0;
        usages = u.0;
        whole = not-false (pdos_fit records d.p 0) u.1;
      }

  pub keeping : Kept d records → rule_broken d records ≡ false
  unfolding rule_broken
  keeping k = rw (le-ltb 16 d.n k.few_managers, le-ltb 16 d.f k.few_usages, k.managers, k.usages, k.whole)
