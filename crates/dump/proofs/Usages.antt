-- FMMU usages by number, as loops meet them.
-- Assumes nothing.
use mathlib.Core.Path.{◌≡◌}
use mathlib.Core.List.{List, map}
use Prim.Native.Nat.{ℕ}
use lib.ListN.{length, get_or, length-map, get_or-map}
use Rattle.wire.specs.Lists.{list_of}
use Rattle.dump.specs.Records.{usage_for}
use Rattle.dump.proofs.Numbered.{list-numbered}

module _ (l : List ℕ) where
  abbrev pub usage_at : ℕ → ℕ
  usage_at k = usage_for (get_or l k 0)

  pub usages-numbered : map usage_for l ≡ list_of usage_at (length l)
  usages-numbered =
      list-numbered (map usage_for l) 0 (length l) (length-map l usage_for) usage_at (λ k h. get_or-map usage_for l k 0)
