-- `sheet::some_unnamed`: none so far has an unnamed control.
-- Assumes nothing.
use mathlib.Core.Path.{◌≡◌}
use mathlib.Core.Bool.{Bool, false}
use mathlib.Core.List.{List}
use Prim.Native.Nat.{ℕ}
use Rattle.wire.specs.Lists.{some_below}
use Rattle.channel_bytes.specs.Bytes.{unnamed}
use Rattle.sheet.specs.Sheet.{manager_place, manager_at}
use Rattle.sheet.proofs.some_unnamed.Given as goal

abbrev pub nameless : List ℕ → ℕ → Bool
nameless s k = unnamed (manager_at s (manager_place k)).control

abbrev pub invariant-loop-k : goal.invariant-loop-k
invariant-loop-k l = some_below (nameless l.sheet) l.k ≡ false
