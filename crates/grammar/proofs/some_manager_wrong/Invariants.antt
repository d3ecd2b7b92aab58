-- `grammar::some_manager_wrong`: none so far is wrong.
-- Assumes nothing.
use mathlib.Core.Path.{◌≡◌}
use mathlib.Core.Bool.{Bool, false}
use mathlib.Core.List.{List}
use Prim.Native.Nat.{ℕ, ◌+◌}
use lib.ListN.{get_or}
use lib.Dec.{ltb}
use Rattle.wire.specs.Lists.{some_below}
use Rattle.grammar.specs.Grammar.{manager_place}
use Rattle.grammar.proofs.some_manager_wrong.Given as goal

abbrev pub wrong : List ℕ → ℕ → Bool
wrong s k = ltb 4 (get_or s (manager_place k + 4) 0)

abbrev pub invariant-loop-k : goal.invariant-loop-k
invariant-loop-k l = some_below (wrong l.sheet) l.k ≡ false
