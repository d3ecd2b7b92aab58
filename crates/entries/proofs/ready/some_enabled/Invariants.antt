-- `entries::ready::some_enabled`: each turn asks the entry of the next sync manager that uses one, or passes it over.
-- Assumes nothing.
use mathlib.Core.Path.{◌≡◌}
use Prim.Native.Nat.{min}
use Rattle.grammar.specs.Grammar.{manager_count}
use Rattle.entries.proofs.Blocked.{NoneYet}
use Rattle.entries.proofs.ready.some_enabled.Given as goal

abbrev pub invariant-loop-k : goal.invariant-loop-k
invariant-loop-k l = (l.k-end ≡ min (manager_count l.uses.sheet.now) 16) × NoneYet l.uses l.entries l.k
