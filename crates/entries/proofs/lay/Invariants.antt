-- `entries::lay`: each turn lays the next use of the direction, or finds 8, or passes one sync manager over.
-- Assumes nothing.
use mathlib.Core.Path.{◌≡◌}
use Prim.Native.Nat.{min}
use Rattle.grammar.specs.Grammar.{manager_count}
use Rattle.entries.proofs.Turn.{At}
use Rattle.entries.proofs.lay.Given as goal

abbrev pub invariant-loop-k : goal.invariant-loop-k
invariant-loop-k l = (l.k-end ≡ min (manager_count l.uses.sheet.now) 16) × At l.uses l.start l.initial.entries l.k l.end l.entries
