-- `grammar::pdos_end`: where the records left end from where the walk stands is where all end.
-- Assumes nothing.
use mathlib.Core.Path.{◌≡◌}
use Prim.Native.Nat.{◌*◌, ◌-◌, ◌≤◌}
use Rattle.grammar.specs.Grammar.{pdos_end}
use Rattle.grammar.proofs.pdos_end.Given as goal

abbrev pub invariant-loop : goal.invariant-loop
invariant-loop l = (pdos_end l.bytes (l.p - l.counter) l.place ≡ pdos_end l.bytes l.p 0) × (l.place ≤ 260 * l.counter)
