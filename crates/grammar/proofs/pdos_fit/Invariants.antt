-- `grammar::pdos_fit`: whether the records left fit from where the walk stands is whether all fit from the start.
-- Assumes nothing.
use mathlib.Core.Path.{◌≡◌}
use Prim.Native.Nat.{◌+◌, ◌*◌, ◌-◌, ◌≤◌}
use Rattle.grammar.specs.Grammar.{pdos_fit}
use Rattle.grammar.proofs.pdos_fit.Given as goal

abbrev pub invariant-loop : goal.invariant-loop
invariant-loop l = (pdos_fit l.bytes (l.p - l.counter) l.place ≡ pdos_fit l.bytes l.p l.at) × (l.place ≤ 1541 + 260 * l.counter)
