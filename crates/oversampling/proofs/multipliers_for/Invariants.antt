-- `oversampling::multipliers_for`: the first places are filled, and the records ahead stand from a place on.
-- Assumes nothing.
use Rattle.std.proofs.Common.{◌≡◌}
use Rattle.grammar.specs.Grammar.{pdo_count, pdos_place}
use Rattle.oversampling.proofs.Filled.{Filling, filled}
use Rattle.oversampling.proofs.multipliers_for.Given as goal

abbrev pub invariant-loop-multiplier : goal.invariant-loop-multiplier
invariant-loop-multiplier l =
    Filling l.table l.sheet (pdo_count l.sheet) (pdos_place l.sheet) l.multiplier-index l.place
    × (l.front ≡ filled l.table l.sheet (pdo_count l.sheet) (pdos_place l.sheet) l.initial.front l.multiplier-index)
