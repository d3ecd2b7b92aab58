-- `oversampling::multiplier_of`: the record at hand matches, or none so far does; at the end none is left.
-- Assumes nothing.
use mathlib.Core.Path.{◌∙◌}
use Rattle.pdo.specs.declared.Oversampling.{Oversampling}
use Rattle.oversampling.proofs.Search.{hit, miss, at-end}
use Rattle.oversampling.proofs.multiplier_of.Goals as goal

abbrev none : Oversampling
none = record { pdo_index = 0; multiplier = 0 }

pub returns-then-record-index : goal.returns-then-record-index
returns-then-record-index c = let l = c.loop-record in hit c.args.table.now l.record-index c.args.index none c.loop-record-test.true c.if-record-index.true ∙ l.invariant

pub loop-record-preserved : goal.loop-record-preserved
loop-record-preserved c = let l = c.loop-record in miss c.args.table.now l.record-index c.args.index none c.loop-record-test.true c.if-record-index.false ∙ l.invariant

pub returns : goal.returns
returns c = let l = c.loop-record in at-end c.args.table.now l.record-index c.args.index c.loop-record-test.false ∙ l.invariant
