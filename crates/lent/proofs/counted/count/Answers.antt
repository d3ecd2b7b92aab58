-- `lent::count`: counting with what the table multiplies by.
-- Assumes nothing.
use mathlib.Core.Path.{◌∙◌}
use Rattle.sheet.specs.Sheet.{sheet_data}
use Rattle.pdo.specs.Bits.{multipliers_of}
use Rattle.counting.proofs.Same.{count_same}
use Rattle.lent.proofs.counted.count.Goals as goal

pub returns : goal.returns
returns c =
    let a = c.args in
    let s = a.sheet.now in
    let w = c.multipliers-weights in
    c.count.ensures ∙ count_same s w.result.now (multipliers_of a.table.now (sheet_data s).pdos) a.direction a.address a.offset.start_address w.ensures
