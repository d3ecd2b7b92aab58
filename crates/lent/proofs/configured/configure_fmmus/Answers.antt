-- `lent::configure_fmmus`: a call by value; its offsets are moved where it is accepted.
-- Assumes nothing.
use Rattle.std.proofs.lemmas.Result.{err_from_is_err_and}
use Rattle.passes.proofs.Same.{configures-same}
use Rattle.sheet.specs.Sheet.{sheet_data}
use Rattle.pdo.specs.Bits.{multipliers_of}
use Rattle.lent.proofs.Passing.{mapped, stopped}
use Rattle.lent.proofs.configured.configure_fmmus.Goals as goal

pub returns-in_err-mapped : goal.returns-in_err-mapped
returns-in_err-mapped c =
    let a = c.args in
    let s = a.sheet.now in
    let p = err_from_is_err_and c.from_residual.result c.from_residual.ensures.1 in
    rw (p.1, p.2, ← c.fmmu_mappings-chosen.ensures)
    (stopped (configures-same s c.multipliers-weights.result.now (multipliers_of a.table.now (sheet_data s).pdos) c.multipliers-weights.ensures c.in_err-mapped.ensures))

pub returns : goal.returns
returns c =
    let a = c.args in
    let s = a.sheet.now in
    rw (← c.fmmu_mappings-chosen.ensures)
    (mapped (configures-same s c.multipliers-weights.result.now (multipliers_of a.table.now (sheet_data s).pdos) c.multipliers-weights.ensures c.in_ok-mapped.ensures))
