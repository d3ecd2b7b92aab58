-- `sheet::read`: the reason that checking gave; else the device data of a sheet that keeps every rule.
-- Assumes nothing.
use Rattle.std.proofs.lemmas.Result.{err_from_is_err_and}
use Rattle.sheet.proofs.Reading.{checked-accepts, reads-refused, reads-device}
use Rattle.sheet.proofs.read.Goals as goal

pub returns-in_err-check : goal.returns-in_err-check
returns-in_err-check c =
    let p = err_from_is_err_and c.from_residual.result c.from_residual.ensures.1 in
    rw (p.1, p.2) (reads-refused c.args.sheet.now c.in_err-check.ensures)

pub device_of-requires : goal.device_of-requires
device_of-requires c = (checked-accepts c.args.sheet.now c.in_ok-check.ensures).whole

pub returns : goal.returns
returns c = reads-device c.args.sheet.now c.in_ok-check.ensures c.device_of.ensures
