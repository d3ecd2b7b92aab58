-- `subdevice::configure`: 1, then what the call wants decides 2 to 7 and 18, then the entries decide; the images are written last.
-- Assumes nothing.
use Rattle.std.proofs.lemmas.Result.{err_from_is_err_and}
use Rattle.subdevice.proofs.Passing.{entries-wrong, channels-wrong, one-configures, unwanted-configures, mapped-configures, refused-configures}
use Rattle.subdevice.proofs.configure.Goals as goal
use Rattle.subdevice.proofs.configure.Goals.{then-fmmus-ne256-via-then-fmmus-ne256, then-fmmus-ne256-via-else-fmmus-ne256+then-channels-ne128}

pub returns-then-fmmus-ne256 : goal.returns-then-fmmus-ne256
returns-then-fmmus-ne256 c =
    let a = c.args in
    one-configures a.sheet.now a.multipliers.now a.chosen a.offsets a.settings a.fmmus.now a.channels.now
    (elim c.then-fmmus-ne256.branch [
      | then-fmmus-ne256-via-then-fmmus-ne256 w ↦ entries-wrong a.fmmus.now a.channels.now w.if-fmmus-ne256.true
      | then-fmmus-ne256-via-else-fmmus-ne256+then-channels-ne128 w ↦ channels-wrong a.fmmus.now a.channels.now w.if-fmmus-ne256.false w.if-channels-ne128.true
    ])

pub returns-in_err-wanted : goal.returns-in_err-wanted
returns-in_err-wanted c =
    let a = c.args in
    let p = err_from_is_err_and c.from_residual.result c.from_residual.ensures.1 in
    rw (p.1, p.2)
    (unwanted-configures a.sheet.now a.multipliers.now a.chosen a.offsets a.settings a.fmmus.now a.channels.now c.if-fmmus-ne256.false c.if-channels-ne128.false _ c.in_err-wanted.ensures)

pub returns-in_err-mapped : goal.returns-in_err-mapped
returns-in_err-mapped c =
    let a = c.args in
    let p = err_from_is_err_and c.from_residual-in_err-mapped.result c.from_residual-in_err-mapped.ensures.1 in
    rw (p.1, p.2)
    (refused-configures a.sheet.now a.multipliers.now a.chosen a.offsets a.settings a.fmmus.now a.channels.now c.if-fmmus-ne256.false c.if-channels-ne128.false c.in_ok-wanted.ensures
    c.in_err-mapped.ensures)

pub returns : goal.returns
returns c =
    let a = c.args in
    mapped-configures a.sheet.now a.multipliers.now a.chosen a.offsets a.settings a.fmmus.now a.channels.now c.if-fmmus-ne256.false c.if-channels-ne128.false c.in_ok-wanted.ensures
    c.in_ok-mapped.ensures c.write_channels.ensures
