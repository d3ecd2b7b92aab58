-- `report::report`: the text is typed to one side, where it always fits, and then written.
-- Assumes nothing.
use mathlib.Core.Path.{sym}
use lib.Seq.{length-take-le}
use Rattle.wire.proofs.Typing.{holds, written}
use Rattle.report.specs.Plan.{areas}
use Rattle.report.proofs.Fits.{report-length}
use Rattle.report.proofs.report.Goals as goal

pub slice_bounds-text-end : goal.slice_bounds-text-end
slice_bounds-text-end c = let a = c.args in (holds (report-length a.sheet.now (areas a.fmmus a.channels)) c.typed-n.ensures).fits

pub slice_bounds-write_text-end : goal.slice_bounds-write_text-end
slice_bounds-write_text-end c =
    let a = c.args in
    sym (length-take-le _ _ (holds (report-length a.sheet.now (areas a.fmmus a.channels)) c.typed-n.ensures).fits)

pub returns : goal.returns
returns c = let a = c.args in written (holds (report-length a.sheet.now (areas a.fmmus a.channels)) c.typed-n.ensures) c.write_text.ensures
