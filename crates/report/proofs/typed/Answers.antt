-- `typed`: what the plan answers decides between the plan's text and the refusal's.
-- Assumes nothing.
use Rattle.wire.proofs.Typing.{types}
use Rattle.report.specs.Plan.{areas}
use Rattle.report.proofs.Passes.{bay-text, refusal-text}
use Rattle.report.proofs.typed.Goals as goal

pub returns-in-Ok : goal.returns-in-Ok
returns-in-Ok c = let a = c.args in types (bay-text a.sheet.now (areas a.fmmus a.channels) c.manager_count-n.ensures c.in-Ok.ensures) c.put_bay.ensures

pub returns-in-Err : goal.returns-in-Err
returns-in-Err c = let a = c.args in types (refusal-text a.sheet.now (areas a.fmmus a.channels) c.number.ensures c.in-Err.ensures) c.put_refused.ensures
