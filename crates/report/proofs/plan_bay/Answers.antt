-- `plan_bay`: the call takes what the mailbox pass left, and the first refusal is the plan's.
-- Assumes nothing.
use mathlib.Core.Path.{◌∙◌}
use Rattle.std.proofs.lemmas.Result.{err_from_is_err_and}
use Rattle.report.proofs.Passes.{data-mapped, data-refused, mailboxes-read, mailboxes-refused}
use Rattle.report.proofs.plan_bay.Goals as goal

pub returns-in_err-configure_mailboxes : goal.returns-in_err-configure_mailboxes
returns-in_err-configure_mailboxes c =
    let a = c.args in
    let p = err_from_is_err_and c.from_residual.result c.from_residual.ensures.1 in
    rw (p.1, p.2) (mailboxes-refused a.sheet.now a.fmmus.now a.channels.now c.in_err-configure_mailboxes.ensures)

pub returns-in_err-mapped : goal.returns-in_err-mapped
returns-in_err-mapped c =
    let a = c.args in
    let p = err_from_is_err_and c.from_residual-in_err-mapped.result c.from_residual-in_err-mapped.ensures.1 in
    rw (p.1, p.2) (data-refused a.sheet.now a.fmmus.now _ c.in_err-mapped.ensures ∙ mailboxes-read a.sheet.now a.fmmus.now a.channels.now c.in_ok-configure_mailboxes.ensures)

pub returns : goal.returns
returns c =
    let a = c.args in
    data-mapped a.sheet.now a.fmmus.now _ c.in_ok-mapped.ensures ∙ mailboxes-read a.sheet.now a.fmmus.now a.channels.now c.in_ok-configure_mailboxes.ensures
