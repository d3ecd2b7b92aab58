-- `mailboxes::configure_mailboxes`: each way through the call is one of the ways through the pass.
-- Assumes nothing.
use Rattle.std.proofs.Common.{sym, ◌∙◌}
use Rattle.std.proofs.lemmas.Result.{err_from_is_err_and}
use Rattle.wire.specs.Outcome.{accepted}
use Rattle.sheet.specs.Sheet.{sheet_data}
use Rattle.sheet.proofs.Reading.{checked-on, checked-stop}
use Rattle.mailboxes.specs.Mailbox.{config_of}
use Rattle.mailboxes.proofs.Mailboxes.{wrong-area, wrong-sheet, without-mailboxes, with-mailboxes}
use Rattle.mailboxes.proofs.configure_mailboxes.Goals as goal

pub returns-then-channels-ne128 : goal.returns-then-channels-ne128
returns-then-channels-ne128 c = let a = c.args in wrong-area a.sheet.now a.channels.now c.if-channels-ne128.true

pub returns-in_err-check : goal.returns-in_err-check
returns-in_err-check c =
    let s = c.args.sheet.now in
    let p = err_from_is_err_and c.from_residual.result c.from_residual.ensures.1 in
    rw (p.1, p.2) (wrong-sheet s c.args.channels.now c.if-channels-ne128.false _ (checked-stop s (accepted (config_of (sheet_data s))) c.in_err-check.ensures))

pub returns-then-not-has_mailbox : goal.returns-then-not-has_mailbox
returns-then-not-has_mailbox c =
    let s = c.args.sheet.now in
    without-mailboxes s c.args.channels.now c.if-channels-ne128.false (checked-on s (accepted (config_of (sheet_data s))) c.in_ok-check.ensures)
    (sym c.has_mailbox.ensures ∙ c.if-not-has_mailbox.true)

pub returns : goal.returns
returns c =
    let s = c.args.sheet.now in
    let m = c.mailboxes_of in
    with-mailboxes s c.args.channels.now c.if-channels-ne128.false (checked-on s (accepted (config_of (sheet_data s))) c.in_ok-check.ensures) m.result m.new.channels
    (sym c.has_mailbox.ensures ∙ c.if-not-has_mailbox.false) m.ensures.0 m.ensures.1
