-- `mailboxes::write_mailbox`: neither usage, and nothing is written.
-- Assumes nothing.
use Rattle.std.proofs.Common.{arith, sym, ◌∙◌, ap}
use Rattle.sheet.specs.Sheet.{manager_at, manager_place}
use Rattle.channels.specs.Channels.{written, channel_area}
use Rattle.channels.proofs.After.{area_same}
use Rattle.mailboxes.proofs.Recorded.{size_none}
use Rattle.mailboxes.proofs.write_mailbox.Goals as goal

pub returns-in_default : goal.returns-in_default
returns-in_default c =
    let a = c.args in
    let m = manager_at a.sheet.now (manager_place a.k) in
    sym (area_same a.channels.now)
    ∙ ap (λ o. channel_area (written a.k m o) a.channels.now) (sym (size_none a.receive.0 a.send.0 m (λ q. omega arith) (λ q. omega arith)))
