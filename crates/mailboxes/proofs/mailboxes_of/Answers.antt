-- `mailboxes::mailboxes_of`: what is recorded and written so far, and the rest, give all.
-- Assumes nothing.
use Rattle.std.proofs.Common.{sym, ◌∙◌, ap, ◌+◌, drop, arith}
use Rattle.sheet.specs.Sheet.{manager_at, manager_place, sheet_data}
use Rattle.sheet.proofs.Managers.{manager-turn, manager-end}
use Rattle.channels.specs.Channels.{channels_after, channel_area}
use Rattle.channels.proofs.After.{area-turn, area-end}
use Rattle.mailboxes.specs.Mailbox.{mailbox_size, size_for, later_of, slot_of}
use Rattle.mailboxes.proofs.Recorded.{last_turn, last_end}
use Rattle.mailboxes.proofs.mailboxes_of.Goals as goal

pub loop-k-preserved : goal.loop-k-preserved
loop-k-preserved c =
    let l = c.loop-k in
    let n = c.manager_count-k-end.ensures in
    let send = c.send_size-send.ensures in
    let receive = c.receive_size-receive.ensures in
    let s = c.args.sheet.now in
    let d = sheet_data s in
    let m = manager_at s (manager_place l.k) in
    let rest = drop (l.k + 1) d.managers in
    let turn = manager-turn s l.k (omega arith) in
    record {
      written = ap (channel_area (channels_after (mailbox_size d) (l.k + 1) rest)) c.write_mailbox.ensures
          ∙ area-turn (mailbox_size d) l.k m (drop l.k d.managers) rest turn l.channels _ (λ i. size_for (sym receive i) (sym send i) m)
          ∙ l.invariant.written;
      write = last_turn 1 d.receive l.k (slot_of l.write) (slot_of c.later-write.result) m rest (drop l.k d.managers) turn
          (c.later-write.ensures ∙ ap (λ x. later_of 1 x (slot_of l.write) l.k m) receive)
          ∙ l.invariant.write;
      read = last_turn 2 d.send l.k (slot_of l.read) (slot_of c.later-read.result) m rest (drop l.k d.managers) turn
          (c.later-read.ensures ∙ ap (λ x. later_of 2 x (slot_of l.read) l.k m) send)
          ∙ l.invariant.read;
    }

pub returns : goal.returns
returns c =
    let l = c.loop-k in
    let n = c.manager_count-k-end.ensures in
    let s = c.args.sheet.now in
    let d = sheet_data s in
    let over = manager-end s l.k (omega arith) in
    let read = last_end 2 d.send l.k (slot_of l.read) (drop l.k d.managers) over ∙ l.invariant.read in
    let write = last_end 1 d.receive l.k (slot_of l.write) (drop l.k d.managers) over ∙ l.invariant.write in (
      λ i. record { read = read i; write = write i; coe_on = c.coe_on.ensures i; complete = c.complete_access.ensures i },
      sym (area-end (mailbox_size d) l.k (drop l.k d.managers) l.channels over) ∙ l.invariant.written,
    )
