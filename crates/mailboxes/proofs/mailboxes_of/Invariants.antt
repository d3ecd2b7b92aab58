-- `mailboxes::mailboxes_of`: what is recorded and written so far, and the rest, give all.
-- Assumes nothing.
use Rattle.std.proofs.Common.{◌≡◌, drop}
use Rattle.std.proofs.Math.Option.{none}
use Rattle.sheet.specs.Sheet.{sheet_data}
use Rattle.channels.specs.Channels.{channels_after, channel_area}
use Rattle.mailboxes.specs.Mailbox.{mailbox_size, last_of, slot_of}
use Rattle.mailboxes.proofs.mailboxes_of.Given as goal

abbrev pub invariant-loop-k : goal.invariant-loop-k
invariant-loop-k l =
    record {
      written : channel_area (channels_after (mailbox_size (sheet_data l.sheet)) l.k (drop l.k (sheet_data l.sheet).managers)) l.channels
          ≡ channel_area (channels_after (mailbox_size (sheet_data l.sheet)) 0 (sheet_data l.sheet).managers) l.initial.channels;
      write : last_of 1 (sheet_data l.sheet).receive (slot_of l.write) l.k (drop l.k (sheet_data l.sheet).managers) ≡ last_of 1 (sheet_data l.sheet).receive none 0 (sheet_data l.sheet).managers;
      read : last_of 2 (sheet_data l.sheet).send (slot_of l.read) l.k (drop l.k (sheet_data l.sheet).managers) ≡ last_of 2 (sheet_data l.sheet).send none 0 (sheet_data l.sheet).managers;
    }
