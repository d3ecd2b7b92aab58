-- `Status::unpack`: each field is read from its bits.
-- Assumes nothing.
use mathlib.Core.Path.{◌∙◌, ap}
use Rattle.wire.proofs.Fields.{masked}
use Rattle.channel_bytes.specs.Bytes.{state_at, status_at}
use Rattle.channel_bytes.proofs.Status.unpack.Goals as goal

pub returns : goal.returns
unfolding status_at
returns c =
    let b = c.args.byte in
    λ i.
    record {
      has_write_event = c.flag.ensures i;
      has_read_event = c.flag-2.ensures i;
      mailbox_full = c.flag-3.ensures i;
      buffer_state = (c.from.ensures ∙ ap state_at (masked b 4 2)) i;
      read_buffer_open = c.flag-4.ensures i;
      write_buffer_open = c.flag-5.ensures i;
    }
