-- `Control::unpack`: each field is read from its bits.
-- Assumes nothing.
use mathlib.Core.Path.{◌∙◌, ap}
use Rattle.wire.proofs.Fields.{masked, masked_low}
use Rattle.channel_bytes.specs.Bytes.{mode_at, direction_at, control_at}
use Rattle.channel_bytes.proofs.Control.unpack.Goals as goal

pub returns : goal.returns
unfolding control_at
returns c =
    let b = c.args.byte in
    λ i.
    record {
      operation_mode = (c.from.ensures ∙ ap mode_at (masked_low b 2)) i;
      direction = (c.from-2.ensures ∙ ap direction_at (masked b 2 2)) i;
      ecat_event_enable = c.flag.ensures i;
      dls_user_event_enable = c.flag-2.ensures i;
      watchdog_enable = c.flag-3.ensures i;
    }
