-- `Enable::unpack`: each flag is read from its bit.
-- Assumes nothing.
use Rattle.channel_bytes.specs.Bytes.{enable_at}
use Rattle.channel_bytes.proofs.Enable.unpack.Goals as goal

pub returns : goal.returns
unfolding enable_at
returns c =
    λ i.
    record {
      enable = c.flag.ensures i;
      «repeat» = c.flag-2.ensures i;
      enable_dc_event_bus_write = c.flag-3.ensures i;
      enable_dc_event_local_write = c.flag-4.ensures i;
      channel_pdi_disabled = c.flag-5.ensures i;
      repeat_ack = c.flag-6.ensures i;
    }
