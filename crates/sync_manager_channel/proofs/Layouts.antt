-- A channel's eight bytes as a layout, part after part (ETG1000.4 6.7.2), and what the calls over it refuse.
-- Assumes nothing.
use mathlib.Core.Path.{refl}
use mathlib.Core.List.{[], ◌∷◌}
use Prim.Native.Nat.{ℕ}
use Rattle.wire.specs.Outcome.{when}
use Rattle.wire.proofs.Order.{passed_first}
use Rattle.wire.proofs.Images.{Layout, Calls}
use Rattle.wire.proofs.Built.{little, ◌followed-by◌, as_record}
use Rattle.channel_bytes.specs.declared.Control.{Control}
use Rattle.channel_bytes.specs.declared.Status.{Status}
use Rattle.channel_bytes.specs.declared.Enable.{Enable}
use Rattle.channel_bytes.specs.Bytes.{misnumbered}
use Rattle.channel_bytes.proofs.Layouts.{control_layout, status_layout, enable_layout}
use Rattle.sync_manager_channel.specs.declared.SyncManagerChannel.{SyncManagerChannel}
use Rattle.sync_manager_channel.specs.Image.{InRange, Fits}

-- a channel's values, in the order of the image
abbrev Values : Type 0
Values = ℕ × (ℕ × (Control × (Status × Enable)))

abbrev channel : Values → SyncManagerChannel
channel p =
    record { physical_start_address = p.0; length_bytes = record { 0 = p.1.0 }; control = p.1.1.0; status = p.1.1.1.0; enable = p.1.1.1.1 }

abbrev values : SyncManagerChannel → Values
values s = (s.physical_start_address, (s.length_bytes.0, (s.control, (s.status, s.enable))))

abbrev pub layout : Layout 8 SyncManagerChannel
layout =
    as_record channel values (λ s. refl) (λ p. refl)
    (little 2 followed-by little 2 followed-by control_layout followed-by status_layout followed-by enable_layout)

pub fits-layout : (s : SyncManagerChannel) → Fits s → layout.Fits s
fits-layout s h = (h.range.start, (h.range.length, (h.numbered, (tt, tt))))

-- 13 is what writing refuses, besides 1
abbrev pub calls : Calls layout
calls =
    record {
      unwritten = λ s. when 13 (misnumbered s.control) ∷ [];
      InRange = InRange;
      fits = λ s k t e. fits-layout s (record { range = t; numbered = (passed_first (when 13 (misnumbered s.control)) [] 8 k e).0 });
    }
