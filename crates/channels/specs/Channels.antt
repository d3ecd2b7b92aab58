-- The images of the sync managers: sheet address and control, size in bytes, status 0, enabled only if ENABLE is set and the size is above 0.
-- Assumes nothing.
use Rattle.std.specs.Prelude.{Bool, false, cond, ◌&&◌, List, [], ◌∷◌, ℕ, suc, get_or, set, ltb}
use Rattle.std.proofs.Math.Option.{Option, none, some}
use Rattle.sync_manager_channel.specs.declared.SyncManagerChannel.{SyncManagerChannel}
use Rattle.channel_bytes.specs.declared.Enable.{Enable}
use Rattle.channel_bytes.specs.Bytes.{status_at}
use Rattle.sync_manager_channel.specs.Image.{image_of}
use Rattle.pdi.specs.declared.ByteLen.{ByteLen}
use Rattle.sheet.specs.declared.SyncManager.{SyncManager}
use Rattle.pdo.specs.Direction.{is_data}
use Rattle.area.specs.Area.{entries_of, flat, not_channels}

abbrev pub enabled : Bool → Enable
enabled on =
    record {
      enable = on;
      «repeat» = false;
      enable_dc_event_bus_write = false;
      enable_dc_event_local_write = false;
      channel_pdi_disabled = false;
      repeat_ack = false;
    }

abbrev pub channel_for : SyncManager → ℕ → SyncManagerChannel
channel_for m size =
    record {
      physical_start_address = m.start_addr;
      length_bytes = record { 0 = size };
      control = m.control;
      status = status_at 0;
      enable = enabled (m.enable && ltb 0 size);
    }

-- a sync manager that gets a size is written at its number, any other entry stays
abbrev pub written : ℕ → SyncManager → Option ℕ → List (List ℕ) → List (List ℕ)
written k m none area = area
written k m (some size) area = set area k (image_of (channel_for m size))

-- each in rising number; `size_for` says who gets which size
unfoldable pub channels_after : (ℕ → SyncManager → Option ℕ) → ℕ → List SyncManager → List (List ℕ) → List (List ℕ)
channels_after size_for k [] area = area
channels_after size_for k (m ∷ ms) area = channels_after size_for (suc k) ms (written k m (size_for k m) area)

-- the area after some are written; one that isn't 128 bytes stays
unfoldable pub channel_area : (List (List ℕ) → List (List ℕ)) → List ℕ → List ℕ
channel_area write area = cond (not_channels area) area (flat (write (entries_of 8 area)))

-- a size in bytes for each of sixteen numbers; those with process data get their images
abbrev pub size_at : List ByteLen → ℕ → ℕ
size_at sizes k = (get_or sizes k (record { 0 = 0 })).0

abbrev pub wanted_size : ℕ → SyncManager → Option ℕ
wanted_size size m = cond (is_data m.usage_type) (some size) none

abbrev pub size_by : List ByteLen → ℕ → SyncManager → Option ℕ
size_by sizes k m = wanted_size (size_at sizes k) m
