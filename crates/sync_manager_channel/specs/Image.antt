-- ETG1000.4 6.7.2, the sync manager attributes: eight bytes, little-endian, and the fields that they hold.
-- Assumes nothing.
use Rattle.std.specs.Prelude.{◌≡◌, false, List, [], ◌∷◌, ◌++◌, ℕ, ◌<◌, get_or, Result}
use Rattle.wire.specs.Outcome.{Outcome, when, decide, outcome_by}
use Rattle.wire.specs.declared.Reason.{Reason}
use Rattle.wire.specs.Number.{little_at, little_of}
use Rattle.wire.specs.Image.{not_long, Part, part}
use Rattle.channel_bytes.specs.Bytes.{control_at, control_byte, misnumbered, status_at, status_byte, enable_at, enable_low, enable_high}
use Rattle.sync_manager_channel.specs.declared.SyncManagerChannel.{SyncManagerChannel}

-- what an image says
unfoldable pub channel_of : List ℕ → SyncManagerChannel
channel_of l =
    record {
      physical_start_address = little_at l 0 2;  -- 0-1: physical start
      length_bytes = record { 0 = little_at l 2 2 };  -- 2-3: length
      control = control_at (get_or l 4 0);  -- 4: control
      status = status_at (get_or l 5 0);  -- 5: status
      enable = enable_at (get_or l 6 0) (get_or l 7 0);  -- 6-7: enable
    }

-- the rest is reserved
abbrev pub reserved : List Part
reserved = part 4 7 1 ∷ part 5 2 1 ∷ part 6 2 4 ∷ part 7 2 6 ∷ []

-- the image of a record: each field in its place, of an unnamed number its low two bits, reserved bits 0
unfoldable pub image_of : SyncManagerChannel → List ℕ
image_of s =
    little_of 2 s.physical_start_address
    ++ little_of 2 s.length_bytes.0
    ++ (control_byte s.control ∷ status_byte s.status ∷ enable_low s.enable ∷ enable_high s.enable ∷ [])

-- start and length are numbers of two bytes, as their types say
pub record InRange (s : SyncManagerChannel) : Type 0 where
  pub start : s.physical_start_address < 65536
  pub length : s.length_bytes.0 < 65536

-- and an unnamed number is one of two bits that has no name
pub record Fits (s : SyncManagerChannel) : Type 0 where
  pub range : InRange s
  pub numbered : misnumbered s.control ≡ false

-- reading and writing a single image, with their refusals
abbrev pub read_channel : List ℕ → Outcome SyncManagerChannel
read_channel l = decide (when 1 (not_long 8 l) ∷ []) (channel_of l)

abbrev pub write_channel : SyncManagerChannel → List ℕ → Outcome ℕ
write_channel s room = decide (when 1 (not_long 8 room) ∷ when 13 (misnumbered s.control) ∷ []) 8

-- what reading says: the channel, or a refusal
abbrev pub channel_read_of : Result SyncManagerChannel Reason → Outcome SyncManagerChannel
channel_read_of r = outcome_by (λ s. s) r
