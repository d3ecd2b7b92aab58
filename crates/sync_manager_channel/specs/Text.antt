-- The text of a sync manager channel: the crate's Display (document 01, 'Register images'), and an unnamed number as `unnamed 3` (document 02, 8/13).
-- Assumes nothing.
use Rattle.std.specs.Prelude.{List, [], ◌∷◌, ◌++◌, ℕ}
use Rattle.wire.specs.Text.{hex_of, decimal_of, enabled_text}
use Rattle.channel_bytes.specs.declared.OperationMode.{OperationMode}
use Rattle.channel_bytes.specs.declared.OperationMode.TheVariants as mode
use Rattle.channel_bytes.specs.declared.Direction.{Direction}
use Rattle.channel_bytes.specs.declared.Direction.TheVariants as direction
use Rattle.sync_manager_channel.specs.declared.SyncManagerChannel.{SyncManagerChannel}

-- start 0x1000, size 0x0080 (128)
unfoldable pub area_text : SyncManagerChannel → List ℕ
area_text s =
    (115 ∷ 116 ∷ 97 ∷ 114 ∷ 116 ∷ 32 ∷ hex_of 4 s.physical_start_address)
    ++ (44 ∷ 32 ∷ 115 ∷ 105 ∷ 122 ∷ 101 ∷ 32 ∷ hex_of 4 s.length_bytes.0)
    ++ (32 ∷ 40 ∷ decimal_of s.length_bytes.0)
    ++ (41 ∷ [])

-- unnamed 3
abbrev pub unnamed_text : ℕ → List ℕ
unnamed_text k = (117 ∷ 110 ∷ 110 ∷ 97 ∷ 109 ∷ 101 ∷ 100 ∷ 32 ∷ decimal_of k)

abbrev pub direction_name : Direction → List ℕ
direction_name direction.MasterRead = (77 ∷ 97 ∷ 115 ∷ 116 ∷ 101 ∷ 114 ∷ 82 ∷ 101 ∷ 97 ∷ 100 ∷ [])
direction_name direction.MasterWrite = (77 ∷ 97 ∷ 115 ∷ 116 ∷ 101 ∷ 114 ∷ 87 ∷ 114 ∷ 105 ∷ 116 ∷ 101 ∷ [])
direction_name (direction.Unnamed k) = unnamed_text k

-- , direction MasterWrite
abbrev pub direction_text : Direction → List ℕ
direction_text d = (44 ∷ 32 ∷ 100 ∷ 105 ∷ 114 ∷ 101 ∷ 99 ∷ 116 ∷ 105 ∷ 111 ∷ 110 ∷ 32 ∷ direction_name d)

abbrev pub mode_name : OperationMode → List ℕ
mode_name mode.Normal = (78 ∷ 111 ∷ 114 ∷ 109 ∷ 97 ∷ 108 ∷ [])
mode_name mode.Mailbox = (77 ∷ 97 ∷ 105 ∷ 108 ∷ 98 ∷ 111 ∷ 120 ∷ [])
mode_name (mode.Unnamed k) = unnamed_text k

-- , mode Mailbox
abbrev pub mode_text : OperationMode → List ℕ
mode_text m = (44 ∷ 32 ∷ 109 ∷ 111 ∷ 100 ∷ 101 ∷ 32 ∷ mode_name m)

-- , direction MasterWrite, mode Mailbox, enabled
unfoldable pub settings_text : SyncManagerChannel → List ℕ
settings_text s =
    direction_text s.control.direction
    ++ mode_text s.control.operation_mode
    ++ (44 ∷ 32 ∷ [])
    ++ enabled_text s.enable.enable

unfoldable pub channel_text : SyncManagerChannel → List ℕ
channel_text s = area_text s ++ settings_text s
