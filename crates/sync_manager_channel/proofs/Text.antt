-- How long a channel's text is.
-- Assumes nothing.
use mathlib.Core.Bool.{Bool, true, false}
use Prim.Native.Nat.{◌≤◌}
use native.Mathlib.Omega.{arith}
use lib.ListN.{length, length-append}
use Rattle.wire.specs.Text.{enabled_text}
use Rattle.wire.proofs.Digits.{digits-length, decimal-length}
use Rattle.channel_bytes.specs.declared.OperationMode.{OperationMode}
use Rattle.channel_bytes.specs.declared.OperationMode.TheVariants as mode
use Rattle.channel_bytes.specs.declared.Direction.{Direction}
use Rattle.channel_bytes.specs.declared.Direction.TheVariants as direction
use Rattle.sync_manager_channel.specs.declared.SyncManagerChannel.{SyncManagerChannel}
use Rattle.sync_manager_channel.specs.Text.{area_text, direction_name, mode_name, settings_text, channel_text}

-- the longest name is `unnamed ` with a number
direction-length : (d : Direction) → length (direction_name d) ≤ 13
direction-length direction.MasterRead = omega arith
direction-length direction.MasterWrite = omega arith
direction-length (direction.Unnamed k) = let n = decimal-length k in omega arith

mode-length : (m : OperationMode) → length (mode_name m) ≤ 13
mode-length mode.Normal = omega arith
mode-length mode.Mailbox = omega arith
mode-length (mode.Unnamed k) = let n = decimal-length k in omega arith

enabled-length : (b : Bool) → length (enabled_text b) ≤ 8
enabled-length true = omega arith
enabled-length false = omega arith

pub channel-length : (s : SyncManagerChannel) → length (channel_text s) ≤ 96
unfolding channel_text area_text settings_text
channel-length s =
    let n = decimal-length s.length_bytes.0 in
    let d = direction-length s.control.direction in
    let m = mode-length s.control.operation_mode in
    let e = enabled-length s.enable.enable in
    simp length-append (simp (digits-length 16) (omega arith))
