-- ETG1000.4 6.7.2, the bytes of a sync manager that are made up of fields: control, status and enable.
-- Assumes nothing.
use Rattle.std.specs.Prelude.{Bool, true, false, cond, ◌||◌, ℕ, ◌+◌, ◌*◌, ◌%◌, eqb, ltb}
use Rattle.std.specs.Prelude.{Option, None, Some}
use Rattle.wire.specs.Field.{bits_at, flag_at, bit}
use Rattle.channel_bytes.specs.declared.OperationMode.{OperationMode}
use Rattle.channel_bytes.specs.declared.OperationMode.TheVariants as mode
use Rattle.channel_bytes.specs.declared.Direction.{Direction}
use Rattle.channel_bytes.specs.declared.Direction.TheVariants as direction
use Rattle.channel_bytes.specs.declared.BufferState.{BufferState}
use Rattle.channel_bytes.specs.declared.BufferState.TheVariants.{First, Second, Third, Next}
use Rattle.channel_bytes.specs.declared.Control.{Control}
use Rattle.channel_bytes.specs.declared.Status.{Status}
use Rattle.channel_bytes.specs.declared.Enable.{Enable}

-- mode is Normal 0 or Mailbox 2; any other is the case with its number (document 02, 8/13)
abbrev pub mode_number : OperationMode → ℕ
mode_number mode.Normal = 0
mode_number mode.Mailbox = 2
mode_number (mode.Unnamed k) = k

abbrev pub mode_at : ℕ → OperationMode
mode_at n = cond (eqb n 0) mode.Normal (cond (eqb n 2) mode.Mailbox (mode.Unnamed n))

abbrev pub mode_named : ℕ → Bool
mode_named n = eqb n 0 || eqb n 2

-- the number of the case with a number
abbrev pub mode_unnamed : OperationMode → Option ℕ
mode_unnamed mode.Normal = None
mode_unnamed mode.Mailbox = None
mode_unnamed (mode.Unnamed k) = Some k

-- direction is MasterRead 0 or MasterWrite 1; any other likewise
abbrev pub direction_number : Direction → ℕ
direction_number direction.MasterRead = 0
direction_number direction.MasterWrite = 1
direction_number (direction.Unnamed k) = k

abbrev pub direction_at : ℕ → Direction
direction_at n = cond (eqb n 0) direction.MasterRead (cond (eqb n 1) direction.MasterWrite (direction.Unnamed n))

abbrev pub direction_named : ℕ → Bool
direction_named n = eqb n 0 || eqb n 1

abbrev pub direction_unnamed : Direction → Option ℕ
direction_unnamed direction.MasterRead = None
direction_unnamed direction.MasterWrite = None
direction_unnamed (direction.Unnamed k) = Some k

-- buffer state: First, Second, Third, Next as 0-3
abbrev pub state_number : BufferState → ℕ
state_number First = 0
state_number Second = 1
state_number Third = 2
state_number Next = 3

abbrev pub state_at : ℕ → BufferState
state_at n = cond (eqb n 0) First (cond (eqb n 1) Second (cond (eqb n 2) Third Next))

-- byte 4, control: bits 0-1 the mode, 2-3 the direction, 4 ECAT event, 5 DLS user event, 6 watchdog
unfoldable pub control_at : ℕ → Control
control_at b =
    record {
      operation_mode = mode_at (bits_at b 0 2);
      direction = direction_at (bits_at b 2 2);
      ecat_event_enable = flag_at b 4;
      dls_user_event_enable = flag_at b 5;
      watchdog_enable = flag_at b 6;
    }

-- of an unnamed number the low two bits; bit 7 is 0
unfoldable pub control_byte : Control → ℕ
control_byte c =
    mode_number c.operation_mode % 4
    + 4 * (direction_number c.direction % 4)
    + 16 * bit c.ecat_event_enable
    + 32 * bit c.dls_user_event_enable
    + 64 * bit c.watchdog_enable

-- an unnamed mode or direction, whatever its number
abbrev pub is_unnamed : Option ℕ → Bool
is_unnamed None = false
is_unnamed (Some k) = true

unfoldable pub unnamed : Control → Bool
unnamed c = is_unnamed (mode_unnamed c.operation_mode) || is_unnamed (direction_unnamed c.direction)

-- 13: an unnamed number that is named or above 3
abbrev pub wrong_number : (ℕ → Bool) → Option ℕ → Bool
wrong_number named None = false
wrong_number named (Some k) = named k || ltb 3 k

unfoldable pub misnumbered : Control → Bool
misnumbered c = wrong_number mode_named (mode_unnamed c.operation_mode) || wrong_number direction_named (direction_unnamed c.direction)

-- byte 5, status: 0 write event, 1 read event, 3 mailbox full, 4-5 buffer state, 6 read buffer open, 7 write buffer open
unfoldable pub status_at : ℕ → Status
status_at b =
    record {
      has_write_event = flag_at b 0;
      has_read_event = flag_at b 1;
      mailbox_full = flag_at b 3;
      buffer_state = state_at (bits_at b 4 2);
      read_buffer_open = flag_at b 6;
      write_buffer_open = flag_at b 7;
    }

unfoldable pub status_byte : Status → ℕ
status_byte s =
    bit s.has_write_event
    + 2 * bit s.has_read_event
    + 8 * bit s.mailbox_full
    + 16 * state_number s.buffer_state
    + 64 * bit s.read_buffer_open
    + 128 * bit s.write_buffer_open

-- byte 6: 0 enable, 1 repeat, 6 and 7 DC event on bus and on local write; byte 7: 0 PDI channel disabled, 1 repeat ack
unfoldable pub enable_at : ℕ → ℕ → Enable
enable_at b c =
    record {
      enable = flag_at b 0;
      «repeat» = flag_at b 1;
      enable_dc_event_bus_write = flag_at b 6;
      enable_dc_event_local_write = flag_at b 7;
      channel_pdi_disabled = flag_at c 0;
      repeat_ack = flag_at c 1;
    }

unfoldable pub enable_low : Enable → ℕ
enable_low e =
    bit e.enable + 2 * bit e.«repeat» + 64 * bit e.enable_dc_event_bus_write + 128 * bit e.enable_dc_event_local_write

unfoldable pub enable_high : Enable → ℕ
enable_high e = bit e.channel_pdi_disabled + 2 * bit e.repeat_ack
