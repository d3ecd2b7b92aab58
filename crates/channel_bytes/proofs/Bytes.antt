-- The fields of the four bytes, from bit 0 up, with 0 where bits are reserved.
-- Assumes nothing.
use mathlib.Core.Path.{◌≡◌}
use mathlib.Core.Bool.{Bool, true, false}
use mathlib.Core.List.{List, [], ◌∷◌}
use mir.Val.{bool_byte}
use Prim.Native.Nat.{ℕ, ◌%◌, ◌<◌}
use native.Mathlib.Omega.{arith}
use Rattle.channel_bytes.specs.declared.BufferState.{BufferState}
use Rattle.channel_bytes.specs.declared.BufferState.TheVariants.{First, Second, Third, Next}
use Rattle.channel_bytes.specs.declared.Control.{Control}
use Rattle.channel_bytes.specs.declared.Status.{Status}
use Rattle.channel_bytes.specs.declared.Enable.{Enable}
use Rattle.channel_bytes.specs.Bytes.{mode_number, direction_number, state_number, control_byte, status_byte, enable_low, enable_high}
use Rattle.wire.specs.Field.{bit}
use Rattle.wire.proofs.Packed.{Field, field, flag, reserve, Laid, laid}

-- the byte that the library makes of a flag
pub made : {n : ℕ} (x : Bool) → n ≡ bool_byte x → (n ≡ bit x) × (n < 2)
made true e = (e, omega arith)
made false e = (e, omega arith)

-- the low two bits of a number
pub two-bits : (x : ℕ) → x % 4 < 4
two-bits x = omega arith

pub state-lt : (s : BufferState) → state_number s < 4
state-lt First = omega arith
state-lt Second = omega arith
state-lt Third = omega arith
state-lt Next = omega arith

abbrev pub control_fields : Control → List Field
control_fields c =
    field 2 (mode_number c.operation_mode % 4) (two-bits (mode_number c.operation_mode))
    ∷ field 2 (direction_number c.direction % 4) (two-bits (direction_number c.direction))
    ∷ flag c.ecat_event_enable ∷ flag c.dls_user_event_enable ∷ flag c.watchdog_enable ∷ reserve 1 ∷ []

pub control-laid : (c : Control) → Laid (control_byte c) (control_fields c)
unfolding control_byte
control-laid c = laid (control_fields c) (omega arith)

abbrev pub status_fields : Status → List Field
status_fields s =
    flag s.has_write_event ∷ flag s.has_read_event ∷ reserve 1 ∷ flag s.mailbox_full
    ∷ field 2 (state_number s.buffer_state) (state-lt s.buffer_state) ∷ flag s.read_buffer_open ∷ flag s.write_buffer_open ∷ []

pub status-laid : (s : Status) → Laid (status_byte s) (status_fields s)
unfolding status_byte
status-laid s = laid (status_fields s) (omega arith)

abbrev pub low_fields : Enable → List Field
low_fields e =
    flag e.enable ∷ flag e.«repeat» ∷ reserve 4 ∷ flag e.enable_dc_event_bus_write ∷ flag e.enable_dc_event_local_write ∷ []

pub low-laid : (e : Enable) → Laid (enable_low e) (low_fields e)
unfolding enable_low
low-laid e = laid (low_fields e) (omega arith)

abbrev pub high_fields : Enable → List Field
high_fields e = flag e.channel_pdi_disabled ∷ flag e.repeat_ack ∷ reserve 6 ∷ []

pub high-laid : (e : Enable) → Laid (enable_high e) (high_fields e)
unfolding enable_high
high-laid e = laid (high_fields e) (omega arith)
