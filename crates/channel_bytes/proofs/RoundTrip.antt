-- Control, status and enable both ways: fields written and read, and bytes read and written.
-- Assumes nothing.
use mathlib.Core.Path.{◌≡◌, refl, sym, ◌∙◌, ap, ap₂}
use mathlib.Core.Bool.{Bool, true, false, false≢true, cond, not, ◌&&◌, ◌||◌}
use mathlib.Core.Logic.{◌↔◌}
use Rattle.std.specs.Prelude.{Some}
use Prim.Native.Nat.{ℕ, zero, suc, ◌/◌, ◌%◌, ◌<◌}
use native.Mathlib.Omega.{arith}
use lib.Dec.{eqb, ltb}
use borrow.Author.Tests.{ltb-false}
use Rattle.wire.specs.Field.{bits_at, bit}
use Rattle.wire.proofs.Fields.{bit-back}
use Rattle.wire.proofs.Below.{agree}
use Rattle.wire.proofs.Lists.{or-none}
use Rattle.wire.proofs.Reserved.{exactly}
use Rattle.channel_bytes.specs.declared.OperationMode.{OperationMode}
use Rattle.channel_bytes.specs.declared.OperationMode.TheVariants as mode
use Rattle.channel_bytes.specs.declared.Direction.{Direction}
use Rattle.channel_bytes.specs.declared.Direction.TheVariants as direction
use Rattle.channel_bytes.specs.declared.BufferState.{BufferState}
use Rattle.channel_bytes.specs.declared.BufferState.TheVariants.{First, Second, Third, Next}
use Rattle.channel_bytes.specs.declared.Control.{Control}
use Rattle.channel_bytes.specs.declared.Status.{Status}
use Rattle.channel_bytes.specs.declared.Enable.{Enable}
use Rattle.channel_bytes.specs.Bytes.{mode_number, mode_at, mode_named, mode_unnamed, direction_number, direction_at, direction_named, direction_unnamed, is_unnamed, wrong_number, state_number, state_at}
use Rattle.channel_bytes.specs.Bytes.{control_at, control_byte, unnamed, misnumbered, status_at, status_byte, enable_at, enable_low, enable_high}
use Rattle.channel_bytes.proofs.Bytes.{two-bits, control-laid, status-laid, low-laid, high-laid}

-- a number above 3 is wrong, whichever are named
above-3 : (named : ℕ → Bool) (k : ℕ) → wrong_number named (Some (suc (suc (suc (suc k))))) ≡ false → ⊥
above-3 named k h = let big = ltb-false 3 (suc (suc (suc (suc k)))) (or-none (named (suc (suc (suc (suc k))))) (ltb 3 (suc (suc (suc (suc k))))) h).1 in omega arith

-- a mode whose number isn't wrong comes back from its low two bits, and so does a direction
mode-back : (m : OperationMode) → wrong_number mode_named (mode_unnamed m) ≡ false → mode_at (mode_number m % 4) ≡ m
mode-back mode.Normal h = refl
mode-back mode.Mailbox h = refl
mode-back (mode.Unnamed zero) h = absurd (false≢true (sym h))
mode-back (mode.Unnamed (suc zero)) h = refl
mode-back (mode.Unnamed (suc (suc zero))) h = absurd (false≢true (sym h))
mode-back (mode.Unnamed (suc (suc (suc zero)))) h = refl
mode-back (mode.Unnamed (suc (suc (suc (suc k))))) h = absurd (above-3 mode_named k h)

direction-back : (d : Direction) → wrong_number direction_named (direction_unnamed d) ≡ false → direction_at (direction_number d % 4) ≡ d
direction-back direction.MasterRead h = refl
direction-back direction.MasterWrite h = refl
direction-back (direction.Unnamed zero) h = absurd (false≢true (sym h))
direction-back (direction.Unnamed (suc zero)) h = absurd (false≢true (sym h))
direction-back (direction.Unnamed (suc (suc zero))) h = refl
direction-back (direction.Unnamed (suc (suc (suc zero)))) h = refl
direction-back (direction.Unnamed (suc (suc (suc (suc k))))) h = absurd (above-3 direction_named k h)

state-back : (s : BufferState) → state_at (state_number s) ≡ s
state-back First = refl
state-back Second = refl
state-back Third = refl
state-back Next = refl

flag-back : (x : Bool) {n : ℕ} → n ≡ bit x → eqb n 1 ≡ x
flag-back x e = ap (λ (k : ℕ). eqb k 1) e ∙ bit-back x

-- a control whose numbers aren't wrong is read as it was written
pub control-read-write : (c : Control) → misnumbered c ≡ false → control_at (control_byte c) ≡ c
unfolding control_at misnumbered
control-read-write c h =
    let f = (control-laid c).fields in
    let right = or-none (wrong_number mode_named (mode_unnamed c.operation_mode)) (wrong_number direction_named (direction_unnamed c.direction)) h in
    λ i.
    record {
      operation_mode = (ap mode_at f.0 ∙ mode-back c.operation_mode right.0) i;
      direction = (ap direction_at f.1.0 ∙ direction-back c.direction right.1) i;
      ecat_event_enable = flag-back c.ecat_event_enable f.1.1.0 i;
      dls_user_event_enable = flag-back c.dls_user_event_enable f.1.1.1.0 i;
      watchdog_enable = flag-back c.watchdog_enable f.1.1.1.1.0 i;
    }

-- a number of two bits is read as no wrong one, so what a byte says has none
two-bits-numbered : (n : ℕ) → n < 4 → (wrong_number mode_named (mode_unnamed (mode_at n)) ≡ false) × (wrong_number direction_named (direction_unnamed (direction_at n)) ≡ false)
two-bits-numbered zero h = (refl, refl)
two-bits-numbered (suc zero) h = (refl, refl)
two-bits-numbered (suc (suc zero)) h = (refl, refl)
two-bits-numbered (suc (suc (suc zero))) h = (refl, refl)
two-bits-numbered (suc (suc (suc (suc n)))) h = absurd (omega arith)

pub control-numbered : (b : ℕ) → misnumbered (control_at b) ≡ false
unfolding control_at misnumbered
control-numbered b = ap₂ ◌||◌ (two-bits-numbered (bits_at b 0 2) (two-bits (b / 1))).0 (two-bits-numbered (bits_at b 2 2) (two-bits (b / 4))).1

-- a status that was written is read as it was
pub status-read-write : (s : Status) → status_at (status_byte s) ≡ s
unfolding status_at
status-read-write s =
    let f = (status-laid s).fields in
    λ i.
    record {
      has_write_event = flag-back s.has_write_event f.0 i;
      has_read_event = flag-back s.has_read_event f.1.0 i;
      mailbox_full = flag-back s.mailbox_full f.1.1.1.0 i;
      buffer_state = (ap state_at f.1.1.1.1.0 ∙ state-back s.buffer_state) i;
      read_buffer_open = flag-back s.read_buffer_open f.1.1.1.1.1.0 i;
      write_buffer_open = flag-back s.write_buffer_open f.1.1.1.1.1.1.0 i;
    }

-- the two bytes of enable that were written are read as they were
pub enable-read-write : (e : Enable) → enable_at (enable_low e) (enable_high e) ≡ e
unfolding enable_at
enable-read-write e =
    let l = (low-laid e).fields in
    let h = (high-laid e).fields in
    λ i.
    record {
      enable = flag-back e.enable l.0 i;
      «repeat» = flag-back e.«repeat» l.1.0 i;
      enable_dc_event_bus_write = flag-back e.enable_dc_event_bus_write l.1.1.1.0 i;
      enable_dc_event_local_write = flag-back e.enable_dc_event_local_write l.1.1.1.1.0 i;
      channel_pdi_disabled = flag-back e.channel_pdi_disabled h.0 i;
      repeat_ack = flag-back e.repeat_ack h.1.0 i;
    }

-- a mode and a direction with a name have no wrong number, nor has a control of such
mode-numbered : (m : OperationMode) → is_unnamed (mode_unnamed m) ≡ false → wrong_number mode_named (mode_unnamed m) ≡ false
mode-numbered mode.Normal h = refl
mode-numbered mode.Mailbox h = refl
mode-numbered (mode.Unnamed k) h = absurd (false≢true (sym h))

direction-numbered : (d : Direction) → is_unnamed (direction_unnamed d) ≡ false → wrong_number direction_named (direction_unnamed d) ≡ false
direction-numbered direction.MasterRead h = refl
direction-numbered direction.MasterWrite h = refl
direction-numbered (direction.Unnamed k) h = absurd (false≢true (sym h))

pub named-numbered : (c : Control) → unnamed c ≡ false → misnumbered c ≡ false
unfolding unnamed misnumbered
named-numbered c h =
    let both = or-none (is_unnamed (mode_unnamed c.operation_mode)) (is_unnamed (direction_unnamed c.direction)) h in
    ap₂ ◌||◌ (mode-numbered c.operation_mode both.0) (direction-numbered c.direction both.1)

-- so a control comes back from its byte exactly if it has no wrong number, which is 13
pub control-comes-back : (c : Control) → (control_at (control_byte c) ≡ c) ↔ (misnumbered c ≡ false)
control-comes-back c = (λ e. ap misnumbered (sym e) ∙ control-numbered (control_byte c), control-read-write c)

-- the case that tests of a number lead to: with a name, or the one with the number
mode-decided : (x y : Bool) (n : ℕ) → is_unnamed (mode_unnamed (cond x mode.Normal (cond y mode.Mailbox (mode.Unnamed n)))) ≡ not (x || y)
mode-decided true y n = refl
mode-decided false true n = refl
mode-decided false false n = refl

direction-decided : (x y : Bool) (n : ℕ) → is_unnamed (direction_unnamed (cond x direction.MasterRead (cond y direction.MasterWrite (direction.Unnamed n)))) ≡ not (x || y)
direction-decided true y n = refl
direction-decided false true n = refl
direction-decided false false n = refl

not-both : (x y : Bool) → not x || not y ≡ not (x && y)
not-both true y = refl
not-both false y = refl

-- what a byte says is unnamed, which is 5 in a sheet, exactly if its mode or its direction has no name
pub control-unnamed : (b : ℕ) → unnamed (control_at b) ≡ not (mode_named (bits_at b 0 2) && direction_named (bits_at b 2 2))
unfolding control_at unnamed
control-unnamed b =
    let m = bits_at b 0 2 in
    let d = bits_at b 2 2 in
    ap₂ ◌||◌ (mode-decided (eqb m 0) (eqb m 2) m) (direction-decided (eqb d 0) (eqb d 1) d) ∙ not-both (mode_named m) (direction_named d)

-- a control byte that is read and written is the byte with bit 7 cleared
pub control-again : (b : ℕ) → b < 256 → control_byte (control_at b) ≡ b % 128
unfolding control_at control_byte
control-again = agree (λ b. control_byte (control_at b)) (λ b. b % 128) 256 tt

-- so each of the 128 with bit 7 clear comes back
pub byte-comes-back : (b : ℕ) → b < 128 → control_byte (control_at b) ≡ b
byte-comes-back b h = control-again b (omega arith) ∙ omega arith

-- a control byte comes back exactly if bit 7 is 0
pub control-write-read : (b : ℕ) → b < 256 → (control_byte (control_at b) ≡ b) ↔ (bits_at b 7 1 ≡ 0)
unfolding control_at control_byte
control-write-read = exactly (λ b. control_byte (control_at b)) 7 1 tt

-- a status byte comes back exactly if bit 2 is 0
pub status-write-read : (b : ℕ) → b < 256 → (status_byte (status_at b) ≡ b) ↔ (bits_at b 2 1 ≡ 0)
unfolding status_at status_byte
status-write-read = exactly (λ b. status_byte (status_at b)) 2 1 tt

-- the low byte of enable comes back exactly if bits 2 to 5 are 0
pub enable-low-write-read : (high b : ℕ) → b < 256 → (enable_low (enable_at b high) ≡ b) ↔ (bits_at b 2 4 ≡ 0)
unfolding enable_at enable_low
enable-low-write-read high = exactly (λ b. enable_low (enable_at b high)) 2 4 tt

-- the high byte of enable comes back exactly if bits 2 to 7 are 0
pub enable-high-write-read : (low b : ℕ) → b < 256 → (enable_high (enable_at low b) ≡ b) ↔ (bits_at b 2 6 ≡ 0)
unfolding enable_at enable_high
enable-high-write-read low = exactly (λ b. enable_high (enable_at low b)) 2 6 tt
