-- An entry's sixteen bytes as a layout, part after part (ETG1000.4 Table 56), and what the calls over it refuse.
-- Assumes nothing.
use mathlib.Core.Path.{◌≡◌, refl}
use mathlib.Core.Bool.{Bool, true, false, ◌||◌}
use mathlib.Core.List.{[], ◌∷◌}
use Prim.Native.Nat.{ℕ, ◌+◌, ◌*◌, ◌%◌, ◌<◌}
use native.Mathlib.Omega.{arith}
use lib.Dec.{ltb}
use borrow.Author.Tests.{ltb-false}
use Rattle.wire.specs.Field.{bits_at, flag_at, bit}
use Rattle.wire.specs.Outcome.{when}
use Rattle.wire.proofs.Fields.{bit-lt, flag-bit}
use Rattle.wire.proofs.Lists.{or-none}
use Rattle.wire.proofs.Order.{passed_first}
use Rattle.wire.proofs.Reserved.{exactly}
use Rattle.wire.proofs.Images.{Layout, Calls}
use Rattle.wire.proofs.Built.{little, low_bits, reserved_byte, ◌followed-by◌, as_record}
use Rattle.fmmu.specs.declared.Fmmu.{Fmmu}
use Rattle.fmmu.specs.Image.{InRange, Fits, too_wide}

-- a bit field in a byte of its own
abbrev bits : Layout 1 ℕ
bits =
    low_bits 3 (λ x. x % 8) (λ b. bits_at b 0 3) (λ x. x < 8) (λ (x : ℕ). omega arith)
    (omega arith) (λ (x : ℕ) (h : x < 8). omega arith) (λ (b : ℕ). omega arith) (exactly (λ b. bits_at b 0 3 % 8) 3 5 tt)

-- the two access flags
abbrev access_byte : Bool × Bool → ℕ
access_byte p = bit p.0 + 2 * bit p.1

abbrev access_at : ℕ → Bool × Bool
access_at b = (flag_at b 0, flag_at b 1)

pub access-lt : (p : Bool × Bool) → access_byte p < 4
access-lt p =
    let r = bit-lt p.0 in
    let w = bit-lt p.1 in
    omega arith

pub access-back : (r w : Bool) → access_at (access_byte (r, w)) ≡ (r, w)
access-back true true = refl
access-back true false = refl
access-back false true = refl
access-back false false = refl

abbrev access : Layout 1 (Bool × Bool)
access =
    low_bits 2 access_byte access_at (λ p. Unit {0}) access-lt
    (omega arith) (λ p h. access-back p.0 p.1) (λ b. tt) (exactly (λ b. access_byte (access_at b)) 2 6 tt)

-- the enable flag
abbrev enabled : Layout 1 Bool
enabled =
    low_bits 1 bit (λ b. flag_at b 0) (λ e. Unit {0}) bit-lt (omega arith) (λ e h. flag-bit e) (λ b. tt) (exactly (λ b. bit (flag_at b 0)) 1 7 tt)

-- an entry's values, in the order of the image: the process data image's side, the device's, three reserved bytes
abbrev Values : Type 0
Values = (ℕ × (ℕ × (ℕ × ℕ))) × ((ℕ × (ℕ × ((Bool × Bool) × Bool))) × (Unit {0} × (Unit {0} × Unit {0})))

abbrev entry : Values → Fmmu
entry p =
    record {
      logical_start_address = p.0.0;
      length_bytes = record { 0 = p.0.1.0 };
      logical_start_bit = p.0.1.1.0;
      logical_end_bit = p.0.1.1.1;
      physical_start_address = p.1.0.0;
      physical_start_bit = p.1.0.1.0;
      read_enable = p.1.0.1.1.0.0;
      write_enable = p.1.0.1.1.0.1;
      enable = p.1.0.1.1.1;
    }

abbrev values : Fmmu → Values
values f = (
  (f.logical_start_address, (f.length_bytes.0, (f.logical_start_bit, f.logical_end_bit))),
  ((f.physical_start_address, (f.physical_start_bit, ((f.read_enable, f.write_enable), f.enable))), (tt, (tt, tt))),
)

abbrev pub layout : Layout 16 Fmmu
layout =
    as_record entry values (λ f. refl) (λ p. refl)
    ((little 4 followed-by little 2 followed-by bits followed-by bits)
    followed-by (little 2 followed-by bits followed-by access followed-by enabled)
    followed-by reserved_byte followed-by reserved_byte followed-by reserved_byte)

pub fits-layout : (f : Fmmu) → Fits f → layout.Fits f
fits-layout f h = ((h.start, (h.size, (h.start_bit, h.end_bit))), ((h.physical, (h.physical_bit, (tt, tt))), (tt, (tt, tt))))

-- an entry that isn't refused with 13 fits
pub in-range-fits : (f : Fmmu) → InRange f → too_wide f ≡ false → Fits f
unfolding too_wide
in-range-fits f t e =
    let p = or-none (ltb 7 f.logical_start_bit) (ltb 7 f.logical_end_bit || ltb 7 f.physical_start_bit) e in
    let q = or-none (ltb 7 f.logical_end_bit) (ltb 7 f.physical_start_bit) p.1 in
    let a = ltb-false 7 f.logical_start_bit p.0 in
    let b = ltb-false 7 f.logical_end_bit q.0 in
    let c = ltb-false 7 f.physical_start_bit q.1 in
    record { start = t.start; size = t.size; physical = t.physical; start_bit = omega arith; end_bit = omega arith; physical_bit = omega arith }

-- 13 is what writing refuses, besides 1
abbrev pub calls : Calls layout
calls =
    record {
      unwritten = λ f. when 13 (too_wide f) ∷ [];
      InRange = InRange;
      fits = λ f k t e. fits-layout f (in-range-fits f t (passed_first (when 13 (too_wide f)) [] 16 k e).0);
    }
