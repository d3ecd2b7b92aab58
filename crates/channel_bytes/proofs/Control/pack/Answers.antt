-- `Control::pack`: each field stands above those below it.
-- Assumes nothing.
use mathlib.Core.Path.{refl, ◌∙◌, ap₂}
use Prim.Native.Nat.{ℕ, ◌*◌, ◌%◌}
use native.Mathlib.Omega.{arith}
use lib.Bits.{bit_or, and_mask}
use Rattle.wire.proofs.Fields.{above}
use Rattle.channel_bytes.specs.Bytes.{control_byte}
use Rattle.channel_bytes.proofs.Bytes.{made}
use Rattle.channel_bytes.proofs.Control.pack.Goals as goal

pub returns : goal.returns
unfolding control_byte
returns c =
    let m1 = made c.args.self.ecat_event_enable c.from.ensures in
    let m2 = made c.args.self.dls_user_event_enable c.from-2.ensures in
    let m3 = made c.args.self.watchdog_enable c.from-3.ensures in
    let n = c.number.result in
    let k = c.number-2.result in
    let p = ap₂ (λ (x y : ℕ). bit_or x (y * 4 % 256)) (and_mask n 2) (and_mask k 2) ∙ above 8 2 2 {t = n % 4} (k % 4) refl (omega arith) (omega arith) (omega arith) in
    let q = above 8 1 4 c.from.result p (omega arith) (omega arith) (omega arith) in
    let r = above 8 1 5 c.from-2.result q (omega arith) (omega arith) (omega arith) in
    let s = above 8 1 6 c.from-3.result r (omega arith) (omega arith) (omega arith) in
    omega (arith, s)
