-- `Enable::pack`: in each byte, each field stands above those below it.
-- Assumes nothing.
use mathlib.Core.Path.{◌≡◌, refl, ◌∙◌}
use mathlib.Core.List.{[], ◌∷◌}
use Prim.Native.Nat.{◌+◌, ◌*◌}
use native.Mathlib.Omega.{arith}
use Rattle.wire.proofs.Fields.{above}
use Rattle.channel_bytes.specs.Bytes.{enable_low, enable_high}
use Rattle.channel_bytes.proofs.Bytes.{made}
use Rattle.channel_bytes.proofs.Enable.pack.Goals as goal

pub returns : goal.returns
unfolding enable_low enable_high
returns c =
    let m1 = made c.args.self.enable c.from.ensures in
    let m2 = made c.args.self.«repeat» c.from-2.ensures in
    let m3 = made c.args.self.enable_dc_event_bus_write c.from-3.ensures in
    let m4 = made c.args.self.enable_dc_event_local_write c.from-4.ensures in
    let m5 = made c.args.self.channel_pdi_disabled c.from-5.ensures in
    let m6 = made c.args.self.repeat_ack c.from-6.ensures in
    let a = c.args in
    let p = above 8 1 1 {t = c.from.result} c.from-2.result refl (omega arith) (omega arith) (omega arith) in
    let q = above 8 1 6 c.from-3.result p (omega arith) (omega arith) (omega arith) in
    let s = above 8 1 7 c.from-4.result q (omega arith) (omega arith) (omega arith) in
    let t = above 8 1 1 {t = c.from-5.result} c.from-6.result refl (omega arith) (omega arith) (omega arith) in
    let low : c.from.result + c.from-2.result * 2 + c.from-3.result * 64 + c.from-4.result * 128 ≡ enable_low a.self = omega arith in
    let high : c.from-5.result + c.from-6.result * 2 ≡ enable_high a.self = omega arith in
    λ i. (s ∙ low) i ∷ (t ∙ high) i ∷ []
