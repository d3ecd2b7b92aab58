-- `Status::pack`: each field stands above those below it.
-- Assumes nothing.
use mathlib.Core.Path.{refl}
use native.Mathlib.Omega.{arith}
use Rattle.wire.proofs.Fields.{above}
use Rattle.channel_bytes.specs.Bytes.{status_byte}
use Rattle.channel_bytes.proofs.Bytes.{made}
use Rattle.channel_bytes.proofs.Status.pack.Goals as goal

pub returns : goal.returns
unfolding status_byte
returns c =
    let m1 = made c.args.self.has_write_event c.from.ensures in
    let m2 = made c.args.self.has_read_event c.from-2.ensures in
    let m3 = made c.args.self.mailbox_full c.from-3.ensures in
    let m4 = made c.args.self.read_buffer_open c.from-4.ensures in
    let m5 = made c.args.self.write_buffer_open c.from-5.ensures in
    let p = above 8 1 1 {t = c.from.result} c.from-2.result refl (omega arith) (omega arith) (omega arith) in
    let q = above 8 1 3 c.from-3.result p (omega arith) (omega arith) (omega arith) in
    let r = above 8 2 4 c.number.result q (omega arith) (omega arith) (omega arith) in
    let s = above 8 1 6 c.from-4.result r (omega arith) (omega arith) (omega arith) in
    let t = above 8 1 7 c.from-5.result s (omega arith) (omega arith) (omega arith) in
    omega (arith, t)
