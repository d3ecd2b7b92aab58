-- The call's contract leaves one answer, and one content of each area lent to it.
-- Assumes nothing.
use mathlib.Core.Path.{◌≡◌}
use Rattle.wire.proofs.Pins.{Pins, with_room, same}
use Rattle.passes.proofs.Once.{configured-same}
use Rattle.subdevice.proofs.configure.Reads as configure

pub configure-pins : Pins configure.Post (λ κs r s. with_room (with_room r s.1.1.1.0.now) s.1.1.1.1.0.now)
configure-pins κs a x y s t p q =
    let r : x ≡ y = configured-same p.says q.says in
    λ i. ((r i, same p.entries q.entries i), same p.images q.images i)
