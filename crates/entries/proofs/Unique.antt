-- The public function's contract leaves one answer, and one content of the area lent to it.
-- Assumes nothing.
use mathlib.Core.Path.{◌≡◌}
use Rattle.wire.proofs.Pins.{Pins, with_room, same}
use Rattle.passes.proofs.Once.{configured-same}
use Rattle.entries.proofs.write_entries.Reads as write_entries

pub write-entries-pins : Pins write_entries.Post (λ κs r s. with_room r s.0.now)
write-entries-pins κs a x y s t p q =
    let r : x ≡ y = configured-same p.says q.says in
    λ i. (r i, same p.holds q.holds i)
