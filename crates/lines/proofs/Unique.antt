-- Each public function's contract leaves one answer, and one content of the room lent to it.
-- Assumes nothing.
use Rattle.wire.specs.Text.{page}
use Rattle.wire.proofs.Pins.{Pins, same}
use Rattle.lines.proofs.put_refused.Reads as put-refused
use Rattle.lines.proofs.put_bay.Reads as put-bay

pub put-refused-pins : Pins put-refused.Post (λ κs r s. page s.0.now r)
put-refused-pins κs a x y s t p q = same p.is q.is

pub put-bay-pins : Pins put-bay.Post (λ κs r s. page s.0.now r)
put-bay-pins κs a x y s t p q = same p.is q.is
