-- Each public function's contract leaves one answer.
-- Assumes nothing.
use Rattle.wire.proofs.Pins.{Pins, same}
use Rattle.channel_bytes.proofs.OperationMode.number.Reads as mode-number
use Rattle.channel_bytes.proofs.Direction.number.Reads as direction-number
use Rattle.channel_bytes.proofs.BufferState.number.Reads as state-number
use Rattle.channel_bytes.proofs.Control.unpack.Reads as control-unpack
use Rattle.channel_bytes.proofs.Control.unnamed.Reads as control-unnamed
use Rattle.channel_bytes.proofs.Control.misnumbered.Reads as control-misnumbered
use Rattle.channel_bytes.proofs.Control.pack.Reads as control-pack
use Rattle.channel_bytes.proofs.Status.unpack.Reads as status-unpack
use Rattle.channel_bytes.proofs.Status.pack.Reads as status-pack
use Rattle.channel_bytes.proofs.Enable.unpack.Reads as enable-unpack
use Rattle.channel_bytes.proofs.Enable.pack.Reads as enable-pack

pub mode-number-pins : Pins mode-number.Post (λ κs r s. r)
mode-number-pins κs a x y s t p q = same p q

pub direction-number-pins : Pins direction-number.Post (λ κs r s. r)
direction-number-pins κs a x y s t p q = same p q

pub state-number-pins : Pins state-number.Post (λ κs r s. r)
state-number-pins κs a x y s t p q = same p.0 q.0

pub control-unpack-pins : Pins control-unpack.Post (λ κs r s. r)
control-unpack-pins κs a x y s t p q = same p q

pub control-unnamed-pins : Pins control-unnamed.Post (λ κs r s. r)
control-unnamed-pins κs a x y s t p q = same p q

pub control-misnumbered-pins : Pins control-misnumbered.Post (λ κs r s. r)
control-misnumbered-pins κs a x y s t p q = same p q

pub control-pack-pins : Pins control-pack.Post (λ κs r s. r)
control-pack-pins κs a x y s t p q = same p q

pub status-unpack-pins : Pins status-unpack.Post (λ κs r s. r)
status-unpack-pins κs a x y s t p q = same p q

pub status-pack-pins : Pins status-pack.Post (λ κs r s. r)
status-pack-pins κs a x y s t p q = same p q

pub enable-unpack-pins : Pins enable-unpack.Post (λ κs r s. r)
enable-unpack-pins κs a x y s t p q = same p q

pub enable-pack-pins : Pins enable-pack.Post (λ κs r s. r)
enable-pack-pins κs a x y s t p q = same p q
