-- Each public function's contract leaves one answer, or one content of the area lent to it.
-- Assumes nothing.
use Rattle.wire.proofs.Pins.{Pins, same}
use Rattle.channels.proofs.sm_config.Reads as sm-config
use Rattle.channels.proofs.write_channel.Reads as write-channel
use Rattle.channels.proofs.write_channels.Reads as write-channels

pub sm-config-pins : Pins sm-config.Post (λ κs r s. r)
sm-config-pins κs a x y s t p q = same p q

pub write-channel-pins : Pins write-channel.Post (λ κs r s. s.0.now)
write-channel-pins κs a x y s t p q = same p q

pub write-channels-pins : Pins write-channels.Post (λ κs r s. s.0.now)
write-channels-pins κs a x y s t p q = same p q
