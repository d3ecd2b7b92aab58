-- `wanted::sound::Sound::some_size`: no size of the usage so far is above 0.
-- Assumes nothing.
use mathlib.Core.Path.{◌≡◌}
use mathlib.Core.Bool.{false, ◌&&◌}
use lib.Dec.{ltb}
use Rattle.wire.specs.Lists.{some_below}
use Rattle.sheet.specs.Sheet.{sheet_data}
use Rattle.channels.specs.Channels.{size_at}
use Rattle.passes.specs.Handed.{has_usage}
use Rattle.wanted.proofs.sound.Sound.some_size.Given as goal

abbrev pub invariant-loop-k : goal.invariant-loop-k
invariant-loop-k l = some_below (λ j. has_usage l.usage (sheet_data l.self.bytes.now).managers j && ltb 0 (size_at l.sizes j)) l.k ≡ false
