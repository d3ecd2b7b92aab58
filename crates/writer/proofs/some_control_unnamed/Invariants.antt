-- `writer::some_control_unnamed`: what is known of those before the loop's place.
-- Assumes nothing.
use Rattle.std.proofs.Common.{◌≡◌, take}
use Rattle.wire.specs.Lists.{some_of}
use Rattle.channel_bytes.specs.Bytes.{unnamed}
use Rattle.writer.proofs.some_control_unnamed.Given as goal

abbrev pub invariant-loop-m : goal.invariant-loop-m
invariant-loop-m l = l.unnamed ≡ some_of (λ m. unnamed m.control) (take l.m-index l.list)
