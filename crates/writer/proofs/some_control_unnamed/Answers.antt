-- `writer::some_control_unnamed`: 5 is the sheet's own, of all.
-- Assumes nothing.
use mathlib.Core.Path.{◌∙◌, ap}
use native.Mathlib.Omega.{arith}
use lib.Seq.{take_all}
use Rattle.wire.specs.Lists.{some_of}
use Rattle.channel_bytes.specs.Bytes.{unnamed}
use Rattle.sheet.specs.Sheet.{some_unnamed}
use Rattle.writer.proofs.some_control_unnamed.Goals as goal

pub returns : goal.returns
unfolding some_unnamed
returns c = c.loop-m.invariant ∙ ap (some_of (λ m. unnamed m.control)) (take_all c.loop-m.m-index c.args.list.now (omega arith))
