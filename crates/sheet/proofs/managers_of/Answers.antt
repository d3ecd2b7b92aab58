-- `sheet::managers_of`: after k turns the first k sync managers stand in the list.
-- Assumes nothing.
use mathlib.Core.Path.{refl}
use native.Mathlib.Omega.{arith}
use Rattle.channel_bytes.specs.Bytes.{control_at}
use Rattle.wire.specs.Lists.{list_of}
use Rattle.sheet.proofs.Managers.{gathered}
use Rattle.sheet.proofs.managers_of.Goals as goal

pub loop-k-init : goal.loop-k-init
unfolding list_of control_at
loop-k-init c = refl

pub loop-k-preserved : goal.loop-k-preserved
loop-k-preserved c = gathered c.args.sheet.now {k = c.loop-k.k} (omega arith) c.loop-k.invariant c.from.ensures c.manager.ensures
