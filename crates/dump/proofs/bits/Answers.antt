-- `dump::bits`: so far the bits of the first k entries, each at most 255.
-- Assumes nothing.
use mathlib.Core.Path.{refl}
use Prim.Native.Nat.{◌+◌, ◌*◌}
use native.Mathlib.Omega.{arith}
use lib.ListN.{get_or}
use Rattle.wire.specs.Lists.{list_of}
use Rattle.dump.proofs.Pdos.{sum-next}
use Rattle.dump.proofs.bits.Goals as goal

pub loop-k-init : goal.loop-k-init
unfolding list_of
loop-k-init c = (refl, omega arith)

pub loop-k-preserved : goal.loop-k-preserved
loop-k-preserved c =
    let s = sum-next (λ j. get_or c.args.rest.now (8 + 8 * j + 5) 0) c.loop-k.k in
    (omega arith, omega arith)
