-- `dump::usages_of`: after k turns the first k usages stand in the list.
-- Assumes nothing.
use mathlib.Core.Path.{refl, ◌∙◌, ap}
use native.Mathlib.Omega.{arith}
use lib.ListN.{length, set}
use Rattle.wire.specs.Lists.{list_of}
use Rattle.wire.proofs.Lists.{filled}
use Rattle.dump.proofs.Numbered.{filled-end}
use Rattle.dump.proofs.Usages.{usage_at, usages-numbered}
use Rattle.dump.proofs.usages_of.Goals as goal

pub loop-k-init : goal.loop-k-init
unfolding list_of
loop-k-init c = refl

pub loop-k-preserved : goal.loop-k-preserved
loop-k-preserved c =
    let l = c.loop-k in
    ap (set l.list l.k) c.usage.ensures ∙ filled (usage_at c.args.bytes.now) 0 16 l.k l.list (omega arith) l.invariant

pub returns : goal.returns
returns c =
    let l = c.loop-k in
    let s = c.args.bytes.now in
    filled-end (usage_at s) 0 l.k (length s) (omega arith) (usages-numbered s) l.invariant
