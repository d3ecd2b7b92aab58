-- `dump::managers_of`: after k turns the first k sync managers stand in the list.
-- Assumes nothing.
use mathlib.Core.Path.{refl, ◌∙◌, ap}
use Prim.Native.Nat.{◌/◌}
use native.Mathlib.Omega.{arith}
use lib.ListN.{length, set}
use Rattle.wire.specs.Lists.{list_of}
use Rattle.wire.proofs.Lists.{filled}
use Rattle.channel_bytes.specs.Bytes.{control_at}
use Rattle.sheet.specs.Sheet.{no_manager}
use Rattle.dump.specs.Records.{manager_for}
use Rattle.dump.proofs.Numbered.{filled-end}
use Rattle.dump.proofs.Managers.{nth_manager, managers-numbered}
use Rattle.dump.proofs.managers_of.Goals as goal

pub loop-k-init : goal.loop-k-init
unfolding list_of control_at
loop-k-init c = refl

pub loop-k-preserved : goal.loop-k-preserved
loop-k-preserved c =
    let l = c.loop-k in
    let s = c.args.records.now in
    let m = c.manager.ensures ∙ ap manager_for c.behind.ensures in
    ap (set l.list l.k) m ∙ filled (nth_manager s) no_manager 16 l.k l.list (omega arith) l.invariant

pub returns : goal.returns
returns c =
    let l = c.loop-k in
    let s = c.args.records.now in
    filled-end (nth_manager s) no_manager l.k (length s / 8) (omega arith) (managers-numbered s) l.invariant
