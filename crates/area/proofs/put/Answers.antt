-- `area::put`: after k turns the first k bytes stand over the others.
-- Assumes nothing.
use Rattle.std.proofs.Common.{◌∙◌, length-set, arith}
use Rattle.wire.proofs.Copied.{copied, copied-whole}
use Rattle.area.proofs.put.Goals as goal

pub loop-k-preserved : goal.loop-k-preserved
loop-k-preserved c =
    let l = c.loop-k in
    let a = c.args in
    (l.invariant.0, length-set l.to l.k _ ∙ l.invariant.1, copied 0 a.from.now a.to.now l.to l.k (omega arith) (omega arith) l.invariant.2)

pub returns : goal.returns
returns c =
    let l = c.loop-k in
    let a = c.args in
    copied-whole a.from.now a.to.now l.to l.k (omega arith) (omega arith) l.invariant.2
