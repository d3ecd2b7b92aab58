-- `wanted::survey`: what is known of the uses of the numbers from k on.
-- Assumes nothing.
use Prim.Native.Nat.{◌-◌}
use native.Mathlib.Omega.{arith}
use Rattle.wanted.proofs.Surveying.{seen_start, seen-with, seen-without, seen_end}
use Rattle.wanted.proofs.survey.Goals as goal

pub loop-k-init : goal.loop-k-init
loop-k-init c = (omega arith, seen_start c.args.bits c.args.entries)

pub loop-k-preserved-then-bits-k-gt0 : goal.loop-k-preserved-then-bits-k-gt0
loop-k-preserved-then-bits-k-gt0 c =
    let l = c.loop-k in
    let a = c.args in
    (omega arith, seen-with a.bits a.entries (l.k - 1) l.k l.seen (omega arith) (omega arith) l.invariant.1 c.with_use-seen.result c.if-bits-k-gt0.true c.with_use-seen.ensures)

pub loop-k-preserved : goal.loop-k-preserved
loop-k-preserved c =
    let l = c.loop-k in
    let a = c.args in
    (omega arith, seen-without a.bits a.entries (l.k - 1) l.k l.seen (omega arith) (omega arith) l.invariant.1 c.if-bits-k-gt0.false)

pub returns : goal.returns
returns c = let l = c.loop-k in let a = c.args in seen_end a.bits a.entries l.k l.seen (omega arith) l.invariant.1
