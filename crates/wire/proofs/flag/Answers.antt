-- `wire::flag`: the mask of one bit after the shift is the remainder by 2; above bit 7 nothing is left of a byte.
-- Assumes nothing.
use native.Mathlib.Omega.{arith}
use Rattle.wire.proofs.Fields.{flag-above, flag-masked}
use Rattle.wire.proofs.flag.Goals as goal

pub returns-then-shift-gt7 : goal.returns-then-shift-gt7
returns-then-shift-gt7 c = flag-above c.args.byte c.args.shift (omega arith) (omega arith)

pub returns : goal.returns
returns c = flag-masked c.args.byte c.args.shift
