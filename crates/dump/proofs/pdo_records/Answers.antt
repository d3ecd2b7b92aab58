-- `dump::pdo_records`: so many records are passed up to where the walk stands.
-- Assumes nothing.
use mathlib.Core.Path.{sym, ◌∙◌, ap}
use native.Mathlib.Omega.{arith}
use Rattle.dump.specs.Records.{pdo_long}
use Rattle.dump.proofs.Parts.{left_over, walk_turn, walk_end}
use Rattle.dump.proofs.Pdos.{pdo-fits}
use Rattle.dump.proofs.pdo_records.Goals as goal

pub loop-long-preserved : goal.loop-long-preserved
loop-long-preserved c =
    let l = c.in-Some.ensures in
    walk_turn pdo_long pdo-fits c.loop-long.invariant (l.0 ∙ ap pdo_long c.behind.ensures) l.1

pub returns : goal.returns
returns c =
    let l = c.loop-long in
    let w = l.invariant in
    let end = walk_end pdo_long pdo-fits w (sym (ap pdo_long c.behind.ensures) ∙ c.in_default.ensures) in
    (end.0, left_over l.end c.args.bytes.now end.1, omega (arith, w.passed, w.within))
