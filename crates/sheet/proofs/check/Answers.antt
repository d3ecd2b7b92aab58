-- `sheet::check`: a sheet of a right length has its head, and one that keeps the rules its sync managers.
-- Assumes nothing.
use mathlib.Core.Path.{sym}
use native.Mathlib.Omega.{arith}
use Rattle.grammar.proofs.Length.{long}
use Rattle.grammar.proofs.Broken.{kept}
use Rattle.sheet.proofs.check.Goals as goal

pub bounds-sheet-2 : goal.bounds-sheet-2
bounds-sheet-2 c =
    let l = long c.args.sheet.now (sym c.if-wrong_length.ensures) in
    omega (arith, l.0)

pub some_unnamed-requires : goal.some_unnamed-requires
some_unnamed-requires c =
    let k = kept c.args.sheet.now (sym c.if-rule_broken.ensures) in
    omega (arith, k.places)
