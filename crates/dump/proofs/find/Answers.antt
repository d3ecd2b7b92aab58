-- `dump::find`: what is noted and counted where the walk stands, and what is still to come, is what there is of all.
-- Assumes nothing.
use mathlib.Core.Path.{sym, ◌∙◌, ap}
use native.Mathlib.Omega.{arith}
use Rattle.dump.specs.Categories.{type_of, category_long}
use Rattle.dump.proofs.Noted.{seen-turn, seen_end, flag-counts}
use Rattle.dump.proofs.find.Goals as goal

pub loop-long-preserved : goal.loop-long-preserved
loop-long-preserved c =
    let kind = c.le16-kind.ensures ∙ ap type_of c.behind-rest.ensures in
    let long = c.in-Some.ensures.0 ∙ ap category_long c.behind.ensures in
    let known = flag-counts c.is_known.result c.is_known.ensures in
    seen-turn c.args.dump.now c.loop-long.end c.in-Some.long long c.in-Some.ensures.1 c.le16-kind.result c.loop-long.invariant kind
    c.with-places.ensures.fmmus c.with-places.ensures.managers c.with-places.ensures.inputs c.with-places.ensures.outputs (c.from-known.ensures ∙ known.0)
    (omega (arith, c.from-known.ensures, known.1))

pub returns : goal.returns
returns c = seen_end c.args.dump.now c.loop-long.invariant (sym (ap category_long c.behind.ensures) ∙ c.in_default.ensures)
