-- `translation::first_said`: what the rest says is what all say, as long as nothing was said.
-- Assumes nothing.
use Rattle.std.proofs.Common.{◌∙◌}
use Rattle.translation.specs.Translate.{says}
use Rattle.translation.proofs.Saying.{said-here, said-later, said-nowhere}
use Rattle.translation.proofs.first_said.Goals as goal

pub returns-in-Some : goal.returns-in-Some
returns-in-Some c =
    let a = c.args in
    said-here (says a.direction a.address) a.entries.now c.loop-image.image-index _ c.loop-image-test.true c.in-Some.ensures ∙ c.loop-image.invariant

pub loop-image-preserved : goal.loop-image-preserved
loop-image-preserved c =
    let a = c.args in
    said-later (says a.direction a.address) a.entries.now c.loop-image.image-index _ c.loop-image-test.true c.in_default.ensures ∙ c.loop-image.invariant

pub returns : goal.returns
returns c =
    let a = c.args in
    said-nowhere (says a.direction a.address) a.entries.now c.loop-image.image-index c.loop-image-test.false ∙ c.loop-image.invariant
