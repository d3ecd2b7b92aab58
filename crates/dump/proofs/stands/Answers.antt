-- `dump::stands`: a category stands there exactly if it has a length.
-- Assumes nothing.
use mathlib.Core.Path.{◌∙◌, ap}
use mathlib.Core.Bool.{Bool, cond}
use Rattle.dump.specs.Categories.{category_long}
use Rattle.dump.proofs.Parts.{long-stands}
use Rattle.dump.proofs.Categories.{at_front}
use Rattle.dump.proofs.stands.Goals as goal

pub returns : goal.returns
returns c =
    ap (λ (b : Bool). cond b 1 0) (c.is_some.ensures ∙ long-stands (category_long c.args.rest.now) c.category_long.result c.category_long.ensures ∙ (at_front c.args.rest.now).stands)
