-- `dump::content`: what stands behind the head of the category at the front, and no further than it.
-- Assumes nothing.
use mathlib.Core.Path.{◌∙◌, ap}
use Prim.Native.Nat.{ℕ}
use lib.ListN.{take, drop}
use Rattle.dump.proofs.Parts.{long-or}
use Rattle.dump.proofs.Categories.{at_front}
use Rattle.dump.proofs.content.Goals as goal

pub returns : goal.returns
returns c =
    let l = c.args.rest.now in
    let long = c.unwrap_or.ensures ∙ long-or c.category_long.result c.category_long.ensures in
    c.behind.ensures ∙ ap (drop 4) (c.front.ensures ∙ ap (λ (k : ℕ). take k l) long) ∙ (at_front l).content
