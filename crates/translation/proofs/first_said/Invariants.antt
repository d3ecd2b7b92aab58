-- `translation::first_said`: what the rest says is what all say, as long as nothing was said.
-- Assumes nothing.
use Rattle.std.proofs.Common.{◌≡◌, map, drop}
use Rattle.translation.specs.Translate.{says, first_said, or_none}
use Rattle.translation.proofs.first_said.Given as goal

abbrev pub invariant-loop-image : goal.invariant-loop-image
invariant-loop-image l =
    or_none (first_said (map (says l.direction l.address) (drop l.image-index l.entries))) ≡ or_none (first_said (map (says l.direction l.address) l.entries))
