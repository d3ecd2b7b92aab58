-- The public function's contract leaves one answer.
-- Assumes nothing.
use mathlib.Core.Path.{◌≡◌, refl}
use Rattle.wire.proofs.Pins.{Pins, same}
use Rattle.wire.proofs.Stated.{Saying, States}
use Rattle.passes.specs.Use.{chosen_by}
use Rattle.pairs.specs.contracts.fmmu_mappings as fmmu-mappings

abbrev Chooses : Saying fmmu-mappings.ended
Chooses κs a r s = r ≡ chosen_by a.0 a.1.0.now

pub fmmu-mappings-states : States fmmu-mappings.ended (λ M 𝓤 𝓛. fmmu-mappings.clauses 𝓛) Chooses
fmmu-mappings-states M 𝓤 𝓛 mem run κs a r s g = refl

pub fmmu-mappings-pins : Pins Chooses (λ κs r s. r)
fmmu-mappings-pins κs a x y s t p q = same p q
