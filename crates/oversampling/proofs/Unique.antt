-- Each public function's contract leaves one answer, and one content of what it is lent.
-- Assumes nothing.
use mathlib.Core.Path.{◌≡◌, refl}
use Rattle.wire.specs.Room.{over}
use Rattle.wire.proofs.Pins.{Pins, same}
use Rattle.wire.proofs.Stated.{Saying, States}
use Rattle.sheet.specs.Sheet.{sheet_data}
use Rattle.pdo.specs.Bits.{multiplier_of, multipliers_of}
use Rattle.oversampling.specs.contracts.multiplier_of as multiplier-of
use Rattle.oversampling.specs.contracts.multipliers_for as multipliers-for

abbrev First : Saying multiplier-of.ended
First κs a r s = r ≡ multiplier_of a.0.now a.1.0

pub multiplier-of-states : States multiplier-of.ended (λ M 𝓤 𝓛. multiplier-of.clauses 𝓛) First
multiplier-of-states M 𝓤 𝓛 mem run κs a r s g = refl

pub multiplier-of-pins : Pins First (λ κs r s. r)
multiplier-of-pins κs a x y s t p q = same p q

abbrev Each : Saying multipliers-for.ended
Each κs a r s = s.1.1.0.now ≡ over (multipliers_of a.0.now (sheet_data a.1.0.now).pdos) a.1.1.0.now

pub multipliers-for-states : States multipliers-for.ended (λ M 𝓤 𝓛. multipliers-for.clauses 𝓛) Each
multipliers-for-states M 𝓤 𝓛 mem run κs a r s g = refl

pub multipliers-for-pins : Pins Each (λ κs r s. s.1.1.0.now)
multipliers-for-pins κs a x y s t p q = same p q
