-- Each public function's contract leaves one answer.
-- Assumes nothing.
use Rattle.wire.proofs.Pins.{Pins, same}
use Rattle.pdo.proofs.PdoDirection.filter_terms.Reads as filter-terms
use Rattle.pdo.proofs.is_data.Reads as is-data
use Rattle.pdo.proofs.coe_on.Reads as coe-on

pub filter-terms-pins : Pins filter-terms.Post (λ κs r s. r)
filter-terms-pins κs a x y s t p q = same p q

pub is-data-pins : Pins is-data.Post (λ κs r s. r)
is-data-pins κs a x y s t p q = same p q

pub coe-on-pins : Pins coe-on.Post (λ κs r s. r)
coe-on-pins κs a x y s t p q = same p q
