-- Each public function's contract leaves one answer.
-- Assumes nothing.
use Rattle.wire.proofs.Pins.{Pins, same}
use Rattle.grammar.proofs.manager_count.Reads as manager-count
use Rattle.grammar.proofs.usage_count.Reads as usage-count
use Rattle.grammar.proofs.pdo_count.Reads as pdo-count
use Rattle.grammar.proofs.manager_place.Reads as manager-place
use Rattle.grammar.proofs.usages_place.Reads as usages-place
use Rattle.grammar.proofs.pdos_place.Reads as pdos-place
use Rattle.grammar.proofs.wrong_length.Reads as wrong-length
use Rattle.grammar.proofs.rule_broken.Reads as rule-broken
use Rattle.grammar.proofs.are_pdos.Reads as are-pdos
use Rattle.grammar.proofs.pdos_end.Reads as pdos-end

pub wrong-length-pins : Pins wrong-length.Post (λ κs r s. r)
wrong-length-pins κs a x y s t p q = same p q

pub rule-broken-pins : Pins rule-broken.Post (λ κs r s. r)
rule-broken-pins κs a x y s t p q = same p q

pub manager-count-pins : Pins manager-count.Post (λ κs r s. r)
manager-count-pins κs a x y s t p q = same p q

pub usage-count-pins : Pins usage-count.Post (λ κs r s. r)
usage-count-pins κs a x y s t p q = same p q

pub pdo-count-pins : Pins pdo-count.Post (λ κs r s. r)
pdo-count-pins κs a x y s t p q = same p q

pub manager-place-pins : Pins manager-place.Post (λ κs r s. r)
manager-place-pins κs a x y s t p q = same p.0 q.0

pub usages-place-pins : Pins usages-place.Post (λ κs r s. r)
usages-place-pins κs a x y s t p q = same p.0 q.0

pub pdos-place-pins : Pins pdos-place.Post (λ κs r s. r)
pdos-place-pins κs a x y s t p q = same p.0 q.0

pub are-pdos-pins : Pins are-pdos.Post (λ κs r s. r)
are-pdos-pins κs a x y s t p q = same p q

pub pdos-end-pins : Pins pdos-end.Post (λ κs r s. r)
pdos-end-pins κs a x y s t p q = same p.0 q.0
