-- `lockersheet::decimal`: the digits that are left, behind those that were taken, write the same number.
-- Assumes nothing.
use Rattle.std.proofs.Common.{◌≡◌, ◌≤◌, drop}
use Rattle.lockersheet.specs.Decimal.{number_from, number_in}
use Rattle.lockersheet.proofs.decimal.Given as goal

abbrev pub invariant-loop-byte : goal.invariant-loop-byte
invariant-loop-byte l = (l.value ≤ l.most) × (number_from l.most l.value (drop l.byte-index l.text) ≡ number_in l.most l.text)
