-- `wire::Text::put_digits`: typing the digits that are left where the loop stands is typing all of them from the start.
-- Assumes nothing.
use mathlib.Core.Path.{◌≡◌}
use Prim.Native.Nat.{◌-◌, ◌/◌, ◌^◌}
use Rattle.wire.specs.Text.{digits_of}
use Rattle.wire.proofs.Typing.{Left}
use Rattle.wire.proofs.Text.put_digits.Given as goal

abbrev pub invariant-loop : goal.invariant-loop
invariant-loop l =
    (l.weight ≡ l.base ^ (l.count - l.counter) / l.base) × Left l.initial.self l.self (digits_of l.base l.count l.x) (digits_of l.base (l.count - l.counter) l.x)
