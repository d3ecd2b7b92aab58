-- `wire::Text::put_decimal`: as many digits as the number takes, by `put_digits`, after the label.
-- Assumes nothing.
use mathlib.Core.Path.{ap}
use Prim.Native.Nat.{ℕ}
use native.Mathlib.Omega.{arith}
use Rattle.wire.specs.Text.{digits_of}
use Rattle.wire.proofs.Typing.{puts-then, puts}
use Rattle.wire.proofs.Text.put_decimal.Goals as goal

pub put_digits-requires : goal.put_digits-requires
put_digits-requires c = (omega arith, omega arith, c.places-p.ensures.1)

pub returns : goal.returns
returns c =
    let a = c.args in
    puts-then c.put_bytes.ensures (puts (ap (λ (n : ℕ). digits_of 10 n a.x) c.places-p.ensures.0) c.put_digits.ensures)
