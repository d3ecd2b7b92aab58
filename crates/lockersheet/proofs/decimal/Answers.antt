-- `lockersheet::decimal`: each end of the loop by the lemma of proofs/Digits.antt that it falls under.
-- Assumes nothing.
use Rattle.std.proofs.Common.{sym, ◌∙◌, ap, arith, ◌+◌, ◌*◌, drop}
use Prim.Native.Nat.{ℕ}
use Rattle.lockersheet.specs.Decimal.{number_from}
use Rattle.lockersheet.proofs.Digits.{past, stops, turn, at-end}
use Rattle.lockersheet.proofs.decimal.Goals as goal

pub returns-in_err-digit-clause-value : goal.returns-in_err-digit-clause-value
returns-in_err-digit-clause-value c =
    c.from_residual.ensures
    ∙ sym (stops c.args.most c.loop-byte.value c.loop-byte.byte-index c.args.text.now (omega arith) c.in_err-digit.ensures)
    ∙ c.loop-byte.invariant.1

pub returns-then-from-value-clause-value : goal.returns-then-from-value-clause-value
returns-then-from-value-clause-value c =
    let d = c.in_ok-digit.ensures in
    sym (turn c.args.most c.loop-byte.value c.loop-byte.byte-index c.args.text.now (omega arith) d.0
    ∙ past c.args.most _ _ (omega (arith, d.1, c.from.ensures, c.from-in-loop-byte.ensures, c.if-from-value.true)))
    ∙ c.loop-byte.invariant.1

pub loop-byte-preserved : goal.loop-byte-preserved
loop-byte-preserved c =
    let d = c.in_ok-digit.ensures in (
      omega (arith, c.from-in-loop-byte.ensures, c.if-from-value.false),
      ap (λ (x : ℕ). number_from c.args.most (10 * c.loop-byte.value + x) (drop (c.loop-byte.byte-index + 1) c.args.text.now)) (c.from.ensures ∙ d.1)
          ∙ sym (turn c.args.most c.loop-byte.value c.loop-byte.byte-index c.args.text.now (omega arith) d.0)
          ∙ c.loop-byte.invariant.1,
    )

pub returns-clause-value : goal.returns-clause-value
returns-clause-value c =
    sym (at-end c.args.most c.loop-byte.value c.loop-byte.byte-index c.args.text.now (omega arith) (omega arith)) ∙ c.loop-byte.invariant.1
