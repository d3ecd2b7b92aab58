-- `wanted::wanted_of`: the sheet's refusals, then 18, then 6, then 7 and the routes; what is worked out before each return decides it.
-- Assumes nothing.
use mathlib.Core.Path.{◌≡◌, refl, sym, ◌∙◌, subst}
use mathlib.Core.Bool.{false}
use mathlib.Core.List.{List}
use Prim.Native.Nat.{ℕ}
use Rattle.std.specs.Prelude.{Ok, Err}
use Rattle.std.proofs.lemmas.Result.{err_from_is_err_and}
use Rattle.wire.specs.declared.Reason.TheVariants.{BadPairs}
use Rattle.sheet.specs.Sheet.{sheet_data}
use Rattle.passes.specs.Pairs.{bad_pairs}
use Rattle.wanted.specs.Wanted.{Wants}
use Rattle.wanted.proofs.Answered.{sound-bytes}
use Rattle.wanted.proofs.Wanting.{eighteen-wants, good-pairs, unread-pairs, six-wants, coe-wants, eeprom-wants}
use Rattle.wanted.proofs.wanted_of.Goals as goal
use Rattle.wanted.proofs.wanted_of.Goals.{else-by_pairs-via-then-by_pairs+else-bad_pairs, else-by_pairs-via-else-by_pairs}

pub returns-then-bad_pairs : goal.returns-then-bad_pairs
returns-then-bad_pairs c =
    let a = c.args in
    let s = c.in_ok-sound.sound.bytes.now in
    let sound = sound-bytes a.sheet.now s c.in_ok-sound.ensures in
    subst (λ (x : List ℕ). Wants a.mode a.chosen x a.multipliers.now (Err BadPairs)) sound.0
    (eighteen-wants a.mode a.chosen s a.multipliers.now sound.1 c.coe_on-coe.result c.coe_on-coe.ensures c.tally-bits.result c.tally-bits.ensures
    (sym c.by_pairs.ensures ∙ c.if-by_pairs.true) (sym c.bad_pairs.ensures ∙ c.if-bad_pairs.true))

pub returns-in_err-sizes : goal.returns-in_err-sizes
returns-in_err-sizes c =
    let a = c.args in
    let s = c.in_ok-sound.sound.bytes.now in
    let sound = sound-bytes a.sheet.now s c.in_ok-sound.ensures in
    let good : bad_pairs a.mode a.chosen (sheet_data s) a.multipliers.now ≡ false =
    elim c.else-by_pairs.branch [
      | else-by_pairs-via-then-by_pairs+else-bad_pairs w ↦
          good-pairs a.mode a.chosen s a.multipliers.now sound.1 c.coe_on-coe.result c.coe_on-coe.ensures c.tally-bits.result c.tally-bits.ensures
          (sym w.bad_pairs.ensures ∙ w.if-bad_pairs.false)
      | else-by_pairs-via-else-by_pairs w ↦
          unread-pairs a.mode a.chosen s a.multipliers.now sound.1 c.coe_on-coe.result c.coe_on-coe.ensures c.tally-bits.result c.tally-bits.ensures
          (sym c.by_pairs.ensures ∙ w.if-by_pairs.false)
    ] in
    let p = err_from_is_err_and c.from_residual-in_err-sizes.result c.from_residual-in_err-sizes.ensures.1 in
    subst (λ (x : List ℕ). Wants a.mode a.chosen x a.multipliers.now (c.from_residual-in_err-sizes.result)) sound.0
    (rw (p.1, p.2) (six-wants a.mode a.chosen s a.multipliers.now sound.1 c.coe_on-coe.result c.coe_on-coe.ensures c.tally-bits.result c.tally-bits.ensures good _ c.in_err-sizes.ensures _ refl))

pub returns-then-coe : goal.returns-then-coe
returns-then-coe c =
    let a = c.args in
    let s = c.in_ok-sound.sound.bytes.now in
    let sound = sound-bytes a.sheet.now s c.in_ok-sound.ensures in
    let good : bad_pairs a.mode a.chosen (sheet_data s) a.multipliers.now ≡ false =
    elim c.else-by_pairs.branch [
      | else-by_pairs-via-then-by_pairs+else-bad_pairs w ↦
          good-pairs a.mode a.chosen s a.multipliers.now sound.1 c.coe_on-coe.result c.coe_on-coe.ensures c.tally-bits.result c.tally-bits.ensures
          (sym w.bad_pairs.ensures ∙ w.if-bad_pairs.false)
      | else-by_pairs-via-else-by_pairs w ↦
          unread-pairs a.mode a.chosen s a.multipliers.now sound.1 c.coe_on-coe.result c.coe_on-coe.ensures c.tally-bits.result c.tally-bits.ensures
          (sym c.by_pairs.ensures ∙ w.if-by_pairs.false)
    ] in
    subst (λ (x : List ℕ). Wants a.mode a.chosen x a.multipliers.now (c.by_coe.result)) sound.0
    (coe-wants a.mode a.chosen s a.multipliers.now sound.1 c.coe_on-coe.result c.coe_on-coe.ensures c.tally-bits.result c.tally-bits.ensures
    good _ c.in_ok-sizes.ensures c.in_ok-sizes.sizes refl _ c.if-coe.true c.by_coe.ensures)

pub returns : goal.returns
returns c =
    let a = c.args in
    let s = c.in_ok-sound.sound.bytes.now in
    let sound = sound-bytes a.sheet.now s c.in_ok-sound.ensures in
    let good : bad_pairs a.mode a.chosen (sheet_data s) a.multipliers.now ≡ false =
    elim c.else-by_pairs.branch [
      | else-by_pairs-via-then-by_pairs+else-bad_pairs w ↦
          good-pairs a.mode a.chosen s a.multipliers.now sound.1 c.coe_on-coe.result c.coe_on-coe.ensures c.tally-bits.result c.tally-bits.ensures
          (sym w.bad_pairs.ensures ∙ w.if-bad_pairs.false)
      | else-by_pairs-via-else-by_pairs w ↦
          unread-pairs a.mode a.chosen s a.multipliers.now sound.1 c.coe_on-coe.result c.coe_on-coe.ensures c.tally-bits.result c.tally-bits.ensures
          (sym c.by_pairs.ensures ∙ w.if-by_pairs.false)
    ] in
    subst (λ (x : List ℕ). Wants a.mode a.chosen x a.multipliers.now (Ok c.by_eeprom.result)) sound.0
    (eeprom-wants a.mode a.chosen s a.multipliers.now sound.1 c.coe_on-coe.result c.coe_on-coe.ensures c.tally-bits.result c.tally-bits.ensures
    good _ c.in_ok-sizes.ensures c.in_ok-sizes.sizes refl _ c.if-coe.false c.by_eeprom.ensures)
