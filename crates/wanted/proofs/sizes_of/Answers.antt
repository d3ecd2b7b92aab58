-- `wanted::sizes_of`: the sheet's refusals, then 6, then 7; what is worked out before each return decides it.
-- Assumes nothing.
use mathlib.Core.Path.{◌≡◌, refl, sym, ◌∙◌, ap, subst}
use mathlib.Core.List.{List}
use Prim.Native.Nat.{ℕ}
use Rattle.std.specs.Prelude.{Ok, Err}
use Rattle.std.proofs.lemmas.Result.{err_from_is_err_and}
use Rattle.wire.specs.Outcome.{accepted}
use Rattle.wire.specs.declared.Reason.TheVariants.{NoEntry}
use Rattle.pdi.specs.declared.BitLen.{BitLen}
use Rattle.grammar.specs.Grammar.{manager_count}
use Rattle.sheet.specs.Sheet.{sheet_data}
use Rattle.pdo.specs.Direction.{usage_of}
use Rattle.wanted.specs.ByKind.{bits_in, of_usage}
use Rattle.wanted.specs.Paths.{rounded_in}
use Rattle.wanted.specs.Wanted.{Sized}
use Rattle.wanted.proofs.Answered.{sound-bytes}
use Rattle.wanted.proofs.Sizing.{eeprom-sizes, six-sizes, seven-sizes, all-sizes}
use Rattle.wanted.proofs.sizes_of.Goals as goal
use Rattle.wanted.proofs.sizes_of.Goals.{else-coe-via-then-coe+else-no_entry, else-coe-via-else-coe}

pub returns-in_err-sizes : goal.returns-in_err-sizes
returns-in_err-sizes c =
    let a = c.args in
    let s = c.in_ok-sound.sound.bytes.now in
    let sound = sound-bytes a.sheet.now s c.in_ok-sound.ensures in
    let mine : List BitLen = of_usage (sheet_data s).managers (usage_of a.direction) (bits_in s c.coe_on-coe.result a.multipliers.now) in
    let picked : c.of_usage.result ≡ mine =
    c.of_usage.ensures ∙ (λ i. of_usage (sheet_data s).managers (c.filter_terms.ensures i).usage (c.tally-bits.ensures i)) in
    let p = err_from_is_err_and c.from_residual-in_err-sizes.result c.from_residual-in_err-sizes.ensures.1 in
    subst (λ (x : List ℕ). Sized x a.multipliers.now a.direction c.from_residual-in_err-sizes.result) sound.0
    (rw (p.1, p.2)
    (six-sizes s a.multipliers.now a.direction sound.1 c.coe_on-coe.result c.coe_on-coe.ensures _ (c.in_err-sizes.ensures ∙ ap (rounded_in (manager_count s)) picked) _ refl))

pub returns-then-no_entry : goal.returns-then-no_entry
returns-then-no_entry c =
    let a = c.args in
    let s = c.in_ok-sound.sound.bytes.now in
    let sound = sound-bytes a.sheet.now s c.in_ok-sound.ensures in
    let mine : List BitLen = of_usage (sheet_data s).managers (usage_of a.direction) (bits_in s c.coe_on-coe.result a.multipliers.now) in
    let picked : c.of_usage.result ≡ mine =
    c.of_usage.ensures ∙ (λ i. of_usage (sheet_data s).managers (c.filter_terms.ensures i).usage (c.tally-bits.ensures i)) in
    let rounds : accepted c.in_ok-sizes.sizes ≡ rounded_in (manager_count s) mine = c.in_ok-sizes.ensures ∙ ap (rounded_in (manager_count s)) picked in
    subst (λ (x : List ℕ). Sized x a.multipliers.now a.direction (Err NoEntry)) sound.0
    (seven-sizes s a.multipliers.now a.direction sound.1 c.coe_on-coe.result c.coe_on-coe.ensures _ rounds c.in_ok-sizes.sizes refl
    c.if-coe.true (sym c.no_entry.ensures ∙ c.if-no_entry.true))

pub returns : goal.returns
returns c =
    let a = c.args in
    let s = c.in_ok-sound.sound.bytes.now in
    let sound = sound-bytes a.sheet.now s c.in_ok-sound.ensures in
    let mine : List BitLen = of_usage (sheet_data s).managers (usage_of a.direction) (bits_in s c.coe_on-coe.result a.multipliers.now) in
    let picked : c.of_usage.result ≡ mine =
    c.of_usage.ensures ∙ (λ i. of_usage (sheet_data s).managers (c.filter_terms.ensures i).usage (c.tally-bits.ensures i)) in
    let rounds : accepted c.in_ok-sizes.sizes ≡ rounded_in (manager_count s) mine = c.in_ok-sizes.ensures ∙ ap (rounded_in (manager_count s)) picked in
    subst (λ (x : List ℕ). Sized x a.multipliers.now a.direction (Ok c.in_ok-sizes.sizes)) sound.0
    (elim c.else-coe.branch [
      | else-coe-via-then-coe+else-no_entry w ↦
          all-sizes s a.multipliers.now a.direction sound.1 c.coe_on-coe.result c.coe_on-coe.ensures _ rounds c.in_ok-sizes.sizes refl
          w.if-coe.true (sym w.no_entry.ensures ∙ w.if-no_entry.false)
      | else-coe-via-else-coe w ↦
          eeprom-sizes s a.multipliers.now a.direction sound.1 c.coe_on-coe.result c.coe_on-coe.ensures _ rounds c.in_ok-sizes.sizes refl w.if-coe.false
    ])
