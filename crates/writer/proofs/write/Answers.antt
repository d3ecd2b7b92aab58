-- `writer::write`: the test that led to each refusal says that it is the first that holds; else what is laid is the sheet.
-- Assumes nothing.
use mathlib.Core.Path.{◌≡◌, sym, ◌∙◌, ap}
use mathlib.Core.Bool.{Bool, false}
use mathlib.Core.List.{List}
use Prim.Native.Nat.{ℕ, ◌+◌, ◌*◌, min}
use native.Mathlib.Omega.{arith}
use lib.ListN.{length, take}
use borrow.Author.Rules.{rules}
use Rattle.std.proofs.lemmas.Result.{err_from_is_err_and}
use Rattle.wire.specs.Room.{over}
use Rattle.wire.proofs.Lists.{take-least}
use Rattle.sheet.specs.declared.Device.{Device}
use Rattle.sheet.specs.Sheet.{some_unnamed}
use Rattle.writer.specs.Writing.{records_long, records_of, too_long, rule_broken}
use Rattle.writer.specs.Laid.{sheet_laid}
use Rattle.writer.specs.Again.{InRange}
use Rattle.writer.proofs.Range.{starts_fit}
use Rattle.writer.proofs.Rules.{kept}
use Rattle.writer.proofs.Lent.{records-long}
use Rattle.writer.proofs.Outcomes.{long-refused, short-enough, length-is, records-are, refused-two, refused-four, refused-five, refused-twelve, written-whole}
use Rattle.writer.proofs.write.Goals.{After-behind-behind, After-from}
use Rattle.writer.proofs.write.Goals as goal

-- at every call the record's numbers and the lent bytes are in the range of their types
pub in-range : (c : After-behind-behind) → InRange c.args.device c.args.bytes.now
in-range c =
    let d = c.args.device in
    record {
      receive = search rules;
      send = search rules;
      managers = search rules;
      starts = starts_fit d.managers c.well_formed.0.1.1.1.1.1.1.1.0.0 c.well_formed.0.1.1.1.1.1.1.1.0.1.1;
      usages = search rules;
      count = search rules;
      bytes = search rules;
    }

-- once all is asked: the sheet isn't too long, and what each test says
module _ (c : After-from) where
  abbrev d : Device
  d = c.args.device

  abbrev s : List ℕ
  s = c.args.bytes.now

  abbrev room : List ℕ
  room = c.args.room.now

  short : too_long d s ≡ false
  short = short-enough d s c.behind-behind.ensures c.pdos_end-long.ensures.0 c.in_ok-total.ensures

  total : c.in_ok-total.field-0 + 2 ≡ 11 + 5 * d.n + d.f + records_long d s
  total = length-is d s c.behind-behind.ensures c.pdos_end-long.ensures.0 c.in_ok-total.ensures.0

  records : c.front-records.result.now ≡ records_of d s
  records = records-are d s c.behind-behind.ensures c.pdos_end-long.ensures.0 c.front-records.ensures

  rule : {b : Bool} → c.rule_broken-broken.result ≡ b → rule_broken d (records_of d s) ≡ b
  rule e = ap (rule_broken d) (sym records) ∙ sym c.rule_broken-broken.ensures ∙ e

  named : {b : Bool} → c.some_control_unnamed-nameless.result ≡ b → some_unnamed (take d.n d.managers) ≡ b
  named e =
      let many : length d.managers ≡ 16 = search rules in
      let first : min d.n (length d.managers) ≡ c.min.result = omega (arith, c.min.ensures) in
      ap some_unnamed (sym (take-least d.n d.managers) ∙ ap (λ (i : ℕ). take i d.managers) first) ∙ sym c.some_control_unnamed-nameless.ensures ∙ e

pub returns-in_err-total : goal.returns-in_err-total
returns-in_err-total c =
    let p = err_from_is_err_and c.from_residual.result c.from_residual.ensures.1 in
    let e = c.in_err-total.ensures in
    let a = c.args in
    rw (p.1, p.2, e.0) (refused-two a.device a.bytes.now a.room.now (long-refused a.device a.bytes.now c.behind-behind.ensures c.pdos_end-long.ensures.0 e.1))

pub returns-then-broken : goal.returns-then-broken
returns-then-broken c =
    let k = (goal.at.returns-then-broken c).After-from in
    refused-four (d k) (s k) (room k) (short k) (rule k c.if-broken.true)

pub returns-then-nameless : goal.returns-then-nameless
returns-then-nameless c =
    let k = (goal.at.returns-then-nameless c).After-from in
    refused-five (d k) (s k) (room k) (short k) (rule k c.if-broken.false) (named k c.if-nameless.true)

pub returns-then-short : goal.returns-then-short
returns-then-short c =
    let k = (goal.at.returns-then-short c).After-from in
    refused-twelve (d k) (s k) (room k) (in-range (goal.at.returns-then-short c).After-behind-behind) (short k) (rule k c.if-broken.false) (named k c.if-nameless.false) (total k)
    (omega (arith, c.from.ensures, c.if-short.true))

pub put_sheet-requires : goal.put_sheet-requires
put_sheet-requires c =
    let k = (goal.at.put_sheet-requires c).After-from in
    let w = kept (d k) (records_of (d k) (s k)) (rule k c.if-broken.false) in
    let l = ap length (records k) ∙ records-long (d k) (s k) w.whole in
    let t = total k in
    (w.few_managers, w.few_usages, omega arith, omega (arith, c.from.ensures, c.if-short.false))

pub returns : goal.returns
returns c =
    let k = (goal.at.returns c).After-from in
    rw c.from-2.ensures
    (written-whole (d k) (s k) (room k) (in-range (goal.at.returns c).After-behind-behind) (short k) (rule k c.if-broken.false) (named k c.if-nameless.false) (total k)
    (omega (arith, c.from.ensures, c.if-short.false))
    (c.put_sheet.ensures ∙ ap (λ (l : List ℕ). over (sheet_laid (d k) (c.in_ok-total.field-0 + 2) l) (room k)) (records k)))
