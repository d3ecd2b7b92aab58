-- `dump::read`: the test that led to each refusal says that it is the first that holds; else the records are put, and the record holds the data.
-- Assumes nothing.
use mathlib.Core.Path.{◌≡◌, sym, ◌∙◌, ap, ap₂}
use mathlib.Core.Bool.{Bool, false, not, ◌||◌}
use mathlib.Core.List.{List, map}
use Prim.Native.Nat.{ℕ, ◌+◌, ◌*◌, ◌/◌, ◌≤◌}
use native.Mathlib.Omega.{arith}
use lib.ListN.{length, length-map}
use lib.Dec.{ltb}
use borrow.Author.Tests.{lt-ltb, le-ltb}
use borrow.Author.Rules.{rules}
use Rattle.wire.specs.Room.{over}
use Rattle.area.specs.Area.{flat}
use Rattle.sheet.specs.Device.{Pdo}
use Rattle.sheet.specs.Sheet.{some_unnamed}
use Rattle.writer.specs.Form.{pdo_bytes}
use Rattle.writer.proofs.Keeps.{Keeps}
use Rattle.dump.specs.declared.Head.{Head}
use Rattle.dump.specs.Categories.{marked, category_long, categories, content_for, unended}
use Rattle.dump.specs.Parts.{parts_of, rest_of}
use Rattle.dump.specs.Records.{usage_for, manager_long, manager_for, pdo_long, pdos_in, nonempty, not_records}
use Rattle.dump.specs.Dump.{manager_records, usages_for, dump_data, rule_broken, device_with}
use Rattle.dump.specs.Calls.{InRange}
use Rattle.dump.specs.Looked.{comes_before, pdos_from}
use Rattle.dump.proofs.Placed.{pdos-counted}
use Rattle.dump.proofs.Managers.{managers-many}
use Rattle.dump.proofs.Kept.{keeps-rule, dump-keeps}
use Rattle.dump.proofs.Reading.{Found, content-is, not-records-is, pdos-are, Broken, Nameless, Short, short-is, reads-16, reads-17, reads-4, reads-5, reads-12, reads-data}
use Rattle.dump.proofs.read.Goals.{After-find-found, After-second-twice}
use Rattle.dump.proofs.read.Goals as goal

-- at every call the sizes and the lent bytes are in the range of their types
pub in-range : (c : After-find-found) → InRange c.args.head c.args.dump.now c.args.room.now
in-range c = record { receive = search rules; send = search rules; bytes = search rules; room_bytes = search rules }

-- 16: by what stands behind the categories
end_marked :
    (dump : List ℕ) {rest : List ℕ} {m b : Bool} → rest ≡ rest_of category_long dump → m ≡ marked rest → m ≡ b → unended dump ≡ not b
unfolding unended
end_marked dump r m e = ap not (sym (m ∙ ap marked r) ∙ e)

-- once all is taken of the dump that the tests ask for
module _ (c : After-second-twice) where
  abbrev head : Head
  head = c.args.head

  abbrev dump : List ℕ
  dump = c.args.dump.now

  abbrev room : List ℕ
  room = c.args.room.now

  abbrev categories-at : List (List ℕ)
  categories-at = categories dump

  ended : unended dump ≡ false
  ended = end_marked dump (c.behind.ensures ∙ c.find-found.ensures.end) c.marked.ensures c.if-not-marked.false

  found : Found categories-at c.from_place-fmmus.result.now c.from_place-managers.result.now c.from_place-inputs.result.now c.from_place-outputs.result.now
  found =
      let f = c.find-found.ensures in
      record {
        fmmus_from = ap categories c.from_place-fmmus.ensures ∙ f.fmmus;
        managers_from = ap categories c.from_place-managers.ensures ∙ f.managers;
        inputs_from = ap categories c.from_place-inputs.ensures ∙ f.inputs;
        outputs_from = ap categories c.from_place-outputs.ensures ∙ f.outputs;
      }

  -- the four contents
  abbrev usages : List ℕ
  usages = c.content-usages.result.now

  abbrev managers : List ℕ
  managers = c.content-records.result.now

  usages-at : usages ≡ content_for 40 categories-at
  usages-at = content-is 40 categories-at _ found.fmmus_from c.content-usages.ensures

  managers-at : managers ≡ content_for 41 categories-at
  managers-at = content-is 41 categories-at _ found.managers_from c.content-records.ensures

  inputs-at : c.content.result.now ≡ content_for 50 categories-at
  inputs-at = content-is 50 categories-at _ found.inputs_from c.content.ensures

  outputs-at : c.content-2.result.now ≡ content_for 51 categories-at
  outputs-at = content-is 51 categories-at _ found.outputs_from c.content-2.ensures

  -- 17
  records : {r b : Bool} → r ≡ c.second-twice.result || (nonempty (rest_of manager_long managers) || (c.pdo_records-tx.result.cut || c.pdo_records-rx.result.cut)) → r ≡ b → not_records categories-at ≡ b
  records a e =
      let tx = c.pdo_records-tx.ensures.1 in
      let rx = c.pdo_records-rx.ensures.1 in
      let f = c.find-found in
      sym (not-records-is found f.result.known f.ensures.known managers-at inputs-at outputs-at)
      ∙ sym (a ∙ (λ i. c.second-twice.ensures i || (nonempty (rest_of manager_long managers) || (tx i || rx i))))
      ∙ e

  -- the PDOs, in dump order, as the places of the two categories say it
  abbrev count : ℕ
  count = c.pdo_records-tx.result.count + c.pdo_records-rx.result.count

  abbrev pdos : Bool → List Pdo
  pdos b = pdos_from b (categories c.from_place-inputs.result.now) (categories c.from_place-outputs.result.now)

  abbrev inputs_first : Bool
  inputs_first = comes_before c.find-found.result.places.inputs c.find-found.result.places.outputs

  counted : (b : Bool) → count ≡ length (pdos b)
  counted b =
      let many : List ℕ → ℕ = λ l. length (parts_of pdo_long l) in
      ap₂ ◌+◌ (c.pdo_records-tx.ensures.0 ∙ ap many c.content.ensures) (c.pdo_records-rx.ensures.0 ∙ ap many c.content-2.ensures)
      ∙ sym (pdos-counted b (categories c.from_place-inputs.result.now) (categories c.from_place-outputs.result.now))

  -- where 17 isn't given
  module _ (whole : not_records categories-at ≡ false) where
    pdos-at : pdos inputs_first ≡ pdos_in categories-at
    pdos-at = pdos-are found c.find-found.ensures.order whole

    count_at : count ≡ length (pdos_in categories-at)
    count_at = counted inputs_first ∙ ap length pdos-at

    -- 4
    rule : {r b : Bool} → r ≡ rule_broken head.flags (map manager_for (parts_of manager_long managers)) (map usage_for usages) count → r ≡ b → Broken head dump room ≡ b
    rule a e =
        sym (λ i. rule_broken head.flags (map manager_for (parts_of manager_long (managers-at i))) (map usage_for (usages-at i)) (count_at i)) ∙ sym a ∙ e

    -- what it says of the counts, where it isn't given
    counts : Broken head dump room ≡ false → (count ≤ 255) × (length managers / 8 ≤ 16) × (length usages ≤ 16)
    counts b =
        let cs = categories-at in
        let k = keeps-rule head.flags (map manager_for (manager_records cs)) (usages_for cs) (length (pdos_in cs)) b in
        let m = managers-many (content_for 41 cs) in
        let n = ap length managers-at in
        let u = length-map (content_for 40 cs) usage_for in
        let v = ap length usages-at in
        (omega (arith, count_at), omega arith, omega arith)

    -- 12
    short : {b : Bool} → ltb (length room) (7 * count) ≡ b → Short head dump room ≡ b
    short e = short-is head dump room count_at ∙ e

  -- 5
  controls : {r b : Bool} → r ≡ some_unnamed (map manager_for (parts_of manager_long managers)) → r ≡ b → Nameless head dump room ≡ b
  controls a e = sym (ap (λ (l : List ℕ). some_unnamed (map manager_for (parts_of manager_long l))) managers-at) ∙ sym a ∙ e

-- where neither 4 nor 5 holds the data has a sheet
kept : (c : After-find-found) → Broken c.args.head c.args.dump.now c.args.room.now ≡ false → Nameless c.args.head c.args.dump.now c.args.room.now ≡ false
    → Keeps (dump_data c.args.head (categories c.args.dump.now))
kept c b n = let r = in-range c in dump-keeps c.args.head c.args.dump.now r.receive r.send r.bytes b n

pub returns-then-not-marked : goal.returns-then-not-marked
returns-then-not-marked c =
    let a = c.args in
    reads-16 a.head a.dump.now a.room.now (end_marked a.dump.now (c.behind.ensures ∙ c.find-found.ensures.end) c.marked.ensures c.if-not-marked.true)

pub returns-then-not_records : goal.returns-then-not_records
returns-then-not_records c =
    let s = (goal.at.returns-then-not_records c).After-second-twice in
    reads-17 (head s) (dump s) (room s) (ended s) (records s c.not_records.ensures c.if-not_records.true)

pub returns-then-rule_broken : goal.returns-then-rule_broken
returns-then-rule_broken c =
    let s = (goal.at.returns-then-rule_broken c).After-second-twice in
    let w = records s c.not_records.ensures c.if-not_records.false in
    reads-4 (head s) (dump s) (room s) (ended s) w (rule s w c.rule_broken.ensures c.if-rule_broken.true)

pub returns-then-some_control_unnamed : goal.returns-then-some_control_unnamed
returns-then-some_control_unnamed c =
    let s = (goal.at.returns-then-some_control_unnamed c).After-second-twice in
    let w = records s c.not_records.ensures c.if-not_records.false in
    reads-5 (head s) (dump s) (room s) (ended s) w (rule s w c.rule_broken.ensures c.if-rule_broken.false)
    (controls s c.some_control_unnamed.ensures c.if-some_control_unnamed.true)

pub returns-then-room-p : goal.returns-then-room-p
returns-then-room-p c =
    let s = (goal.at.returns-then-room-p c).After-second-twice in
    let w = records s c.not_records.ensures c.if-not_records.false in
    reads-12 (head s) (dump s) (room s) (ended s) w (rule s w c.rule_broken.ensures c.if-rule_broken.false)
    (controls s c.some_control_unnamed.ensures c.if-some_control_unnamed.false) (short s w (lt-ltb _ _ c.if-room-p.true))

pub put_records-requires : goal.put_records-requires
put_records-requires c = omega (arith, counted (goal.at.put_records-requires c).After-second-twice c.comes_before.result, c.if-room-p.false)

pub device_of-requires : goal.device_of-requires
device_of-requires c =
    let s = (goal.at.device_of-requires c).After-second-twice in
    let w = records s c.not_records.ensures c.if-not_records.false in
    let k = counts s w (rule s w c.rule_broken.ensures c.if-rule_broken.false) in
    (k.1, k.2)

pub returns : goal.returns
returns c =
    let s = (goal.at.returns c).After-second-twice in
    let w = records s c.not_records.ensures c.if-not_records.false in
    let b = rule s w c.rule_broken.ensures c.if-rule_broken.false in
    let n = controls s c.some_control_unnamed.ensures c.if-some_control_unnamed.false in
    let fits = short s w (le-ltb _ _ c.if-room-p.false) in
    let stored = c.put_records.ensures ∙ ap (λ (ps : List Pdo). over (flat (map pdo_bytes ps)) (room s)) (ap (pdos s) c.comes_before.ensures ∙ pdos-at s w) in
    let held =
    c.device_of.ensures
    ∙ (λ i. device_with (head s) (map manager_for (parts_of manager_long (managers-at s i))) (map usage_for (usages-at s i)) (count_at s w i)) in
    reads-data (head s) (dump s) (room s) (ended s) w b n fits (kept (goal.at.returns c).After-find-found b n) held stored
