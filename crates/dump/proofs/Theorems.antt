-- The theorems of specs/Calls: what a dump gives has a sheet, written and read it comes back, an unknown category changes nothing, and neither do bytes
-- behind the end mark.
-- Assumes nothing.
use mathlib.Core.Path.{◌≡◌, refl, sym, ◌∙◌, ap, ap₂, subst, subst₂}
use mathlib.Core.Bool.{Bool}
use mathlib.Core.List.{List, [], ◌∷◌, map}
use Prim.Native.Nat.{ℕ, ◌≤◌}
use native.Mathlib.Omega.{arith}
use lib.ListN.{length}
use lib.Dec.{ltb}
use borrow.Author.Tests.{le-ltb}
use Rattle.wire.specs.Field.{flag_at}
use Rattle.std.specs.Prelude.{Result, Ok}
use Rattle.wire.specs.Outcome.{Outcome, accepted, Refusal, when, first, decide}
use Rattle.wire.specs.Room.{InRoom, text_in, room_after}
use Rattle.wire.specs.declared.Reason.{Reason}
use Rattle.wire.proofs.Pins.{same_result}
use Rattle.wire.proofs.Unique.{same-in-room}
use Rattle.area.specs.Area.{flat}
use Rattle.grammar.specs.Length.{follow}
use Rattle.sheet.specs.declared.Device.{Device}
use Rattle.sheet.specs.Device.{Pdo, Data, data_of}
use Rattle.sheet.specs.Sheet.{some_unnamed, read_sheet}
use Rattle.writer.specs.Form.{pdo_bytes, sheet_of}
use Rattle.writer.specs.Writing.{Writes}
use Rattle.writer.proofs.Parts.{sheet-length, parts}
use Rattle.writer.proofs.Theorems.{reads-back}
use Rattle.dump.specs.declared.Head.{Head}
use Rattle.dump.specs.Parts.{parts_of}
use Rattle.dump.specs.Categories.{categories, content_for, unended}
use Rattle.dump.specs.Records.{usage_for, manager_long, manager_for, pdos_in, not_records}
use Rattle.dump.specs.Dump.{dump_data, rule_broken, read_dump, Gives, sheeting, ReadsDump, WritesSheet}
use Rattle.dump.specs.Calls.{Call, given, sheet_from, HasSheet, ComesBack, SheetCall, SheetInOneCall, Same, SameSheet, Between, SteppedOver, Behind, EndsThere}
use Rattle.dump.proofs.Kept.{dump-keeps, sheet-short, sheet-reads}
use Rattle.dump.proofs.Reading.{Accepts}
use Rattle.dump.proofs.Sheeting.{accepted-data, given_is, writes-text, text-left}
use Rattle.dump.proofs.Stepped.{Alike, categories-alike, ends-alike}
use Rattle.dump.proofs.Ended.{ended-there}
use Rattle.dump.proofs.Unique.{same-given}

module _ (c : Call) (d : Device) (e : c.read ≡ Ok d) where
  abbrev x : Data
  x = dump_data c.head (categories c.dump)

  reads : ReadsDump c.head c.dump c.room (Ok d) c.left
  reads = subst (λ (r : Result Device Reason). ReadsDump c.head c.dump c.room r c.left) e c.promise

  -- none of the refusals holds, and the data is that of the categories
  none : Accepts c.head c.dump c.room x
  none = let r = c.range in accepted-data c.head c.dump c.room r.receive r.send r.bytes r.room_bytes reads

  is : given c d ≡ x
  is = let r = c.range in given_is c.head c.dump c.room r.receive r.send r.bytes r.room_bytes reads

-- what is produced has a sheet
pub has-sheet : HasSheet
has-sheet c d e =
    let r = c.range in
    let n = none c d e in
    let k = dump-keeps c.head c.dump r.receive r.send r.bytes n.rule n.named in
    let short = sheet-short c.head c.dump r.receive r.send r.bytes n.rule n.named in
    let reads = sheet-reads c.head c.dump r.receive r.send r.bytes n.rule n.named in
    let s : sheet_from c d ≡ sheet_of (x c d e) = ap sheet_of (is c d e) in (
      ap read_sheet s ∙ reads ∙ ap accepted (sym (is c d e)),
      subst (λ (l : List ℕ). follow l ≤ 1890) (sym s) (omega (arith, short, (parts (x c d e) k).follow, sheet-length (x c d e))),
    )

-- written and read, it comes back
pub comes_back_lem : ComesBack
comes_back_lem c w e b =
    let r = c.range in
    let q = subst (λ (l : List ℕ). Writes w.device l w.room w.answer w.left) b w.promise in
    let t = writes-text c.head c.dump c.room r.receive r.send r.bytes r.room_bytes (reads c w.device e) q in
    record {
      written = subst (λ (y : Data). InRoom (text_in (sheet_of y) w.room) (sheet_of y) w.room w.answer w.left) (sym (is c w.device e)) t;
      read = λ n r a s. let z = reads-back w n r a s in (z.0, (z.1.0, z.1.1 ∙ ap (data_of w.device) b));
    }

-- and `write_sheet` writes it
pub sheet-in-one-call : SheetInOneCall
sheet-in-one-call c d w e eh ed =
    let s = sheet_from c d in
    let text = writes_as in (
      text,
      λ h.
          let short = sheet-short c.head c.dump c.range.receive c.range.send c.range.bytes (none c d e).rule (none c d e).named in
          let long : length s ≤ 1892 = subst (λ (x : Data). length (sheet_of x) ≤ 1892) (sym (is c d e)) short in
          let fits : text_in s w.room ≡ accepted (length s) = ap (λ (b : Bool). decide (when 12 b ∷ []) (length s)) (le-ltb (length w.room) (length s) (omega arith)) in
          same_result (λ k. k) (λ k. k) (λ k. refl) {x = w.answer} {y = Ok (length s)} (text.says ∙ fits) refl,
    )
  where
    writes_as : InRoom (text_in (sheet_from c d) w.room) (sheet_from c d) w.room w.answer w.left
    writes_as =
        let p = subst₂ (λ (h : Head) (l : List ℕ). WritesSheet h l w.room w.answer w.left) eh ed w.promise in
        subst (λ (y : Data). InRoom (text_in (sheet_of y) w.room) (sheet_of y) w.room w.answer w.left) (sym (is c d e)) (text-left c.head c.dump c.room w.room (none c d e) p)

-- the data, the refusals and the outcome, by what is asked of a dump
abbrev data_by : Head → (fmmus managers : List ℕ) → List Pdo → Data
data_by h us ms ps =
    record {
      mailbox = flag_at h.flags 0;
      coe_protocol = flag_at h.flags 1;
      complete = flag_at h.flags 2;
      receive = h.receive_size.0;
      send = h.send_size.0;
      managers = map manager_for (parts_of manager_long ms);
      usages = map usage_for us;
      pdos = ps;
    }

abbrev refusals_by : Head → (cut broken : Bool) → (fmmus managers : List ℕ) → List Pdo → List Refusal
refusals_by h cut broken us ms ps =
    when 16 cut
    ∷ when 17 broken
    ∷ when 4 (rule_broken h.flags (map manager_for (parts_of manager_long ms)) (map usage_for us) (length ps))
    ∷ when 5 (some_unnamed (map manager_for (parts_of manager_long ms)))
    ∷ []

abbrev outcome_by : Head → List ℕ → (cut broken : Bool) → (fmmus managers : List ℕ) → List Pdo → Outcome Data
outcome_by h room cut broken us ms ps =
    first (refusals_by h cut broken us ms ps) (decide (when 12 (ltb (length room) (length (flat (map pdo_bytes ps)))) ∷ []) (data_by h us ms ps))

-- dumps that are asked alike are read alike, and their sheets written alike
module _ (h : Head) (room a b : List ℕ) (e : unended b ≡ unended a) (s : Alike (categories b) (categories a)) where
  alike : read_dump h b room ≡ read_dump h a room
  unfolding read_dump dump_data
  alike = λ i. outcome_by h room (e i) (s.records i) (s.fmmus i) (s.managers i) (s.pdos i)

  data-alike : dump_data h (categories b) ≡ dump_data h (categories a)
  unfolding dump_data
  data-alike = λ i. data_by h (s.fmmus i) (s.managers i) (s.pdos i)

  sheets-alike : sheeting h b room ≡ sheeting h a room
  unfolding sheeting dump_data
  sheets-alike = λ i. first (refusals_by h (e i) (s.records i) (s.fmmus i) (s.managers i) (s.pdos i)) (text_in (sheet_of (data_by h (s.fmmus i) (s.managers i) (s.pdos i))) room)

-- so their calls answer the same
same-calls : (a b : Call) → unended b.dump ≡ unended a.dump → Alike (categories b.dump) (categories a.dump) → Same a b
same-calls a b e s eh er =
    let p = subst₂ (λ (h : Head) (l : List ℕ). Gives h (read_dump h b.dump l) l b.read b.left) eh er b.promise in
    let q = subst (λ (y : Outcome Data). Gives a.head y a.room b.read b.left) (alike a.head a.room a.dump b.dump e s) p in
    let z = same-given b.read a.read b.left a.left q a.promise in
    (ap (λ (y : Result Device Reason × List ℕ). y.0) z, ap (λ (y : Result Device Reason × List ℕ). y.1) z)

same-sheets : (a b : SheetCall) → unended b.dump ≡ unended a.dump → Alike (categories b.dump) (categories a.dump) → SameSheet a b
same-sheets a b e s eh er =
    let p = subst₂ (λ (h : Head) (l : List ℕ). WritesSheet h b.dump l b.answer b.left) eh er b.promise in
    let o = sheets-alike a.head a.room a.dump b.dump e s in
    let d = ap sheet_of (data-alike a.head a.room a.dump b.dump e s) in
    let z = same-in-room (record { says = p.says ∙ o; holds = p.holds ∙ ap₂ (λ (y : Outcome ℕ) (l : List ℕ). room_after y l a.room) o d }) a.promise in
    (ap (λ (y : Result ℕ Reason × List ℕ). y.0) z, ap (λ (y : Result ℕ Reason × List ℕ). y.1) z)

-- with an unknown category in between
module _ {a b : List ℕ} (t : Between a b) where
  between_ends : unended b ≡ unended a
  between_ends = ap unended t.with ∙ ends-alike t.front t.category t.back ∙ ap unended (sym t.without)

  between-alike : Alike (categories b) (categories a)
  between-alike =
      subst₂ (λ (x y : List ℕ). Alike (categories x) (categories y)) (sym t.with) (sym t.without) (categories-alike t.front t.category t.back t.unknown)

pub stepped-over : SteppedOver
stepped-over = (λ a b t. same-calls a b (between_ends t) (between-alike t), λ a b t. same-sheets a b (between_ends t) (between-alike t))

-- with bytes behind the mark
module _ {a b : List ℕ} (t : Behind a b) where
  behind-ends : unended b ≡ unended a
  behind-ends = ap unended t.longer ∙ (ended-there t.more a t.bytes t.ended).1 ∙ sym t.ended

  behind-alike : Alike (categories b) (categories a)
  behind-alike =
      let z = ap categories t.longer ∙ (ended-there t.more a t.bytes t.ended).0 in
      record { records = ap not_records z; fmmus = ap (content_for 40) z; managers = ap (content_for 41) z; pdos = ap pdos_in z }

pub ends_there : EndsThere
ends_there = (λ a b t. same-calls a b (behind-ends t) (behind-alike t), λ a b t. same-sheets a b (behind-ends t) (behind-alike t))
