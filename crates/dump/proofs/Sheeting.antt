-- What `write_sheet` answers: its own room is enough for the PDO records, and what was read is refused no more, but for the sheet's room.
-- Assumes nothing.
use mathlib.Core.Path.{◌≡◌, refl, sym, ◌∙◌, ap, ap₂}
use mathlib.Core.Bool.{Bool, true, false, cond}
use mathlib.Core.List.{List, map}
use Prim.Native.Nat.{ℕ, zero, suc, ◌<◌}
use native.Mathlib.Omega.{arith}
use lib.ListN.{length, replicate}
use borrow.Author.Tests.{le-ltb, ltb-false}
use Rattle.wire.specs.Image.{Bytes}
use Rattle.std.specs.Prelude.{Result, Ok, Err}
use Rattle.wire.specs.Outcome.{Outcome, refused, accepted, number_of}
use Rattle.wire.specs.Room.{InRoom, text_in, room_after}
use Rattle.wire.specs.declared.Reason.{Reason}
use Rattle.wire.proofs.Bytes.{no_bytes, cons-bytes}
use Rattle.wire.proofs.Order.{never}
use Rattle.sheet.specs.declared.Device.{Device}
use Rattle.sheet.specs.Device.{Data, data_of}
use Rattle.writer.specs.Form.{sheet_of}
use Rattle.writer.specs.Writing.{writing, Writes}
use Rattle.dump.specs.declared.Head.{Head}
use Rattle.dump.specs.Categories.{categories, unended}
use Rattle.dump.specs.Records.{manager_for, pdos_in, not_records}
use Rattle.dump.specs.Dump.{manager_records, usages_for, dump_data, pdo_records, device_with, device_after, records_after, read_dump, ReadsDump, sheeting, WritesSheet}
use Rattle.dump.proofs.Kept.{records-long, keeps-rule, dump-keeps}
use Rattle.dump.proofs.Held.{data-back, not-refused}
use Rattle.dump.proofs.Reading.{Broken, Nameless, Short, Accepts, accepts}

-- zeros are bytes
pub zeros : (n : ℕ) → Bytes (replicate n 0)
zeros zero = no_bytes
zeros (suc n) = cons-bytes (omega arith) (zeros n)

-- what reading accepted, with the room that it was lent: the writer refuses it with none of 2, 4 and 5, and its sheet is that of the data
module _ (h : Head) (dump own : List ℕ) (receive : h.receive_size.0 < 65536) (send : h.send_size.0 < 65536) (bytes : Bytes dump) (own-bytes : Bytes own) where
  abbrev x : Data
  x = dump_data h (categories dump)

  abbrev device : Device
  device = device_with h x.managers x.usages (length x.pdos)

  pub only-room : (room : List ℕ) → Accepts h dump own x
      → (writing device (records_after (accepted x) own) room ≡ text_in (sheet_of x) room) × (sheet_of (data_of device (records_after (accepted x) own)) ≡ sheet_of x)
  unfolding writing dump_data
  only-room room g =
      let k = dump-keeps h dump receive send bytes g.rule g.named in
      let fits = ltb-false (length own) (length (pdo_records x)) g.fits in
      let n = not-refused h (categories dump) k own fits own-bytes in
      let is = ap sheet_of (data-back h (categories dump) k own fits) in
      (rw (n.0, n.1, n.2) (ap (λ (l : List ℕ). text_in l room) is), is)

  -- so what is written of it is that sheet, by the rule for texts
  module _ {d : Device} {after : List ℕ} (p : ReadsDump h dump own (Ok d) after) where
    pub outcome : read_dump h dump own ≡ accepted (data_of d after)
    outcome = sym p.says

    pub accepted-data : Accepts h dump own x
    accepted-data = let g = accepts h dump own outcome in accepts h dump own (outcome ∙ ap accepted g.is)

    pub given_is : data_of d after ≡ x
    given_is = (accepts h dump own outcome).is

    pub writes-text : {room left : List ℕ} {w : Result ℕ Reason} → Writes d after room w left → InRoom (text_in (sheet_of x) room) (sheet_of x) room w left
    writes-text {room} q =
        let a = outcome ∙ ap accepted given_is in
        let z : accepted d ≡ accepted device = p.holds ∙ ap (device_after h) a in
        let e : d ≡ device = cc in
        let s = p.leaves ∙ ap (λ (y : Outcome Data). records_after y own) a in
        let o = only-room room accepted-data in
        let t = ap₂ (λ (d : Device) (l : List ℕ). writing d l room) e s ∙ o.0 in
        let l = ap₂ (λ (d : Device) (l : List ℕ). sheet_of (data_of d l)) e s ∙ o.1 in
        record { says = q.says ∙ t; holds = q.holds ∙ ap₂ (λ (o : Outcome ℕ) (l : List ℕ). room_after o l room) t l }

module _ (h : Head) (dump own room : List ℕ) where
  abbrev cs : List (List ℕ)
  cs = categories dump

  abbrev y : Data
  y = dump_data h cs

  -- 255 PDOs of seven bytes each have room
  roomy : length own ≡ 1785 → Broken h dump own ≡ false → Short h dump own ≡ false
  unfolding dump_data
  roomy long e = le-ltb (length own) _ (omega (arith, long, records-long h cs, keeps-rule h.flags (map manager_for (manager_records cs)) (usages_for cs) (length (pdos_in cs)) e))

  -- what reading refuses is refused with that number
  refused-too : {n : ℕ} → length own ≡ 1785 → read_dump h dump own ≡ refused n → sheeting h dump room ≡ refused n
  unfolding read_dump sheeting
  refused-too {n} long e = go (unended dump) (not_records cs) (Broken h dump own) (Nameless h dump own) (Short h dump own) (roomy long) e
    where
      with : {m : ℕ} → ◌≡◌ {A = Outcome Data} (refused m) (refused n) → ◌≡◌ {A = Outcome ℕ} (refused m) (refused n)
      with {m} z = let k : m ≡ n = cc in ap refused k

      go :
          (a b c d s : Bool) → (c ≡ false → s ≡ false)
          → cond a (refused 16) (cond b (refused 17) (cond c (refused 4) (cond d (refused 5) (cond s (refused 12) (accepted y))))) ≡ refused n
          → cond a (refused 16) (cond b (refused 17) (cond c (refused 4) (cond d (refused 5) (text_in (sheet_of y) room)))) ≡ refused n
      go true b c d s r z = with z
      go false true c d s r z = with z
      go false false true d s r z = with z
      go false false false true s r z = with z
      go false false false false true r z = let w : ◌≡◌ {A = Bool} true false = r refl in cc
      go false false false false false r z = absurd (never (sym z))

  pub sheet-refused : {e : Reason} {after : List ℕ} → length own ≡ 1785 → ReadsDump h dump own (Err e) after → WritesSheet h dump room (Err e) room
  sheet-refused {e} {after} long p =
      let z : refused (number_of e) ≡ sheeting h dump room = sym (refused-too long (sym p.says)) in
      record { says = z; holds = ap (λ (o : Outcome ℕ). room_after o (sheet_of y) room) z }

  -- what it accepts is refused with none of its numbers, and the sheet's room is left
  pub sheet-written : {w : Result ℕ Reason} {left : List ℕ} → Accepts h dump own y → InRoom (text_in (sheet_of y) room) (sheet_of y) room w left → WritesSheet h dump room w left
  unfolding sheeting
  sheet-written g q = rw (g.ended, g.whole, g.rule, g.named) q

  -- and the other way round
  pub text-left : {w : Result ℕ Reason} {left : List ℕ} → Accepts h dump own y → WritesSheet h dump room w left → InRoom (text_in (sheet_of y) room) (sheet_of y) room w left
  unfolding sheeting
  text-left g q =
      let o : sheeting h dump room ≡ text_in (sheet_of y) room = rw (g.ended, g.whole, g.rule, g.named) in
      record { says = q.says ∙ o; holds = q.holds ∙ ap (λ (z : Outcome ℕ). room_after z (sheet_of y) room) o }
