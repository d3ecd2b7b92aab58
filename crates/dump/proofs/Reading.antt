-- What `read` answers, by what its tests found.
-- Assumes nothing.
use mathlib.Core.Path.{◌≡◌, refl, sym, ◌∙◌, ap, ap₂}
use mathlib.Core.Bool.{Bool, true, false, cond, ◌||◌}
use mathlib.Core.List.{List, map}
use Prim.Native.Nat.{ℕ, ◌*◌}
use lib.ListN.{length}
use lib.Dec.{ltb}
use borrow.Author.Tests.{ltb-false}
use Rattle.wire.specs.Lists.{some_of}
use Rattle.std.specs.Prelude.{Ok, Err}
use Rattle.wire.specs.Outcome.{Outcome, refused, accepted, number_of}
use Rattle.wire.specs.declared.Reason.{Reason}
use Rattle.wire.specs.declared.Reason.TheVariants.{SheetRule, UnnamedControl, RoomTooShort, DumpCutShort, DumpRecords}
use Rattle.wire.specs.Room.{over}
use Rattle.wire.proofs.Lists.{or-none}
use Rattle.wire.proofs.Order.{never}
use Rattle.area.specs.Area.{flat}
use Rattle.writer.specs.Form.{pdo_bytes}
use Rattle.sheet.specs.declared.Device.{Device}
use Rattle.sheet.specs.Device.{Data, data_of}
use Rattle.sheet.specs.Sheet.{some_unnamed}
use Rattle.writer.proofs.Keeps.{Keeps}
use Rattle.dump.specs.declared.Head.{Head}
use Rattle.dump.specs.Parts.{rest_of}
use Rattle.dump.specs.Categories.{categories, content_for, unended}
use Rattle.dump.specs.Records.{manager_long, manager_for, pdo_long, pdos_in, nonempty, not_whole, second, not_records}
use Rattle.dump.specs.Dump.{manager_records, usages_for, dump_data, rule_broken, pdo_records, read_dump, device_with, device_after, records_after, ReadsDump}
use Rattle.dump.specs.Looked.{from_type, front_content, known_in, more_than, pdos_from}
use Rattle.dump.proofs.Looked.{front-is, single, records-looked, pdos-looked}
use Rattle.dump.proofs.Kept.{records-long}
use Rattle.dump.proofs.Held.{data-back}

-- the dump from the first category of each of the four types on
pub record Found (cs : List (List ℕ)) (fmmus managers inputs outputs : List ℕ) : Type 0 where
  pub fmmus_from : categories fmmus ≡ from_type 40 cs
  pub managers_from : categories managers ≡ from_type 41 cs
  pub inputs_from : categories inputs ≡ from_type 50 cs
  pub outputs_from : categories outputs ≡ from_type 51 cs

-- the content of the first of a type
pub content-is : (t : ℕ) (cs : List (List ℕ)) (from : List ℕ) {l : List ℕ} → categories from ≡ from_type t cs → l ≡ front_content (categories from) → l ≡ content_for t cs
content-is t cs from e q = q ∙ ap front_content e ∙ front-is t cs

module _ {cs : List (List ℕ)} {f m i o : List ℕ} (e : Found cs f m i o) where
  pub not-records-is : (known : ℕ) {ms tx rx : List ℕ} → known ≡ known_in cs → ms ≡ content_for 41 cs → tx ≡ content_for 50 cs → rx ≡ content_for 51 cs
      → more_than (categories f) (categories m) (categories i) (categories o) known || (nonempty (rest_of manager_long ms) || (nonempty (rest_of pdo_long tx) || nonempty (rest_of pdo_long rx)))
      ≡ not_records cs
  not-records-is known n a b c =
      (λ k.
      more_than (e.fmmus_from k) (e.managers_from k) (e.inputs_from k) (e.outputs_from k) (n k)
      || (nonempty (rest_of manager_long (a k)) || (nonempty (rest_of pdo_long (b k)) || nonempty (rest_of pdo_long (c k)))))
      ∙ records-looked cs

  pub pdos-are : {b : Bool} → b ≡ ltb (length (from_type 51 cs)) (length (from_type 50 cs)) → not_records cs ≡ false → pdos_from b (categories i) (categories o) ≡ pdos_in cs
  unfolding not_records
  pdos-are {b} q w = (λ k. pdos_from b (e.inputs_from k) (e.outputs_from k)) ∙ pdos-looked cs q (single cs (or-none (some_of not_whole cs) (second cs) w).1)

module _ (h : Head) (dump room : List ℕ) where
  abbrev cs : List (List ℕ)
  cs = categories dump

  abbrev x : Data
  x = dump_data h cs

  -- the conditions of 4, of 5 and of 12
  abbrev pub Broken : Bool
  Broken = rule_broken h.flags (map manager_for (manager_records cs)) (usages_for cs) (length (pdos_in cs))

  abbrev pub Nameless : Bool
  Nameless = some_unnamed (map manager_for (manager_records cs))

  abbrev pub Short : Bool
  Short = ltb (length room) (length (pdo_records x))

  -- the refusals in their order
  module _ (e : Reason) where
    refuses : read_dump h dump room ≡ refused (number_of e) → ReadsDump h dump room (Err e) room
    refuses o = record { says = sym o; holds = ap (device_after h) (sym o); leaves = ap (λ (o : Outcome Data). records_after o room) (sym o) }

  pub reads-16 : unended dump ≡ true → ReadsDump h dump room (Err DumpCutShort) room
  unfolding read_dump
  reads-16 a = refuses DumpCutShort (rw a)

  pub reads-17 : unended dump ≡ false → not_records cs ≡ true → ReadsDump h dump room (Err DumpRecords) room
  unfolding read_dump
  reads-17 a b = refuses DumpRecords (rw (a, b))

  pub reads-4 : unended dump ≡ false → not_records cs ≡ false → Broken ≡ true → ReadsDump h dump room (Err SheetRule) room
  unfolding read_dump
  reads-4 a b c = refuses SheetRule (rw (a, b, c))

  pub reads-5 : unended dump ≡ false → not_records cs ≡ false → Broken ≡ false → Nameless ≡ true → ReadsDump h dump room (Err UnnamedControl) room
  unfolding read_dump
  reads-5 a b c d = refuses UnnamedControl (rw (a, b, c, d))

  pub reads-12 :
      unended dump ≡ false → not_records cs ≡ false → Broken ≡ false → Nameless ≡ false → Short ≡ true → ReadsDump h dump room (Err RoomTooShort) room
  unfolding read_dump
  reads-12 a b c d f = refuses RoomTooShort (rw (a, b, c, d, f))

  -- accepted: that is the data, and none of the refusals holds
  pub record Accepts (y : Data) : Type 0 where
    pub is : y ≡ x
    pub ended : unended dump ≡ false
    pub whole : not_records cs ≡ false
    pub rule : Broken ≡ false
    pub named : Nameless ≡ false
    pub fits : Short ≡ false

  pub accepts : {y : Data} → read_dump h dump room ≡ accepted y → Accepts y
  unfolding read_dump
  accepts {y} e = go (unended dump) (not_records cs) Broken Nameless Short refl refl refl refl refl e
    where
      go :
          (a b c d s : Bool) → unended dump ≡ a → not_records cs ≡ b → Broken ≡ c → Nameless ≡ d → Short ≡ s
          → cond a (refused 16) (cond b (refused 17) (cond c (refused 4) (cond d (refused 5) (cond s (refused 12) (accepted x))))) ≡ accepted y
          → Accepts y
      go true b c d s p q r t u z = absurd (never z)
      go false true c d s p q r t u z = absurd (never z)
      go false false true d s p q r t u z = absurd (never z)
      go false false false true s p q r t u z = absurd (never z)
      go false false false false true p q r t u z = absurd (never z)
      go false false false false false p q r t u z = record { is = cc; ended = p; whole = q; rule = r; named = t; fits = u }

  -- the room is too short by what the PDOs take
  pub short-is : {p : ℕ} → p ≡ length (pdos_in cs) → Short ≡ ltb (length room) (7 * p)
  unfolding dump_data
  short-is e = ap (ltb (length room)) (records-long h cs ∙ ap (λ (k : ℕ). 7 * k) (sym e))

  -- none of them: the data, and its records in the room
  pub reads-data :
      {d : Device} {after : List ℕ} → unended dump ≡ false → not_records cs ≡ false → Broken ≡ false → Nameless ≡ false → Short ≡ false → Keeps x
      → d ≡ device_with h (map manager_for (manager_records cs)) (usages_for cs) (length (pdos_in cs)) → after ≡ over (flat (map pdo_bytes (pdos_in cs))) room
      → ReadsDump h dump room (Ok d) after
  unfolding read_dump dump_data
  reads-data a b c d f k p q =
      let o : read_dump h dump room ≡ accepted x = rw (a, b, c, d, f) in
      let s : data_of _ _ ≡ x = ap₂ data_of p q ∙ data-back h cs k room (ltb-false (length room) (length (pdo_records x)) f) in
      record { says = ap accepted s ∙ sym o; holds = ap accepted p ∙ ap (device_after h) (sym o); leaves = q ∙ ap (λ (o : Outcome Data). records_after o room) (sym o) }
