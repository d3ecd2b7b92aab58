-- Device data that a dump gives, where no rule of a sheet is broken and no mode or direction is unnamed: it has a sheet, which is at most 1,892 bytes
-- and reads as that data.
-- Assumes nothing.
use mathlib.Core.Path.{◌≡◌, refl, sym, ◌∙◌, ap}
use mathlib.Core.Bool.{Bool, false, ◌||◌}
use mathlib.Core.List.{List, [], ◌∷◌, ◌++◌, map}
use Prim.Native.Nat.{ℕ, zero, suc, ◌+◌, ◌*◌, ◌≤◌, ◌<◌}
use native.Mathlib.Omega.{arith}
use lib.ListN.{length, length-append}
use lib.Dec.{ltb}
use borrow.Author.Tests.{ltb-false}
use Rattle.wire.specs.Image.{Bytes}
use Rattle.wire.specs.Lists.{some_of, Each}
use Rattle.wire.specs.Outcome.{accepted}
use Rattle.wire.proofs.Lists.{or-none, none_of}
use Rattle.area.specs.Area.{flat}
use Rattle.sheet.specs.declared.SyncManager.{SyncManager}
use Rattle.sheet.specs.Device.{Data}
use Rattle.sheet.specs.Sheet.{some_unnamed, read_sheet}
use Rattle.writer.specs.Form.{body_bytes, sheet_of}
use Rattle.writer.proofs.Stored.{managers-long}
use Rattle.writer.proofs.Keeps.{Keeps}
use Rattle.writer.proofs.Parts.{managers_bytes, pdos_bytes, sheet-length}
use Rattle.writer.proofs.Back.{kept-reads}
use Rattle.writer.proofs.Rules.{unnamed_use}
use Rattle.writer.proofs.Conditions.{managers-keep}
use Rattle.dump.specs.declared.Head.{Head}
use Rattle.dump.specs.Categories.{type_of, categories, content_of}
use Rattle.dump.specs.Records.{manager_for, kind_for, pdos_for, pdos_in}
use Rattle.dump.specs.Dump.{manager_records, usages_for, dump_data, rule_broken, pdo_records}
use Rattle.dump.proofs.Pdos.{pdos-append, pdos-count, pdos-long}
use Rattle.dump.proofs.Ranges.{categories-bytes, starts-in-range, pdos-keep}

-- each PDO of a dump has seven bytes in a sheet, as its kind isn't 0
pub records-long : (h : Head) (cs : List (List ℕ)) → length (pdo_records (dump_data h cs)) ≡ 7 * length (dump_data h cs).pdos
unfolding dump_data pdos_in flat
records-long h [] = refl
records-long h (c ∷ cs) =
    let ps = pdos_for (kind_for (type_of c)) (content_of c) in
    let a = ap length (pdos-append ps (pdos_in cs)) ∙ length-append (pdos_bytes ps) (pdos_bytes (pdos_in cs)) in
    omega (arith, a, length-append ps (pdos_in cs), seven (kind_for (type_of c)) (content_of c), records-long h cs)
  where
    seven : (kind : ℕ) (l : List ℕ) → length (pdos_bytes (pdos_for kind l)) ≡ 7 * length (pdos_for kind l)
    seven zero l = refl
    seven (suc k) l = pdos-long (suc k) l (omega arith) ∙ ap (λ (n : ℕ). 7 * n) (sym (pdos-count (suc k) l (omega arith)))

-- a sheet is as long as its parts: its head, five bytes of each sync manager, the usages, the PDO records
sheet-long : (x : Data) → length (sheet_of x) ≡ 11 + 5 * length x.managers + length x.usages + length (pdo_records x)
unfolding body_bytes
sheet-long x =
    let a = length-append (managers_bytes x.managers) (x.usages ++ pdo_records x) in
    let b = length-append x.usages (pdo_records x) in
    omega (arith, sheet-length x, managers-long x.managers)

-- what the rules say of counts and usages, one by one
pub record KeepsRule (ms : List SyncManager) (us : List ℕ) (p : ℕ) : Type 0 where
  pub few_managers : length ms ≤ 16
  pub few_usages : length us ≤ 16
  pub few_pdos : p ≤ 255
  pub managers : some_of unnamed_use ms ≡ false
  pub usages : Each (λ (u : ℕ). u ≤ 3) us

pub keeps-rule : (flags : ℕ) (ms : List SyncManager) (us : List ℕ) (p : ℕ) → rule_broken flags ms us p ≡ false → KeepsRule ms us p
keeps-rule flags ms us p e =
    let o = rules-apart (ltb 7 flags) (ltb 16 (length ms)) (ltb 16 (length us)) (ltb 255 p) (some_of unnamed_use ms) (some_of (ltb 3) us) e in
    record {
      few_managers = ltb-false 16 (length ms) o.0;
      few_usages = ltb-false 16 (length us) o.1;
      few_pdos = ltb-false 255 p o.2;
      managers = o.3;
      usages = none_of (ltb 3) (λ (u : ℕ). u ≤ 3) (ltb-false 3) us o.4;
    }
  where
    rules-apart : (a b c d e f : Bool) → a || (b || (c || (d || (e || f)))) ≡ false → (b ≡ false) × (c ≡ false) × (d ≡ false) × (e ≡ false) × (f ≡ false)
    rules-apart a b c d e f h =
        let n = or-none b (c || (d || (e || f))) (or-none a (b || (c || (d || (e || f)))) h).1 in
        let u = or-none c (d || (e || f)) n.1 in
        let p = or-none d (e || f) u.1 in
        let q = or-none e f p.1 in
        (n.0, u.0, p.0, q.0, q.1)

-- the data of a dump, where its bytes and the caller's sizes are in range, no rule is broken and no mode or direction is unnamed
module _ (h : Head) (dump : List ℕ) (receive : h.receive_size.0 < 65536) (send : h.send_size.0 < 65536) (bytes : Bytes dump)
    (rule : rule_broken h.flags (map manager_for (manager_records (categories dump))) (usages_for (categories dump)) (length (pdos_in (categories dump))) ≡ false)
    (named : some_unnamed (map manager_for (manager_records (categories dump))) ≡ false) where
  abbrev x : Data
  x = dump_data h (categories dump)

  abbrev ms : List SyncManager
  ms = map manager_for (manager_records (categories dump))

  kept : KeepsRule ms (usages_for (categories dump)) (length (pdos_in (categories dump)))
  kept = keeps-rule h.flags ms (usages_for (categories dump)) (length (pdos_in (categories dump))) rule

  -- its sheet is short, by the counts: 11 + 5 * 16 + 16 + 7 * 255
  pub sheet-short : length (sheet_of x) ≤ 1892
  unfolding dump_data
  sheet-short = omega (arith, kept, sheet-long x, records-long h (categories dump))

  -- it has a sheet: bytes bound its numbers, the rules its counts and usages, and its modes and directions have names
  pub dump-keeps : Keeps x
  unfolding dump_data
  dump-keeps =
      record {
        receive = receive;
        send = send;
        few_managers = kept.few_managers;
        managers = managers-keep ms (starts-in-range (categories dump) (categories-bytes dump bytes)) named kept.managers;
        few_usages = kept.few_usages;
        usages = kept.usages;
        few_pdos = omega (arith, kept);
        pdos = pdos-keep (categories dump) (categories-bytes dump bytes);
        short = omega (arith, sheet-short, sheet-length x);
      }

  -- which reads as it
  pub sheet-reads : read_sheet (sheet_of x) ≡ accepted x
  sheet-reads = kept-reads x dump-keeps
