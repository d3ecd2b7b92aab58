-- Refusals 2, 4 and 5 of a call, and its data: where none holds the data keeps what data with a sheet keeps; and where it keeps that, none holds.
-- Assumes nothing.
use mathlib.Core.Path.{◌≡◌, sym, subst}
use mathlib.Core.Bool.{true, false}
use mathlib.Core.List.{List, [], ◌∷◌}
use Prim.Native.Nat.{ℕ, zero, suc, ◌+◌, ◌*◌, ◌<◌, ◌≤◌}
use native.Mathlib.Omega.{arith}
use lib.ListN.{take, length-take}
use lib.Dec.{ltb}
use borrow.Author.Tests.{le-ltb, ltb-false}
use Rattle.wire.specs.Lists.{some_of, Each}
use Rattle.wire.proofs.Bytes.{part_bytes}
use Rattle.wire.proofs.Lists.{or-none, none_of, of_none}
use Rattle.grammar.specs.Grammar.{pdos_fit}
use Rattle.channel_bytes.specs.Bytes.{unnamed}
use Rattle.sheet.specs.declared.SyncManager.{SyncManager}
use Rattle.sheet.specs.declared.Device.{Device}
use Rattle.sheet.specs.Device.{Pdo, data_of}
use Rattle.sheet.specs.Sheet.{some_unnamed}
use Rattle.sheet.proofs.Sound.{length-pdos}
use Rattle.writer.specs.Writing.{records_long, records_of, too_long, rule_broken}
use Rattle.writer.specs.Again.{InRange}
use Rattle.writer.proofs.Keeps.{KeepsManager, KeepsPdo, Keeps}
use Rattle.writer.proofs.Rules.{unnamed_use, kept, keeping}
use Rattle.writer.proofs.Records.{fit-keeps}
use Rattle.writer.proofs.Lent.{records-alone, body-length}

-- what holds of each, holds of each of the first n
each_take : {A : Type 0} (P : A → Type 0) (n : ℕ) (l : List A) → Each P l → Each P (take n l)
each_take P zero l p = tt
each_take P (suc n) [] p = tt
each_take P (suc n) (x ∷ l) p = (p.0, each_take P n l p.1)

-- a start address of two bytes
abbrev pub StartInRange : SyncManager → Type 0
StartInRange m = m.start_addr < 65536

-- sync managers with such addresses, none of which has an unnamed mode, direction or usage, have a sheet
pub managers-keep : (ms : List SyncManager) → Each StartInRange ms → some_unnamed ms ≡ false → some_of unnamed_use ms ≡ false → Each KeepsManager ms
unfolding some_unnamed
managers-keep [] starts named uses = tt
managers-keep (m ∷ ms) starts named uses =
    let n = or-none (unnamed m.control) (some_unnamed ms) named in
    let u = or-none (unnamed_use m) (some_of unnamed_use ms) uses in
    (record { start = starts.0; named = n.0; usage = ltb-false 4 m.usage_type u.0 }, managers-keep ms starts.1 n.1 u.1)

module _ (d : Device) (s : List ℕ) (r : InRange d s) where
  -- none of them
  pub data-keeps : too_long d s ≡ false → rule_broken d (records_of d s) ≡ false → some_unnamed (take d.n d.managers) ≡ false → Keeps (data_of d s)
  unfolding too_long data_of
  data-keeps short rule named =
      let k = kept d (records_of d s) rule in
      let n = records_long d s in
      let ms = take d.n d.managers in
      let us = take d.f d.usages in
      let lm = length-take d.n d.managers in
      let lu = length-take d.f d.usages in
      let lb = body-length d s r.managers r.usages k.few_managers k.few_usages r.bytes k.whole in
      let h = ltb-false 16384 (9 + 5 * d.n + d.f + n) short in
      record {
        receive = r.receive;
        send = r.send;
        few_managers = omega arith;
        managers = managers-keep ms (each_take StartInRange d.n d.managers r.starts) named k.managers;
        few_usages = omega arith;
        usages = none_of (ltb 3) (λ (u : ℕ). u ≤ 3) (ltb-false 3) us k.usages;
        few_pdos = omega (arith, length-pdos s d.p d.pdos);
        pdos =
            subst (λ (ps : List Pdo). Each KeepsPdo ps) (sym (records-alone s d.pdos n d.p k.whole))
            (fit-keeps (records_of d s) d.p 0 (part_bytes s d.pdos n r.bytes) k.whole);
        short = omega arith;
      }

  -- n and f at most 16 and the records whole: the data decides
  pub keeps-data : d.n ≤ 16 → d.f ≤ 16 → pdos_fit (records_of d s) d.p 0 ≡ true → Keeps (data_of d s)
      → (too_long d s ≡ false) × (rule_broken d (records_of d s) ≡ false) × (some_unnamed (take d.n d.managers) ≡ false)
  unfolding too_long some_unnamed data_of
  keeps-data n f e k =
      let lb = body-length d s r.managers r.usages n f r.bytes e in (
        le-ltb 16384 (9 + 5 * d.n + d.f + records_long d s) (omega (arith, k.short)),
        keeping d (records_of d s)
            (record {
              few_managers = n;
              few_usages = f;
              managers = of_none unnamed_use KeepsManager (λ m h. le-ltb 4 m.usage_type h.usage) (take d.n d.managers) k.managers;
              usages = of_none (ltb 3) (λ (u : ℕ). u ≤ 3) (le-ltb 3) (take d.f d.usages) k.usages;
              whole = e;
            }),
        of_none (λ (m : SyncManager). unnamed m.control) KeepsManager (λ m h. h.named) (take d.n d.managers) k.managers,
      )
