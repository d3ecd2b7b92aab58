-- What `write` answers, by what its tests found.
-- Assumes nothing.
use mathlib.Core.Path.{◌≡◌, refl, sym, ◌∙◌, ap, ap₂}
use mathlib.Core.Bool.{true, false}
use mathlib.Core.List.{List, ◌++◌}
use Prim.Native.Nat.{ℕ, ◌+◌, ◌*◌, ◌-◌, ◌<◌, ◌≤◌}
use native.Mathlib.Omega.{arith}
use lib.ListN.{length, take, drop, length-take}
use lib.Dec.{ltb}
use borrow.Author.Tests.{lt-ltb, le-ltb}
use Rattle.std.specs.Prelude.{Ok, Err}
use Rattle.wire.specs.Outcome.{accepted}
use Rattle.wire.specs.Room.{over}
use Rattle.wire.specs.declared.Reason.TheVariants.{SheetLength, SheetRule, UnnamedControl, RoomTooShort}
use Rattle.sheet.specs.declared.Device.{Device}
use Rattle.sheet.specs.Device.{data_of}
use Rattle.sheet.specs.Sheet.{some_unnamed}
use Rattle.sheet.proofs.Sound.{length-pdos}
use Rattle.writer.specs.Form.{flags_byte, head_bytes, body_bytes, sheet_of}
use Rattle.writer.specs.Writing.{pdos_end, records_long, records_of, too_long, rule_broken, writing, Writes}
use Rattle.writer.specs.Laid.{sheet_laid}
use Rattle.writer.specs.Again.{InRange}
use Rattle.writer.proofs.Rules.{kept}
use Rattle.writer.proofs.Parts.{sheet-length}
use Rattle.writer.proofs.Lent.{body_is, body-length}

module _ (d : Device) (s : List ℕ) where
  -- the records as the code takes them: how long they are, L where it isn't above 16,384, and their bytes
  module _ {behind : List ℕ} {long : ℕ} (b : behind ≡ drop d.pdos s) (e : long ≡ pdos_end behind d.p 0) where
    long-is : long ≡ records_long d s
    long-is = e ∙ ap (λ (l : List ℕ). pdos_end l d.p 0) b

    pub long-refused : 16384 < 9 + 5 * d.n + d.f + long → too_long d s ≡ true
    unfolding too_long
    long-refused h = let l = long-is in lt-ltb 16384 (9 + 5 * d.n + d.f + records_long d s) (omega arith)

    pub short-enough : {follow : ℕ} → (follow ≡ 9 + 5 * d.n + d.f + long) × (follow ≤ 16384) → too_long d s ≡ false
    unfolding too_long
    short-enough h = let l = long-is in le-ltb 16384 (9 + 5 * d.n + d.f + records_long d s) (omega (arith, h.0, h.1))

    pub length-is : {follow : ℕ} → follow ≡ 9 + 5 * d.n + d.f + long → follow + 2 ≡ 11 + 5 * d.n + d.f + records_long d s
    length-is q = let l = long-is in omega arith

    pub records-are : {records : List ℕ} → records ≡ take long behind → records ≡ records_of d s
    records-are r = r ∙ ap₂ (λ (k : ℕ) (l : List ℕ). take k l) long-is b

  module _ (room : List ℕ) where
    -- the refusals in their order
    pub refused-two : too_long d s ≡ true → Writes d s room (Err SheetLength) room
    unfolding writing
    refused-two a = rw a (record { says = refl; holds = refl })

    pub refused-four : too_long d s ≡ false → rule_broken d (records_of d s) ≡ true → Writes d s room (Err SheetRule) room
    unfolding writing
    refused-four a b = rw (a, b) (record { says = refl; holds = refl })

    pub refused-five : too_long d s ≡ false → rule_broken d (records_of d s) ≡ false → some_unnamed (take d.n d.managers) ≡ true → Writes d s room (Err UnnamedControl) room
    unfolding writing
    refused-five a b u = rw (a, b, u) (record { says = refl; holds = refl })

    -- none of them: the sheet is as long as the code says, and 12 is the last
    module _ (r : InRange d s) {total : ℕ} (a : too_long d s ≡ false) (b : rule_broken d (records_of d s) ≡ false) (u : some_unnamed (take d.n d.managers) ≡ false) (t : total ≡ 11 + 5 * d.n + d.f + records_long d s) where
      total-is : length (sheet_of (data_of d s)) ≡ total
      total-is =
          let k = kept d (records_of d s) b in
          let l = body-length d s r.managers r.usages k.few_managers k.few_usages r.bytes k.whole in
          sheet-length (data_of d s) ∙ omega (arith, l)

      pub refused-twelve : length room < total → Writes d s room (Err RoomTooShort) room
      unfolding writing
      refused-twelve c = rw (a, b, u, ap (ltb (length room)) total-is ∙ lt-ltb (length room) total c) (record { says = refl; holds = refl })

      -- what the code lays is the sheet
      laid-is : sheet_laid d total (records_of d s) ≡ sheet_of (data_of d s)
      unfolding sheet_of data_of
      laid-is =
          let k = kept d (records_of d s) b in
          let l = body-length d s r.managers r.usages k.few_managers k.few_usages r.bytes k.whole in
          let lm = length-take d.n d.managers in
          let lu = length-take d.f d.usages in
          let follow : total - 2 ≡ 9 + length (body_bytes (data_of d s)) = omega arith in
          let n : d.n ≡ length (take d.n d.managers) = omega (arith, r.managers, k.few_managers) in
          let f : d.f ≡ length (take d.f d.usages) = omega (arith, r.usages, k.few_usages) in
          let p = sym (length-pdos s d.p d.pdos) in
          λ i.
          head_bytes (follow i) (flags_byte d.has_mailbox d.coe_protocol d.complete_access) d.receive_size.0 d.send_size.0 (n i) (f i) (p i)
          ++ sym (body_is d s r.bytes k.whole) i

      pub written-whole : {after : List ℕ} → total ≤ length room → after ≡ over (sheet_laid d total (records_of d s)) room → Writes d s room (Ok total) after
      unfolding writing
      written-whole c h =
          rw (a, b, u, ap (ltb (length room)) total-is ∙ le-ltb (length room) total c) (record { says = ap accepted (sym total-is); holds = h ∙ ap (λ (l : List ℕ). over l room) laid-is })
