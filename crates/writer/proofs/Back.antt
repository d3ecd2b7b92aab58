-- Device data that was written as a sheet is read from it.
-- Assumes nothing.
use mathlib.Core.Path.{◌≡◌, refl, sym, ◌∙◌, ap}
use mathlib.Core.Bool.{Bool, true, false, not}
use mathlib.Core.List.{List, [], ◌∷◌}
use Prim.Native.Nat.{ℕ, ◌+◌, ◌≤◌}
use native.Mathlib.Omega.{arith}
use lib.ListN.{length, get_or}
use lib.Dec.{eqb, ltb}
use borrow.Author.Tests.{le-ltb}
use Rattle.wire.specs.Field.{bits_at, flag_at, bit}
use Rattle.wire.specs.Outcome.{accepted, when, decide}
use Rattle.wire.proofs.Fields.{bit-back}
use Rattle.wire.proofs.Lists.{some-none, of_none, each_at}
use Rattle.wire.proofs.Packed.{Laid, flag, laid}
use Rattle.grammar.proofs.Length.{only_high}
use Rattle.grammar.proofs.Broken.{only-walk}
use Rattle.channel_bytes.specs.Bytes.{unnamed}
use Rattle.sheet.specs.declared.SyncManager.{SyncManager}
use Rattle.sheet.specs.Device.{Data, pdos_from}
use Rattle.sheet.specs.Sheet.{usage_count, pdo_count, usages_place, pdos_place, wrong_length, wrong_version, pdos_fit, some_usage_wrong, broken, some_unnamed, sheet_data, read_sheet}
use Rattle.writer.specs.Form.{flags_byte, body_bytes, sheet_of}
use Rattle.writer.proofs.Keeps.{KeepsManager, Keeps}
use Rattle.writer.proofs.Stands.{stands-byte, stands-all}
use Rattle.writer.proofs.Parts.{Parts, parts}
use Rattle.writer.proofs.Managers.{managers-read, usages-named}
use Rattle.writer.proofs.Pdos.{pdos-read, pdos-fit}

-- the flags' byte holds each flag
flags-laid : (a b c : Bool) → Laid (flags_byte a b c) (flag a ∷ flag b ∷ flag c ∷ [])
flags-laid a b c = laid (flag a ∷ flag b ∷ flag c ∷ []) (omega arith)

-- of any sheet with the parts of device data that keeps the rules
module _ (x : Data) (s : List ℕ) (k : Keeps x) (t : Parts x s) where
  -- none of the refusals holds: not 2, not 3, and of 4 not the usages, not the PDOs, and so none of the rules
  right-length : wrong_length s ≡ false
  right-length =
      only_high s (9 + length (body_bytes x)) (sym t.follow) (omega arith) (omega arith) (omega arith) ∙ le-ltb 16384 (9 + length (body_bytes x)) k.short

  right-version : wrong_version s ≡ false
  right-version = ap (λ (v : ℕ). not (eqb v 1)) t.version

  usages-right : some_usage_wrong s ≡ false
  unfolding some_usage_wrong
  usages-right =
      some-none (λ j. ltb 3 (get_or s (usages_place s + j) 0)) (usage_count s)
      (λ j b.
      let e = stands-byte x.usages j {p = usages_place s + j} refl (omega arith) t.usages in
      let u = each_at (λ (u : ℕ). u ≤ 3) x.usages j 0 (omega arith) k.usages in
      le-ltb 3 (get_or s (usages_place s + j) 0) (omega arith))

  pdos-right : pdos_fit s (pdo_count s) (pdos_place s) ≡ true
  pdos-right = ap (λ (n : ℕ). pdos_fit s n (pdos_place s)) t.p ∙ pdos-fit x.pdos (pdos_place s) k.pdos t.pdos t.end

  unbroken : broken s ≡ false
  unbroken =
      let flags = (flags-laid x.mailbox x.coe_protocol x.complete).small in
      only-walk s (omega arith) (omega arith) (omega arith) (omega arith) (usages-named s x.managers t.n t.managers k.managers) usages-right
      ∙ ap not pdos-right

  -- a flag is read
  flag-read : (shift : ℕ) (f : Bool) → bits_at (flags_byte x.mailbox x.coe_protocol x.complete) shift 1 ≡ bit f → flag_at (get_or s 3 0) shift ≡ f
  flag-read shift f e = ap (λ (b : ℕ). flag_at b shift) t.flags ∙ ap (λ (b : ℕ). eqb b 1) e ∙ bit-back f

  -- what it says is that data
  data-read : sheet_data s ≡ x
  unfolding sheet_data
  data-read =
      let flags = (flags-laid x.mailbox x.coe_protocol x.complete).fields in
      λ i.
      record {
        mailbox = flag-read 0 x.mailbox flags.0 i;
        coe_protocol = flag-read 1 x.coe_protocol flags.1.0 i;
        complete = flag-read 2 x.complete flags.1.1.0 i;
        receive = t.receive i;
        send = t.send i;
        managers = managers-read s x.managers t.n t.managers k.managers i;
        usages = stands-all x.usages t.f t.usages i;
        pdos = (ap (λ (n : ℕ). pdos_from s n (pdos_place s)) t.p ∙ pdos-read x.pdos (pdos_place s) k.pdos t.pdos) i;
      }

  -- so it isn't refused with 5, and reads as that data
  all_named : some_unnamed (sheet_data s).managers ≡ false
  unfolding some_unnamed
  all_named =
      ap (λ (d : Data). some_unnamed d.managers) data-read
      ∙ of_none (λ (m : SyncManager). unnamed m.control) KeepsManager (λ m h. h.named) x.managers k.managers

  parts-read : read_sheet s ≡ accepted x
  unfolding read_sheet
  parts-read = λ i. decide (when 2 (right-length i) ∷ when 3 (right-version i) ∷ when 4 (unbroken i) ∷ when 5 (all_named i) ∷ []) (data-read i)

-- and so does the sheet that was written
pub kept-reads : (x : Data) → Keeps x → read_sheet (sheet_of x) ≡ accepted x
kept-reads x k = parts-read x (sheet_of x) k (parts x k)
