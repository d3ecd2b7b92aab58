-- The record that reading a dump answers, with the room that it wrote the PDO records into: both are the dump's data, in range, and writing its
-- sheet from them isn't refused but for the room.
-- Assumes nothing.
use mathlib.Core.Path.{◌≡◌, sym, ◌∙◌, ap, subst}
use mathlib.Core.Bool.{true, false}
use mathlib.Core.List.{List, [], ◌++◌, map}
use Prim.Native.Nat.{ℕ, zero, suc, ◌+◌, ◌-◌, ◌≤◌, ◌<◌}
use native.Mathlib.Nat.{zero-add}
use native.Mathlib.Omega.{arith}
use lib.ListN.{length, get_or, take, drop, replicate, length-append, length-replicate, get_or-append}
use lib.Seq.{take-append_seam}
use Rattle.wire.specs.Image.{Bytes}
use Rattle.wire.specs.Lists.{Each}
use Rattle.wire.specs.Room.{over}
use Rattle.wire.proofs.Bytes.{append-bytes}
use Rattle.wire.proofs.Copied.{over-front}
use Rattle.wire.proofs.Lists.{each_both}
use Rattle.sheet.specs.declared.SyncManager.{SyncManager}
use Rattle.sheet.specs.declared.Device.{Device}
use Rattle.sheet.specs.Device.{Pdo, Data, data_of}
use Rattle.sheet.specs.Sheet.{some_unnamed, no_manager}
use Rattle.writer.specs.Form.{pdo_bytes}
use Rattle.writer.specs.Writing.{pdos_end, pdos_fit, too_long, rule_broken}
use Rattle.writer.specs.Writing as Writing
use Rattle.writer.specs.Again.{InRange}
use Rattle.writer.proofs.Keeps.{KeepsManager, KeepsPdo, Keeps}
use Rattle.writer.proofs.Stands.{stands-behind}
use Rattle.writer.proofs.Pdos.{pdos-read, pdos-fit}
use Rattle.writer.proofs.Bytes.{all-bytes, pdo-bytes}
use Rattle.writer.proofs.Lent.{same_end, fit-end}
use Rattle.writer.proofs.Conditions.{StartInRange, keeps-data}
use Rattle.dump.specs.declared.Head.{Head}
use Rattle.dump.specs.Records.{manager_for, pdos_in}
use Rattle.dump.specs.Dump.{manager_records, usages_for, dump_data, pdo_records, device_with}
use Rattle.dump.proofs.Ranges.{each_append, behind-bytes}

-- a list filled up to sixteen has sixteen, and what holds of each and of what fills it, holds of all
module _ {A : Type 0} (l : List A) (z : A) where
  filled-length : length l ≤ 16 → length (l ++ replicate (16 - length l) z) ≡ 16
  filled-length h = length-append l (replicate (16 - length l) z) ∙ omega (arith, length-replicate (16 - length l) z)

  filled-each : (P : A → Type 0) (n : ℕ) → Each P l → P z → Each P (l ++ replicate n z)
  filled-each P n e h = each_append P l (replicate n z) e (go n)
    where
      go : (n : ℕ) → Each P (replicate n z)
      go zero = tt
      go (suc n) = (h, go n)

-- whole records at the front of a list are those that it says it has, whatever follows them
front-records : {s : List ℕ} (r rest : List ℕ) (p : ℕ) → s ≡ r ++ rest → pdos_fit r p 0 ≡ true → take (pdos_end s p 0) s ≡ r
front-records {s} r rest p e fit =
    let byte : (k : ℕ) → k < length r → get_or s (0 + k) 0 ≡ get_or r k 0 =
    λ k z. ap (λ (i : ℕ). get_or s i 0) (zero-add k) ∙ ap (λ (l : List ℕ). get_or l k 0) e ∙ get_or-append r rest 0 k z in
    let end : pdos_end s p 0 ≡ length r = omega (arith, same_end s r 0 byte p 0 fit, fit-end r p 0 fit) in
    ap (λ (n : ℕ). take n s) end ∙ ap (take (length r)) e ∙ take-append_seam r rest

-- the data of categories that has a sheet, its record, and a room that its PDO records have been written into
module _ (h : Head) (cs : List (List ℕ)) (k : Keeps (dump_data h cs)) (room : List ℕ) (fits : length (pdo_records (dump_data h cs)) ≤ length room) where
  abbrev x : Data
  x = dump_data h cs

  abbrev ms : List SyncManager
  ms = map manager_for (manager_records cs)

  abbrev us : List ℕ
  us = usages_for cs

  abbrev ps : List Pdo
  ps = pdos_in cs

  abbrev d : Device
  d = device_with h ms us (length ps)

  abbrev s : List ℕ
  s = over (pdo_records x) room

  abbrev rest : List ℕ
  rest = drop (length (pdo_records x)) room

  -- there is room for the records, so they stand at its front
  there : s ≡ pdo_records x ++ rest
  there = over-front (pdo_records x) room fits

  -- record and room hold the data: no place of the lists that isn't used is read
  pub data-back : data_of d s ≡ x
  unfolding dump_data data_of
  data-back =
      let m = take-append_seam ms (replicate (16 - length ms) no_manager) in
      let u = take-append_seam us (replicate (16 - length us) 0) in
      let p = pdos-read ps 0 k.pdos (record { rest = rest; is = there }) in
      λ i. record { mailbox = x.mailbox; coe_protocol = x.coe_protocol; complete = x.complete; receive = x.receive; send = x.send; managers = m i; usages = u i; pdos = p i }

  -- the records are whole, as those of PDOs that have a sheet
  whole : pdos_fit (Writing.records_of d s) (length ps) 0 ≡ true
  unfolding dump_data
  whole =
      let fit = pdos-fit ps 0 k.pdos (stands-behind [] (pdo_records x)) (zero-add (length (pdo_records x))) in
      ap (λ (l : List ℕ). pdos_fit l (length ps) 0) (front-records (pdo_records x) rest (length ps) there fit) ∙ fit

  module _ (room_bytes : Bytes room) where
    -- bytes were written over bytes
    room-holds : Bytes s
    unfolding dump_data
    room-holds = subst Bytes (sym there) (append-bytes (all-bytes KeepsPdo pdo_bytes pdo-bytes ps k.pdos) (behind-bytes (length (pdo_records x)) room room_bytes))

    -- the record and the room are in range, as what has a sheet is, and what fills the lists
    pub device-range : InRange d s
    unfolding dump_data
    device-range =
        let starts = each_both KeepsManager KeepsManager StartInRange (λ m a b. a.start) ms k.managers k.managers in
        record {
          receive = k.receive;
          send = k.send;
          managers = filled-length ms no_manager k.few_managers;
          starts = filled-each ms no_manager StartInRange (16 - length ms) starts (omega arith);
          usages = filled-length us 0 k.few_usages;
          count = k.few_pdos;
          bytes = room-holds;
        }

    -- data that has a sheet is refused with none of 2, 4 and 5
    pub not-refused : (too_long d s ≡ false) × (rule_broken d (Writing.records_of d s) ≡ false) × (some_unnamed (take d.n d.managers) ≡ false)
    unfolding dump_data
    not-refused = keeps-data d s device-range k.few_managers k.few_usages whole (subst Keeps (sym data-back) k)
