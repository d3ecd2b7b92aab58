-- The PDO records in the lent bytes, and those bytes alone: they hold the same PDOs, and as bytes they are what is written of them.
-- Assumes nothing.
use mathlib.Core.Path.{◌≡◌, refl, sym, ◌∙◌, ap, ap₂}
use mathlib.Core.Bool.{true, cond}
use mathlib.Core.List.{List, [], ◌∷◌, ◌++◌, map}
use Prim.Native.Nat.{ℕ, zero, suc, ◌+◌, ◌*◌, ◌≤◌, ◌<◌}
use native.Mathlib.Nat.{add-zero}
use native.Mathlib.Omega.{arith}
use lib.ListN.{length, get_or, take, drop, length-take, length-drop, length-append}
use lib.Seq.{get_or-take, get_or-drop, take-length, length-take-le}
use lib.Dec.{eqb}
use borrow.Author.Tests.{le-leb, eq-eqb, eqb-true, eqb-false}
use Rattle.wire.specs.Image.{Bytes}
use Rattle.wire.specs.Lists.{list_of}
use Rattle.wire.specs.Number.{big_at}
use Rattle.wire.proofs.Bytes.{part_bytes}
use Rattle.wire.proofs.Lists.{cond_same, number_same}
use Rattle.area.specs.Area.{flat}
use Rattle.grammar.specs.Grammar.{next_pdo, pdos_end, kind_fits, pdos_fit}
use Rattle.sheet.specs.declared.Device.{Device}
use Rattle.sheet.specs.Device.{pdo_at, pdos_from, data_of}
use Rattle.sheet.proofs.Sound.{Fits, fits_on, fits-two}
use Rattle.writer.specs.Form.{manager_bytes, pdo_bytes, body_bytes}
use Rattle.writer.specs.Writing.{records_long, records_of}
use Rattle.writer.proofs.Stored.{first-managers-long}
use Rattle.writer.proofs.Records.{fit-bytes}

-- bytes l that stand in s from `at` on, and whole records among them
module _ (s l : List ℕ) (at : ℕ) (stands : (k : ℕ) → k < length l → get_or s (at + k) 0 ≡ get_or l k 0) where
  -- a byte, where its place in s is known by an equation
  byte : (i k : ℕ) → i ≡ at + k → k < length l → get_or s i 0 ≡ get_or l k 0
  byte i k e h = ap (λ (j : ℕ). get_or s j 0) e ∙ stands k h

  -- a record is the same PDO in both
  same-pdo : (p k : ℕ) → Fits l p k → pdo_at s (at + k) ≡ pdo_at l k
  same-pdo p k f =
      let kind = byte (at + k) k refl (omega arith) in
      let count = byte (at + k + 4) (k + 4) (omega arith) (omega arith) in
      λ i.
      record {
        kind = kind i;
        manager = byte (at + k + 1) (k + 1) (omega arith) (omega arith) i;
        index = two (at + k + 2) (k + 2) (omega arith) (omega arith) i;
        lengths =
            (ap (λ (x : ℕ). cond (eqb x 0) (list_of (λ j. get_or s (at + k + 5 + j) 0) (get_or s (at + k + 4) 0)) (big_at s (at + k + 5) 2 ∷ [])) kind
            ∙ cond_same (eqb (get_or l k 0) 0)
            (λ z.
            ap (list_of (λ j. get_or s (at + k + 5 + j) 0)) count
            ∙ number_same (λ j. get_or s (at + k + 5 + j) 0) (λ j. get_or l (k + 5 + j) 0) (get_or l (k + 4) 0) (λ j h. byte (at + k + 5 + j) (k + 5 + j) (omega arith) (omega arith)))
            (λ z.
            let m = fits-two (get_or l k 0) (get_or l (k + 4) 0) f.kind (eqb-false (get_or l k 0) 0 z) in
            ap (λ (x : ℕ). x ∷ []) (two (at + k + 5) (k + 5) (omega arith) (omega arith)))) i;
      }
    where
      two : (i j : ℕ) → i ≡ at + j → j + 1 < length l → big_at s i 2 ≡ big_at l j 2
      two i j e h = ap₂ (λ (x y : ℕ). big_at (x ∷ y ∷ []) 0 2) (byte i j e (omega arith)) (byte (i + 1) (j + 1) (omega arith) h)

  -- the next record stands as far on in both
  same_next : (p k : ℕ) → Fits l p k → next_pdo s (at + k) ≡ at + next_pdo l k
  same_next p k f = let count = byte (at + k + 4) (k + 4) (omega arith) (omega arith) in omega arith

  -- so p of them are the same PDOs, and end as far on
  same-pdos : (p k : ℕ) → pdos_fit l p k ≡ true → pdos_from s p (at + k) ≡ pdos_from l p k
  unfolding pdos_from
  same-pdos zero k e = refl
  same-pdos (suc p) k e =
      let f = fits_on l p k e in
      ap₂ (λ x xs. x ∷ xs) (same-pdo p k f) (ap (pdos_from s p) (same_next p k f) ∙ same-pdos p (next_pdo l k) f.others)

  pub same_end : (p k : ℕ) → pdos_fit l p k ≡ true → pdos_end s p (at + k) ≡ at + pdos_end l p k
  unfolding pdos_end
  same_end zero k e = refl
  same_end (suc p) k e =
      let f = fits_on l p k e in
      ap (pdos_end s p) (same_next p k f) ∙ same_end p (next_pdo l k) f.others

  -- records that are whole in s are whole in l, where both end together
  same-fit : length s ≡ at + length l → (p k : ℕ) → pdos_fit s p (at + k) ≡ true → pdos_fit l p k ≡ true
  unfolding pdos_fit
  same-fit z zero k e = let q = eqb-true (at + k) (length s) e in eq-eqb k (length l) (omega arith)
  same-fit z (suc p) k e =
      let f = fits_on s p (at + k) e in
      let kind = byte (at + k) k refl (omega arith) in
      let count = byte (at + k + 4) (k + 4) (omega arith) (omega arith) in
      let next : at + next_pdo l k ≡ next_pdo s (at + k) = omega arith in
      let others = same-fit z p (next_pdo l k) (ap (pdos_fit s p) next ∙ f.others) in
      rw (le-leb (next_pdo l k) (length l) (omega arith), sym (ap₂ kind_fits kind count) ∙ f.kind, others)

-- whole records end where their bytes do
pub fit-end : (l : List ℕ) (p k : ℕ) → pdos_fit l p k ≡ true → pdos_end l p k ≡ length l
unfolding pdos_fit pdos_end
fit-end l zero k e = eqb-true k (length l) e
fit-end l (suc p) k e = fit-end l p (next_pdo l k) (fits_on l p k e).others

-- n bytes from `at` on stand there
part-stands : (s : List ℕ) (at n k : ℕ) → k < length (take n (drop at s)) → get_or s (at + k) 0 ≡ get_or (take n (drop at s)) k 0
part-stands s at n k h = let m = length-take n (drop at s) in sym (get_or-take n (drop at s) k 0 (omega arith) ∙ get_or-drop at s k 0)

-- the PDOs that are read from `at` on are those of the records alone
pub records-alone : (s : List ℕ) (at n p : ℕ) → pdos_fit (take n (drop at s)) p 0 ≡ true → pdos_from s p at ≡ pdos_from (take n (drop at s)) p 0
records-alone s at n p e = ap (pdos_from s p) (sym (add-zero at)) ∙ same-pdos s (take n (drop at s)) at (part-stands s at n) p 0 e

module _ (d : Device) (s : List ℕ) where
  -- records that are whole in the lent bytes, and with which these end, are the records alone
  pub records-whole : d.pdos ≤ length s → pdos_fit s d.p d.pdos ≡ true → pdos_fit (records_of d s) d.p 0 ≡ true
  records-whole h e =
      let t = drop d.pdos s in
      let n = length-drop d.pdos s in
      let w = same-fit s t d.pdos (λ k z. sym (get_or-drop d.pdos s k 0)) (omega arith) d.p 0 (ap (pdos_fit s d.p) (add-zero d.pdos) ∙ e) in
      let all : records_of d s ≡ t = ap (λ (i : ℕ). take i t) (fit-end t d.p 0 w) ∙ take-length t in
      ap (λ (l : List ℕ). pdos_fit l d.p 0) all ∙ w

  -- whole records are as long as they say
  pub records-long : pdos_fit (records_of d s) d.p 0 ≡ true → length (records_of d s) ≡ records_long d s
  records-long e =
      let t = drop d.pdos s in
      let l = records_of d s in
      let n = records_long d s in
      let front : (k : ℕ) → k < length l → get_or t (0 + k) 0 ≡ get_or l k 0 = part-stands t 0 n in
      let there : records_long d s ≡ 0 + pdos_end l d.p 0 = same_end t l 0 front d.p 0 e in
      let end = fit-end l d.p 0 e in
      omega arith

  -- what is written behind the head, where the records are whole
  pub body_is : Bytes s → pdos_fit (records_of d s) d.p 0 ≡ true
      → body_bytes (data_of d s) ≡ flat (map manager_bytes (take d.n d.managers)) ++ (take d.f d.usages ++ records_of d s)
  unfolding body_bytes data_of
  body_is b e =
      let l = records_of d s in
      ap (λ (r : List ℕ). flat (map manager_bytes (take d.n d.managers)) ++ (take d.f d.usages ++ r))
      (ap (λ ps. flat (map pdo_bytes ps)) (records-alone s d.pdos (records_long d s) d.p e) ∙ fit-bytes l d.p 0 (part_bytes s d.pdos (records_long d s) b) e)

  -- how long that is
  pub body-length :
      length d.managers ≡ 16 → length d.usages ≡ 16 → d.n ≤ 16 → d.f ≤ 16 → Bytes s → pdos_fit (records_of d s) d.p 0 ≡ true
      → length (body_bytes (data_of d s)) ≡ 5 * d.n + d.f + records_long d s
  body-length lm lu hn hf b e =
      let ms = take d.n d.managers in
      let us = take d.f d.usages in
      let a = ap length (body_is b e) in
      let j = length-append (flat (map manager_bytes ms)) (us ++ records_of d s) in
      let k = length-append us (records_of d s) in
      let f = length-take-le d.f d.usages (omega arith) in
      let m = first-managers-long d.managers d.n (omega arith) in
      let r = records-long e in
      omega arith
