-- The running sums of a walk over PDO records: a turn of it, and its two ends; both directions in one sum.
-- Assumes nothing.
use mathlib.Core.Path.{◌≡◌, refl, sym, ◌∙◌, ap, subst}
use mathlib.Core.Bool.{Bool, true, false, cond, ◌&&◌, ◌||◌, false≢true}
use mathlib.Core.List.{List, [], ◌∷◌, map}
use Prim.Native.Nat.{ℕ, suc, ◌+◌, ◌-◌, ◌*◌, ◌≤◌, ◌<◌}
use native.Mathlib.Nat.{add-zero, zero-add, sub-zero}
use native.Mathlib.Omega.{arith}
use lib.ListN.{length, get_or, drop, set, replicate, length-set, get_or-replicate}
use lib.Seq.{ext_get_or, get_or-set_same, get_or-set_other}
use lib.Dec.{eqb, ltb}
use borrow.Author.Tests.{eqb-true, eqb-false}
use Rattle.std.specs.List.{fold, sum as total}
use Rattle.wire.specs.Lists.{list_of, sum}
use Rattle.wire.proofs.Lists.{length-list_of, get_d-list_of, number_same}
use Rattle.pdi.specs.declared.BitLen.{BitLen}
use Rattle.grammar.specs.Grammar.{next_pdo, pdos_fit}
use Rattle.sheet.specs.Device.{pdo_at, pdos_from}
use Rattle.sheet.specs.Sheet.{sheet_data}
use Rattle.sheet.proofs.Sound.{Fits, fits_on}
use Rattle.pdo.specs.Bits.{bits_of}
use Rattle.pdo.proofs.Bits.{at_most}
use Rattle.pdo.proofs.Records.{product-bounded}
use Rattle.pdo.proofs.Sums.{bits-turn, bits-end}
use Rattle.wanted.specs.ByKind.{kind_for, usage_at, has_data, bits_at, bits_in, no_bits, bit_at}

-- the bytes of a part as code sums them up: it is their sum, and no byte is above 255
sum-from : (n : ℕ) (l : List ℕ) → fold (λ m b. m + b) n (map (λ (b : ℕ). b) l) ≡ n + sum l
sum-from n [] = sym (add-zero n)
sum-from n (x ∷ l) = let e = sum-from (n + x) l in omega (arith, e)

pub sum-is : (l : List ℕ) → total (map (λ (b : ℕ). b) l) ≡ sum l
sum-is l = sum-from 0 l ∙ zero-add (sum l)

pub bytes-most : (l : List ℕ) → ((k : ℕ) → get_or l k 0 < 256) → sum l ≤ 255 * length l
bytes-most [] h = omega arith
bytes-most (x ∷ l) h = let a = h 0 in let b = bytes-most l (λ k. h (suc k)) in omega (arith, a, b)

-- one of the sums is written
sum-set : (sums : List BitLen) (slot k v : ℕ) → slot < length sums → bit_at (set sums slot (record { 0 = bit_at sums slot + v })) k ≡ bit_at sums k + cond (eqb slot k) v 0
sum-set sums slot k v h = go (eqb slot k) refl
  where
    go : (t : Bool) → eqb slot k ≡ t → bit_at (set sums slot (record { 0 = bit_at sums slot + v })) k ≡ bit_at sums k + cond t v 0
    go true e = let s = eqb-true slot k e in rw (← s) (ap (λ (b : BitLen). b.0) (get_or-set_same sums slot (record { 0 = bit_at sums slot + v }) no_bits h))
    go false e =
        ap (λ (b : BitLen). b.0) (get_or-set_other sums slot k (record { 0 = bit_at sums slot + v }) no_bits (λ s. eqb-false slot k e (sym s)))
        ∙ sym (add-zero (bit_at sums k))

-- what counts or doesn't
none : (t : Bool) (x : ℕ) → x ≡ 0 → cond t x 0 ≡ 0
none true x e = e
none false x e = refl

sum-asked : (t : Bool) (x y : ℕ) → cond t (x + y) 0 ≡ cond t x 0 + cond t y 0
sum-asked true x y = refl
sum-asked false x y = omega arith

one_less : (p i : ℕ) → i < p → suc (p - (i + 1)) ≡ p - i
one_less p i l = omega arith

-- which numbers are asked for, and the kind of record that counts for each
module _ (s ws : List ℕ) (kind_at : ℕ → ℕ) (asked : ℕ → Bool) where
  abbrev counts : ℕ → ℕ → Bool
  counts kind m = asked m && eqb kind (kind_at m)

  -- a record that counts adds to the number m that it names, any other to none
  abbrev share : ℕ → ℕ → ℕ → ℕ → ℕ
  share kind m k x = cond (asked k) (cond (eqb kind (kind_at k) && eqb m k) x 0) 0

  adds : (kind m k x : ℕ) → counts kind m ≡ true → share kind m k x ≡ cond (eqb m k) x 0
  adds kind m k x h = go (asked k) (eqb kind (kind_at k)) (eqb m k) refl refl refl
    where
      go : (a b t : Bool) → asked k ≡ a → eqb kind (kind_at k) ≡ b → eqb m k ≡ t → cond a (cond (b && t) x 0) 0 ≡ cond t x 0
      go true true t ea eb e = refl
      go true false false ea eb e = refl
      go false b false ea eb e = refl
      go true false true ea eb e = let q = eqb-true m k e in absurd (false≢true (sym (rw (q, ea, eb)) ∙ h))
      go false b true ea eb e = let q = eqb-true m k e in absurd (false≢true (sym (rw (q, ea)) ∙ h))

  adds-nothing : (kind m k x : ℕ) → counts kind m ≡ false → share kind m k x ≡ 0
  adds-nothing kind m k x h = go (asked k) (eqb kind (kind_at k)) (eqb m k) refl refl refl
    where
      go : (a b t : Bool) → asked k ≡ a → eqb kind (kind_at k) ≡ b → eqb m k ≡ t → cond a (cond (b && t) x 0) 0 ≡ 0
      go true true true ea eb e = let q = eqb-true m k e in absurd (false≢true (sym h ∙ rw (q, ea, eb)))
      go true true false ea eb e = refl
      go true false t ea eb e = refl
      go false b t ea eb e = refl

  abbrev bits_from : ℕ → ℕ → ℕ → ℕ → ℕ
  bits_from k left place i = bits_of (kind_at k) k (pdos_from s left place) (drop i ws)

  abbrev whole : ℕ → ℕ → ℕ → ℕ
  whole p at k = cond (asked k) (bits_of (kind_at k) k (pdos_from s p at) ws) 0

  -- the sum of each number so far: with what the records from `place` on add it is the whole; each is bounded by how many records were met
  pub record Tallied (p at : ℕ) (sums : List BitLen) (place i : ℕ) : Type 0 where
    pub within : i ≤ p
    pub fits : pdos_fit s (p - i) place ≡ true
    pub long : length sums ≡ 16
    pub rest : (k : ℕ) → k < 16 → bit_at sums k + cond (asked k) (bits_from k (p - i) place i) 0 ≡ whole p at k
    pub small : (k : ℕ) → k < 16 → bit_at sums k ≤ 16711425 * i

  -- before the first record
  pub tallied-start : (p at place : ℕ) → place ≡ at → pdos_fit s p at ≡ true → Tallied p at (replicate 16 no_bits) place 0
  tallied-start p at place e h =
      let z : (k : ℕ) → k < 16 → bit_at (replicate 16 no_bits) k ≡ 0 = λ k l. ap (λ (b : BitLen). b.0) (get_or-replicate 16 k no_bits no_bits l) in
      record {
        within = omega arith;
        fits = rw (sub-zero, e) h;
        long = refl;
        rest = λ k l. rw (z k l, sub-zero, e) (zero-add (whole p at k));
        small = λ k l. omega (arith, z k l);
      }

  module _ {p at : ℕ} {sums : List BitLen} {place i : ℕ} (t : Tallied p at sums place i) where
    -- the next record stands within the bytes, and goes with its kind
    pub next_fits : i < p → Fits s (p - (i + 1)) place
    next_fits l = fits_on s (p - (i + 1)) place (ap (λ (n : ℕ). pdos_fit s n place) (one_less p i l) ∙ t.fits)

    pub next_within : i < p → next_pdo s place ≤ length s
    next_within l = (next_fits l).within

    module _ (next : ℕ) (l : i < p) (en : next ≡ next_pdo s place) where
      abbrev kind : ℕ
      kind = get_or s place 0

      abbrev named : ℕ
      named = get_or s (place + 1) 0

      abbrev bits : ℕ
      bits = sum (pdo_at s place).lengths * get_or ws i 1

      turn : (k : ℕ) → cond (asked k) (bits_from k (p - i) place i) 0 ≡ share kind named k bits + cond (asked k) (bits_from k (p - (i + 1)) next (i + 1)) 0
      turn k =
          ap (λ (x : ℕ). cond (asked k) x 0) (bits-turn s ws (kind_at k) k (p - i) (p - (i + 1)) place next i (omega arith) en)
          ∙ sum-asked (asked k) (cond (eqb kind (kind_at k) && eqb named k) bits 0) (bits_from k (p - (i + 1)) next (i + 1))

      others-fit : pdos_fit s (p - (i + 1)) next ≡ true
      others-fit = rw en (next_fits l).others

      -- a record that counts, its own bits v being multiplied by w, is added to the number that it names
      pub tallied-here :
          (slot v w : ℕ) (then : List BitLen) → counts kind named ≡ true → slot ≡ named → slot < 16
          → v ≡ sum (pdo_at s place).lengths → w ≡ get_or ws i 1 → v ≤ 65535 → w ≤ 255 → then ≡ set sums slot (record { 0 = bit_at sums slot + v * w })
          → Tallied p at then next (i + 1)
      tallied-here slot v w then c es low ev ew bv bw e = subst (λ (x : List BitLen). Tallied p at x next (i + 1)) (sym e) more
        where
          added : (k : ℕ) → bit_at (set sums slot (record { 0 = bit_at sums slot + v * w })) k ≡ bit_at sums k + cond (eqb slot k) (v * w) 0
          added k = sum-set sums slot k (v * w) (omega (arith, t.long))

          same : (k : ℕ) → cond (eqb slot k) (v * w) 0 ≡ cond (eqb named k) bits 0
          same k = λ j. cond (eqb (es j) k) (ev j * ew j) 0

          more : Tallied p at (set sums slot (record { 0 = bit_at sums slot + v * w })) next (i + 1)
          more =
              record {
                within = omega arith;
                fits = others-fit;
                long = length-set sums slot (record { 0 = bit_at sums slot + v * w }) ∙ t.long;
                rest = λ k h. omega (arith, added k, same k, adds kind named k bits c, turn k, t.rest k h);
                small = λ k h. omega (arith, added k, at_most (eqb slot k) (v * w), product-bounded v w bv bw, t.small k h);
              }

      -- any other adds nothing
      pub tallied-on : (then : List BitLen) → counts kind named ≡ false → then ≡ sums → Tallied p at then next (i + 1)
      tallied-on then c e =
          subst (λ (x : List BitLen). Tallied p at x next (i + 1)) (sym e)
          (record {
            within = omega arith;
            fits = others-fit;
            long = t.long;
            rest = λ k h. omega (arith, adds-nothing kind named k bits c, turn k, t.rest k h);
            small = λ k h. omega (arith, t.small k h);
          })

    -- each record is met: it is the whole
    pub tallied-end : p ≤ i → sums ≡ list_of (λ k. record { 0 = whole p at k }) 16
    tallied-end h =
        let f : ℕ → BitLen = λ k. record { 0 = whole p at k } in
        let e : p - i ≡ 0 = omega arith in
        let z : (k : ℕ) → cond (asked k) (bits_from k (p - i) place i) 0 ≡ 0 = λ k. none (asked k) (bits_from k (p - i) place i) (bits-end s (drop i ws) (kind_at k) k (p - i) place e) in
        ext_get_or no_bits sums (list_of f 16) (t.long ∙ sym (length-list_of f 16))
        (λ k l. let n : k < 16 = omega (arith, t.long) in
        let w : bit_at sums k ≡ whole p at k = omega (arith, t.rest k n, z k) in
        (λ j. record { 0 = w j }) ∙ sym (get_d-list_of f 16 k no_bits n))

-- of two that don't hold at once, the one that holds gives the kind; their sum is what it gives
one_of : (f : ℕ → ℕ) (there a b path : Bool) (x y : ℕ) → (a ≡ true → b ≡ true → ⊥)
    → cond (there && (a || b)) (f (cond path 0 (cond a x y))) 0 ≡ cond (there && a) (f (cond path 0 x)) 0 + cond (there && b) (f (cond path 0 y)) 0
one_of f false a b path x y h = refl
one_of f true true true path x y h = absurd (h refl refl)
one_of f true true false path x y h = sym (add-zero (f (cond path 0 x)))
one_of f true false true path x y h = sym (zero-add (f (cond path 0 y)))
one_of f true false false path x y h = refl

-- what counts by each number's own usage is both directions' sum
module _ (s : List ℕ) (path : Bool) (ws : List ℕ) where
  abbrev own_bits : ℕ → ℕ
  own_bits k = cond (has_data (sheet_data s).managers k) (bits_of (kind_for path (usage_at (sheet_data s).managers k)) k (sheet_data s).pdos ws) 0

  both-directions : (k : ℕ) → own_bits k ≡ bits_at s path ws k
  both-directions k =
      let ms = (sheet_data s).managers in
      let u = usage_at ms k in
      one_of (λ kind. bits_of kind k (sheet_data s).pdos ws) (ltb k (length ms)) (eqb u 4) (eqb u 3) path 1 2
      (λ a b. let e = eqb-true u 4 a in let g = eqb-true u 3 b in absurd (omega (arith, e, g)))

  pub sums-are : (sums : List BitLen) → sums ≡ list_of (λ k. record { 0 = own_bits k }) 16 → sums ≡ bits_in s path ws
  sums-are sums e = e ∙ number_same _ _ 16 (λ k l. λ j. record { 0 = both-directions k j })
