-- Layouts are built: a number, a byte that is made up of fields, a reserved byte, one layout followed by another, and the whole as a record.
-- Assumes nothing.
use mathlib.Core.Path.{◌≡◌, refl, sym, ◌∙◌, ap, ap₂, subst}
use mathlib.Core.Logic.{◌↔◌}
use mathlib.Core.List.{List, [], ◌∷◌, ◌++◌}
use Prim.Native.Nat.{ℕ, ◌+◌, ◌-◌, ◌%◌, ◌^◌, ◌<◌, ◌≤◌}
use native.Mathlib.Nat.{div-eq_of_lt, zero-mod, lt_of_lt_of_le}
use native.Mathlib.Omega.{arith}
use lib.ListN.{length, get_or, take, drop, length-append}
use lib.Pow.{pow_mono}
use lib.Seq.{take-append_seam, drop-append_seam}
use Rattle.wire.specs.Field.{bits_at}
use Rattle.wire.specs.Number.{little_at, little_of}
use Rattle.wire.specs.Image.{part}
use Rattle.wire.proofs.Numbers.{spread, spread-append, spread-length, joined_is, little-stands, little-back}
use Rattle.wire.proofs.Bytes.{little-fits, no_bytes, cons-bytes, append-bytes, little-bytes, little-length}
use Rattle.wire.proofs.Reserved.{exactly, clear_both, clear_first, clear_second}
use Rattle.wire.proofs.Images.{Layout}

-- a number of w bytes, the low byte first
abbrev pub little : (w : ℕ) → Layout w ℕ
little w =
    record {
      image = little_of w;
      fields = λ l at. little_at l at w;
      reserved = λ at. [];
      Fits = λ x. x < 256 ^ w;
      long = little-length w;
      bytes = little-bytes w;
      back = λ x l at e h. little-stands w x l at e ∙ joined_is w x h;
      clear = λ x l at e. tt;
      fit = λ l at h. little-fits w at h;
      stays = λ l at h z. little-back w at h;
    }

-- a byte that is made up of fields and one reserved part
pub record Byte (R : Type 0) : Type 1 where
  pub put : R → ℕ
  pub get : ℕ → R
  pub shift : ℕ
  pub width : ℕ
  pub Fits : R → Type 0
  pub small : (r : R) → put r < 256
  pub back : (r : R) → Fits r → get (put r) ≡ r
  pub clear : (r : R) → bits_at (put r) shift width ≡ 0
  pub fit : (b : ℕ) → Fits (get b)
  pub exact : (b : ℕ) → b < 256 → (put (get b) ≡ b) ↔ (bits_at b shift width ≡ 0)

abbrev pub byte : {R : Type 0} → Byte R → Layout 1 R
byte b =
    record {
      image = λ r. b.put r ∷ [];
      fields = λ l at. b.get (get_or l at 0);
      reserved = λ at. part at b.shift b.width ∷ [];
      Fits = b.Fits;
      long = λ r. refl;
      bytes = λ r. cons-bytes (b.small r) no_bytes;
      back = λ r l at e h. ap (λ (m : List ℕ). b.get (get_or m 0 0)) e ∙ b.back r h;
      clear = λ r l at e. (ap (λ (m : List ℕ). bits_at (get_or m 0 0) b.shift b.width) e ∙ b.clear r, tt);
      fit = λ l at h. b.fit (get_or l at 0);
      stays = λ l at h z i. (b.exact (get_or l at 0) (h.below at)).1 z.0 i ∷ [];
    }

-- a byte whose fields are its lowest k bits, so that those above are reserved
module _ {R : Type 0} (k : ℕ) (put : R → ℕ) (get : ℕ → R) (Fits : R → Type 0) (fill : (r : R) → put r < 2 ^ k) where
  pub fill-small : k ≤ 8 → (r : R) → put r < 256
  fill-small h r = lt_of_lt_of_le (fill r) (pow_mono {i = k} {j = 8} h)

  pub fill-clear : (r : R) → bits_at (put r) k (8 - k) ≡ 0
  fill-clear r = ap (λ (x : ℕ). x % 2 ^ (8 - k)) (div-eq_of_lt (fill r)) ∙ zero-mod (2 ^ (8 - k))

  abbrev pub low_bits :
      k ≤ 8 → ((r : R) → Fits r → get (put r) ≡ r) → ((b : ℕ) → Fits (get b)) → ((b : ℕ) → b < 256 → (put (get b) ≡ b) ↔ (bits_at b k (8 - k) ≡ 0)) → Layout 1 R
  low_bits most back fit exact =
      byte
      record {
        put = put;
        get = get;
        shift = k;
        width = 8 - k;
        Fits = Fits;
        small = fill-small most;
        back = back;
        clear = fill-clear;
        fit = fit;
        exact = exact;
      }

-- a byte that is reserved whole
abbrev pub reserved_byte : Layout 1 (Unit {0})
reserved_byte =
    low_bits 0 (λ r. 0) (λ b. tt) (λ r. Unit {0}) (λ (r : Unit {0}). omega arith)
    (omega arith) (λ r h. refl) (λ b. tt) (exactly (λ b. 0) 0 8 tt)

-- where two images stand after one another, each stands
module _ {m n : ℕ} {R S : Type 0} (a : Layout m R) (b : Layout n S) (r : R × S) (l : List ℕ) (at : ℕ) (e : spread (m + n) at l ≡ a.image r.0 ++ b.image r.1) where
  two-stand : spread m at l ++ spread n (at + m) l ≡ a.image r.0 ++ b.image r.1
  two-stand = sym (spread-append m n at l) ∙ e

  same-long : length (spread m at l) ≡ length (a.image r.0)
  same-long = spread-length m at l ∙ sym (a.long r.0)

  pub first-stands : spread m at l ≡ a.image r.0
  first-stands = sym (take-append_seam (spread m at l) (spread n (at + m) l)) ∙ ap₂ take same-long two-stand ∙ take-append_seam (a.image r.0) (b.image r.1)

  pub second-stands : spread n (at + m) l ≡ b.image r.1
  second-stands = sym (drop-append_seam (spread m at l) (spread n (at + m) l)) ∙ ap₂ drop same-long two-stand ∙ drop-append_seam (a.image r.0) (b.image r.1)

infixr 60 ◌followed-by◌
-- the one, and then the other
abbrev pub ◌followed-by◌ : {m n : ℕ} {R S : Type 0} → Layout m R → Layout n S → Layout (m + n) (R × S)
◌followed-by◌ {m} {n} a b =
    record {
      image = λ r. a.image r.0 ++ b.image r.1;
      fields = λ l at. (a.fields l at, b.fields l (at + m));
      reserved = λ at. a.reserved at ++ b.reserved (at + m);
      Fits = λ r. a.Fits r.0 × b.Fits r.1;
      long = λ r. length-append (a.image r.0) (b.image r.1) ∙ ap₂ ◌+◌ (a.long r.0) (b.long r.1);
      bytes = λ r. append-bytes (a.bytes r.0) (b.bytes r.1);
      back =
          λ r l at e h i. (
            a.back r.0 l at (first-stands a b r l at e) h.0 i,
            b.back r.1 l (at + m) (second-stands a b r l at e) h.1 i,
          );
      clear =
          λ r l at e.
          clear_both (a.reserved at) (b.reserved (at + m)) l (a.clear r.0 l at (first-stands a b r l at e))
          (b.clear r.1 l (at + m) (second-stands a b r l at e));
      fit = λ l at h. (a.fit l at h, b.fit l (at + m) h);
      stays =
          λ l at h z.
          ap₂ ◌++◌ (a.stays l at h (clear_first (a.reserved at) (b.reserved (at + m)) l z))
          (b.stays l (at + m) h (clear_second (a.reserved at) (b.reserved (at + m)) l z))
          ∙ sym (spread-append m n at l);
    }

-- the parts as a record that holds them
abbrev pub as_record : {n : ℕ} {R S : Type 0} (to : R → S) (from : S → R) → ((s : S) → to (from s) ≡ s) → ((r : R) → from (to r) ≡ r) → Layout n R → Layout n S
as_record to from there here a =
    record {
      image = λ s. a.image (from s);
      fields = λ l at. to (a.fields l at);
      reserved = a.reserved;
      Fits = λ s. a.Fits (from s);
      long = λ s. a.long (from s);
      bytes = λ s. a.bytes (from s);
      back = λ s l at e h. ap to (a.back (from s) l at e h) ∙ there s;
      clear = λ s l at e. a.clear (from s) l at e;
      fit = λ l at h. subst a.Fits (sym (here (a.fields l at))) (a.fit l at h);
      stays = λ l at h z. ap a.image (here (a.fields l at)) ∙ a.stays l at h z;
    }
