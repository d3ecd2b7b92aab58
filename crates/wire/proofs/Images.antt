-- How a record stands in the n bytes of an image. What document 01 says of the register images follows here from the laws that a layout
-- holds: once, over the image length, for every layout.
-- Assumes nothing.
use mathlib.Core.Path.{◌≡◌, refl, sym, ◌∙◌, ap, subst}
use mathlib.Core.Bool.{Bool, true, false, not, false≢true}
use mathlib.Core.Logic.{◌↔◌}
use mathlib.Core.List.{List, [], ◌∷◌}
use Prim.Native.Nat.{ℕ}
use lib.ListN.{length}
use lib.Dec.{eqb}
use borrow.Author.Tests.{eq-eqb, eqb-true}
use Rattle.wire.specs.Outcome.{Outcome, accepted, Refusal, when, decide}
use Rattle.wire.specs.Image.{not_long, Bytes, Image, Part, Clear}
use Rattle.wire.specs.Room.{written_of, room_after, InRoom}
use Rattle.std.specs.Prelude.{Result, Ok}
use Rattle.wire.specs.declared.Reason.{Reason}
use Rattle.wire.proofs.Numbers.{spread, spread-is}
use Rattle.wire.proofs.Copied.{over-same}
use Rattle.wire.proofs.Order.{passed_first, passed-answer, passed}

pub record Layout (n : ℕ) (R : Type 0) : Type 1 where
  -- the image of a record, and the record that the n bytes of a list from a place on say
  pub image : R → List ℕ
  pub fields : List ℕ → ℕ → R
  -- the parts of those bytes that are reserved
  pub reserved : ℕ → List Part
  -- what is asked of a record, so that its numbers fit
  pub Fits : R → Type 0
  -- an image is n bytes
  pub long : (r : R) → length (image r) ≡ n
  pub bytes : (r : R) → Bytes (image r)
  -- where an image stands its record is read, and reserved parts are 0
  pub back : (r : R) (l : List ℕ) (at : ℕ) → spread n at l ≡ image r → Fits r → fields l at ≡ r
  pub clear : (r : R) (l : List ℕ) (at : ℕ) → spread n at l ≡ image r → Clear (reserved at) l
  -- what bytes say fits, and is written as they stand where reserved parts are 0
  pub fit : (l : List ℕ) (at : ℕ) → Bytes l → Fits (fields l at)
  pub stays : (l : List ℕ) (at : ℕ) → Bytes l → Clear (reserved at) l → image (fields l at) ≡ spread n at l

module _ {n : ℕ} {R : Type 0} (L : Layout n R) where
  -- what is written is n bytes, whatever the record
  pub image-is : (r : R) → Image n (L.image r)
  image-is r = record { long = L.long r; bytes = L.bytes r }

  -- a record that fits, written and read, comes back
  pub read-write : (r : R) → L.Fits r → L.fields (L.image r) 0 ≡ r
  read-write r h = L.back r (L.image r) 0 (spread-is (image-is r)) h

  -- reading drops the reserved bits: what was read, written and read again is what was read
  pub reading-drops-reserved : (l : List ℕ) → Image n l → L.fields (L.image (L.fields l 0)) 0 ≡ L.fields l 0
  reading-drops-reserved l h = read-write (L.fields l 0) (L.fit l 0 h.bytes)

  -- writing leaves every reserved bit 0, whatever the record
  pub writing-clears-reserved : (r : R) → Clear (L.reserved 0) (L.image r)
  writing-clears-reserved r = L.clear r (L.image r) 0 (spread-is (image-is r))

  -- n bytes, read and written, come back exactly if their reserved bits are 0
  pub write_read : (l : List ℕ) → Image n l → (L.image (L.fields l 0) ≡ l) ↔ Clear (L.reserved 0) l
  write_read l h = (
    λ e. subst (Clear (L.reserved 0)) e (writing-clears-reserved (L.fields l 0)),
    λ z. L.stays l 0 h.bytes z ∙ spread-is h,
  )

-- 1 isn't given: the list is n long
is-long : (n : ℕ) (l : List ℕ) → not_long n l ≡ false → length l ≡ n
is-long n l e = go (eqb (length l) n) (eqb-true (length l) n) e
  where
    go : (b : Bool) → (b ≡ true → length l ≡ n) → not b ≡ false → length l ≡ n
    go true h q = h refl
    go false h q = absurd (false≢true (sym q))

-- a layout that calls read and write: reading refuses with 1 alone, and writing besides 1 a record that doesn't fit
pub record Calls {n : ℕ} {R : Type 0} (L : Layout n R) : Type 1 where
  pub unwritten : R → List Refusal
  -- each number is in the range of its type
  pub InRange : R → Type 0
  pub fits : (r : R) (k : ℕ) → InRange r → accepted k ≡ decide (unwritten r) n → L.Fits r

module _ {n : ℕ} {R : Type 0} (L : Layout n R) where
  abbrev pub reading : List ℕ → Outcome R
  reading l = decide (when 1 (not_long n l) ∷ []) (L.fields l 0)

  -- bytes that reading accepts, written again, are the same exactly if their reserved bits are 0
  pub accepted-comes-back : (l : List ℕ) (r : R) → Bytes l → accepted r ≡ reading l → (L.image r ≡ l) ↔ Clear (L.reserved 0) l
  accepted-comes-back l r h e =
      let p = passed_first (when 1 (not_long n l)) [] (L.fields l 0) r e in
      let is = passed-answer [] (L.fields l 0) r p.1 in
      let both = write_read L l (record { long = is-long n l p.0; bytes = h }) in
      subst (λ (x : R). (L.image x ≡ l) ↔ Clear (L.reserved 0) l) (sym is) both

  -- an image is read as its record
  pub read-written : (r : R) → L.Fits r → reading (L.image r) ≡ accepted r
  read-written r h = rw (eq-eqb (length (L.image r)) n (L.long r)) (ap accepted (read-write L r h))

module _ {n : ℕ} {R : Type 0} (L : Layout n R) (C : Calls L) where
  abbrev pub writing : R → List ℕ → Outcome ℕ
  writing r room = decide (when 1 (not_long n room) ∷ C.unwritten r) n

  -- a record that writing accepts stands in the room, and is read from there as it was
  pub written-comes-back : (r : R) (k : ℕ) {room after : List ℕ} {w : Result ℕ Reason} → C.InRange r → InRoom (writing r room) (L.image r) room w after → w ≡ Ok k → reading L after ≡ accepted r
  written-comes-back r k {room} {after} t x is =
      let e : accepted k ≡ writing r room = sym (ap written_of is) ∙ x.says in
      let p = passed_first (when 1 (not_long n room)) (C.unwritten r) n k e in
      let all = passed (when 1 (not_long n room) ∷ C.unwritten r) n k (accepted n) e in
      let long : length (L.image r) ≡ length room = L.long r ∙ sym (is-long n room p.0) in
      let stands : after ≡ L.image r = x.holds ∙ ap (λ (o : Outcome ℕ). room_after o (L.image r) room) all ∙ over-same (L.image r) room long in
      ap (reading L) stands ∙ read-written L r (C.fits r k t p.1)
