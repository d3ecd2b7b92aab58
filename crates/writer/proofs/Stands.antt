-- Bytes that stand in a list from a place on, whatever follows them: in parts, byte by byte, and as numbers.
-- Assumes nothing.
use mathlib.Core.Path.{◌≡◌, refl, sym, ◌∙◌, ap, ap₂}
use mathlib.Core.List.{List, [], ◌∷◌, ◌++◌, append_assoc, append-nil}
use Prim.Native.Nat.{ℕ, ◌+◌, ◌<◌}
use native.Mathlib.Omega.{arith}
use lib.ListN.{length, get_or, drop, get_or-append}
use lib.Seq.{drop-append_seam, get_or-drop, drop-drop, ext_get_or}
use Rattle.wire.specs.Number.{big_at, big_of}
use Rattle.wire.specs.Lists.{list_of}
use Rattle.wire.proofs.Lists.{length-list_of, get_d-list_of}
use Rattle.wire.proofs.Numbers.{big-joined}

-- from that place on the list goes on with these bytes
pub record Stands (s : List ℕ) (at : ℕ) (l : List ℕ) : Type 0 where
  pub rest : List ℕ
  pub is : drop at s ≡ l ++ rest

-- a list stands in itself, behind whatever is before it
pub stands-behind : (l m : List ℕ) → Stands (l ++ m) (length l) m
stands-behind l m = record { rest = []; is = drop-append_seam l m ∙ sym (append-nil m) }

module _ {s : List ℕ} {at : ℕ} where
  -- of two lists after one another, the first stands there, and the second behind it
  pub first-stands : (l m : List ℕ) → Stands s at (l ++ m) → Stands s at l
  first-stands l m h = record { rest = m ++ h.rest; is = h.is ∙ append_assoc l m h.rest }

  pub second-stands : (l m : List ℕ) {next : ℕ} → next ≡ at + length l → Stands s at (l ++ m) → Stands s next m
  second-stands l m {next} e h =
      record {
        rest = h.rest;
        is =
            ap (λ (n : ℕ). drop n s) e
            ∙ sym (drop-drop (length l) at s)
            ∙ ap (drop (length l)) (h.is ∙ append_assoc l m h.rest)
            ∙ drop-append_seam l (m ++ h.rest);
      }

  -- the byte with a number
  pub stands-byte : (l : List ℕ) (j : ℕ) {p : ℕ} → p ≡ at + j → j < length l → Stands s at l → get_or s p 0 ≡ get_or l j 0
  stands-byte l j e b h =
      ap (λ (n : ℕ). get_or s n 0) e ∙ sym (get_or-drop at s j 0) ∙ ap (λ (t : List ℕ). get_or t j 0) h.is ∙ get_or-append l h.rest 0 j b

  -- a number of two bytes that stands there is read
  pub stands-number : (y : ℕ) (l : List ℕ) → y < 65536 → Stands s at (big_of 2 y ++ l) → big_at s at 2 ≡ y
  stands-number y l b h =
      let high = stands-byte (big_of 2 y ++ l) 0 {p = at} (omega arith) (omega arith) h in
      let low = stands-byte (big_of 2 y ++ l) 1 {p = at + 1} refl (omega arith) h in
      ap₂ (λ (x y : ℕ). big_at (x ∷ y ∷ []) 0 2) high low ∙ big-joined y b

  -- all of the bytes, gathered by number
  pub stands-all : (l : List ℕ) {n : ℕ} → n ≡ length l → Stands s at l → list_of (λ k. get_or s (at + k) 0) n ≡ l
  stands-all l {n} e h =
      let f : ℕ → ℕ = λ k. get_or s (at + k) 0 in
      ext_get_or 0 (list_of f n) l (length-list_of f n ∙ e)
      (λ k b. get_d-list_of f n k 0 (omega (arith, length-list_of f n)) ∙ stands-byte l k refl (omega (arith, length-list_of f n)) h)
