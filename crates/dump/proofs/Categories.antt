-- The categories of a dump as the code meets them, from the front on, one after the other.
-- Assumes nothing.
use mathlib.Core.Path.{◌≡◌, refl, sym, ◌∙◌, ap, ap₂}
use mathlib.Core.Bool.{Bool, true, false, cond}
use mathlib.Core.List.{List, [], ◌∷◌}
use Prim.Native.Nat.{ℕ, suc, ◌+◌, ◌*◌, ◌≤◌, ◌<◌}
use native.Mathlib.Omega.{arith}
use lib.ListN.{length, take, drop}
use lib.Seq.{get_or-take}
use lib.Dec.{eqb, ltb, leb}
use borrow.Author.Tests.{eqb-true, eqb-false, leb-true, lt-ltb}
use Rattle.wire.specs.Number.{little_at}
use Rattle.dump.specs.Parts.{whole}
use Rattle.dump.specs.Categories.{type_of, marked, category_long, categories, how_many}
use Rattle.dump.specs.Looked.{from_type, front_content}
use Rattle.dump.proofs.Parts.{whole-fits, parts_none, parts-on}

-- a category is within the dump
pub category-fits : (l : List ℕ) → category_long l ≤ length l
category-fits l = go (marked l)
  where
    go : (b : Bool) → cond b 0 (whole (4 + 2 * little_at l 2 2) l) ≤ length l
    go true = omega arith
    go false = whole-fits (4 + 2 * little_at l 2 2) l

-- where a category stands, it is no mark, and its words are there
pub record Stands (l : List ℕ) : Type 0 where
  pub unmarked : marked l ≡ false
  pub long : category_long l ≡ 4 + 2 * little_at l 2 2
  pub within : 4 + 2 * little_at l 2 2 ≤ length l

pub category-stands : (l : List ℕ) → 0 < category_long l → Stands l
category-stands l = go (marked l) (leb (4 + 2 * little_at l 2 2) (length l)) refl refl
  where
    go : (b c : Bool) → marked l ≡ b → leb (4 + 2 * little_at l 2 2) (length l) ≡ c → 0 < cond b 0 (cond c (4 + 2 * little_at l 2 2) 0) → Stands l
    go true c e f h = absurd (omega arith)
    go false true e f h = record { unmarked = e; long = rw (e, f); within = leb-true (4 + 2 * little_at l 2 2) (length l) f }
    go false false e f h = absurd (omega arith)

-- none stands at the front, or one does, before those behind it
pub no-category : (l : List ℕ) → category_long l ≡ 0 → categories l ≡ []
unfolding categories
no-category l e = parts_none category_long category-fits l e

pub category-on : (l : List ℕ) → 0 < category_long l → categories l ≡ take (category_long l) l ∷ categories (drop (category_long l) l)
unfolding categories
category-on l h = parts-on category_long category-fits l h

-- its type, as part of the dump or alone
pub type-alone : (l : List ℕ) → 0 < category_long l → type_of (take (category_long l) l) ≡ type_of l
type-alone l h =
    let n = category_long l in
    let m = (category-stands l h).long in
    ap₂ (λ (x y : ℕ). little_at (x ∷ y ∷ []) 0 2) (get_or-take n l 0 0 (omega arith)) (get_or-take n l 1 0 (omega arith))

module _ (t : ℕ) where
  -- one of a type is found exactly if there is one
  pub found_some : (cs : List (List ℕ)) → ltb 0 (length (from_type t cs)) ≡ ltb 0 (how_many t cs)
  found_some [] = refl
  found_some (c ∷ cs) = go (eqb (type_of c) t) (found_some cs)
    where
      go : (b : Bool) → ltb 0 (length (from_type t cs)) ≡ ltb 0 (how_many t cs) → ltb 0 (length (cond b (c ∷ cs) (from_type t cs))) ≡ ltb 0 (cond b 1 0 + how_many t cs)
      go true h = lt-ltb 0 (length (c ∷ cs)) (omega arith) ∙ sym (lt-ltb 0 (1 + how_many t cs) (omega arith))
      go false h = h ∙ ap (ltb 0) (let z : how_many t cs ≡ 0 + how_many t cs = omega arith in z)

-- the category at the front: whether one stands there, and its content
pub record AtFront (l : List ℕ) : Type 0 where
  pub stands : ltb 0 (category_long l) ≡ ltb 0 (length (categories l))
  pub content : drop 4 (take (category_long l) l) ≡ front_content (categories l)

pub at_front : (l : List ℕ) → AtFront l
at_front l = go (eqb (category_long l) 0) refl
  where
    go : (b : Bool) → eqb (category_long l) 0 ≡ b → AtFront l
    go true e =
        let z = eqb-true (category_long l) 0 e in
        let none = no-category l z in
        record {
          stands = ap (ltb 0) z ∙ ap (λ (cs : List (List ℕ)). ltb 0 (length cs)) (sym none);
          content = ap (λ (k : ℕ). drop 4 (take k l)) z ∙ ap front_content (sym none);
        }
    go false e =
        let h : 0 < category_long l = omega (arith, eqb-false (category_long l) 0 e) in
        let on = category-on l h in
        let some = lt-ltb 0 (suc (length (categories (drop (category_long l) l)))) (omega arith) in
        record {
          stands = lt-ltb 0 (category_long l) h ∙ sym (ap (λ (cs : List (List ℕ)). ltb 0 (length cs)) on ∙ some);
          content = ap front_content (sym on);
        }
