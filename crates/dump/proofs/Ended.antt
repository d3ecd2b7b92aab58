-- Bytes behind a dump that has its end mark: its categories are the same, and so is its end.
-- Assumes nothing.
use mathlib.Core.Path.{◌≡◌, refl, sym, ◌∙◌, ap, ap₂}
use mathlib.Core.Bool.{Bool, true, false, not}
use mathlib.Core.List.{List, ◌∷◌, [], ◌++◌}
use Prim.Native.Nat.{ℕ, zero, suc, ◌+◌, ◌*◌, ◌≤◌, ◌<◌}
use native.Mathlib.Omega.{arith}
use lib.ListN.{length, get_or, take, drop, length-append, length-drop, get_or-append, get_or-eq_default}
use lib.Seq.{take-append-le, drop-append-le}
use lib.Dec.{eqb, leb}
use borrow.Author.Tests.{eqb-true, eqb-false, le-leb, leb-true, leb-false}
use Rattle.wire.specs.Image.{Bytes}
use Rattle.wire.specs.Number.{little_at}
use Rattle.dump.specs.Parts.{rest_of}
use Rattle.dump.specs.Categories.{type_of, marked, category_long, categories, unended}
use Rattle.dump.proofs.Parts.{rest-none, rest-on}
use Rattle.dump.proofs.Categories.{category-fits, no-category, category-on, category-stands}
use Rattle.dump.proofs.Ranges.{behind-bytes}

module _ (more : List ℕ) where
  -- a number of two bytes that stands in the dump stands there too
  number-stays : (l : List ℕ) (at : ℕ) → at + 1 < length l → little_at (l ++ more) at 2 ≡ little_at l at 2
  number-stays l at h = ap₂ (λ (x y : ℕ). little_at (x ∷ y ∷ []) 0 2) (get_or-append l more 0 at (omega arith)) (get_or-append l more 0 (at + 1) h)

  -- the mark has two bytes
  mark-long : (l : List ℕ) → Bytes l → marked l ≡ true → 1 < length l
  mark-long l b e = go (leb 2 (length l)) refl
    where
      go : (x : Bool) → leb 2 (length l) ≡ x → 1 < length l
      go true q = leb-true 2 (length l) q
      go false q =
          let few = leb-false 2 (length l) q in
          let none : get_or l 1 0 ≡ 0 = get_or-eq_default l 0 (omega arith) in
          absurd (omega (arith, eqb-true (type_of l) 65535 e, b.below 0))

  -- the same categories, and the mark behind them
  pub record Ended (l : List ℕ) : Type 0 where
    pub same : categories (l ++ more) ≡ categories l
    pub mark : marked (rest_of category_long (l ++ more)) ≡ true

  -- the mark stands here
  mark-here : (l : List ℕ) → Bytes l → category_long l ≡ 0 → marked l ≡ true → Ended l
  mark-here l b z e =
      let is : marked (l ++ more) ≡ true = ap (λ (n : ℕ). eqb n 65535) (number-stays l 0 (mark-long l b e)) ∙ e in
      let none : category_long (l ++ more) ≡ 0 = rw is in
      record {
        same = no-category (l ++ more) none ∙ sym (no-category l z);
        mark = ap marked (rest-none category_long category-fits (l ++ more) none) ∙ is;
      }

  -- a category stands here
  category-here : (l : List ℕ) → 0 < category_long l → Ended (drop (category_long l) l) → Ended l
  category-here l h on =
      let s = category-stands l h in
      let n = category_long l in
      let kind = number-stays l 0 (omega (arith, s.within)) in
      let words = number-stays l 2 (omega (arith, s.within)) in
      let a = length-append l more in
      let long : category_long (l ++ more) ≡ n =
      rw (ap (λ (k : ℕ). eqb k 65535) kind ∙ s.unmarked, le-leb (4 + 2 * little_at (l ++ more) 2 2) (length (l ++ more)) (omega (arith, s.within))) (omega (arith, s.long)) in
      let f = category-fits l in
      let there : drop (category_long (l ++ more)) (l ++ more) ≡ drop n l ++ more = ap (λ (k : ℕ). drop k (l ++ more)) long ∙ drop-append-le n l more f in
      let front : take (category_long (l ++ more)) (l ++ more) ≡ take n l = ap (λ (k : ℕ). take k (l ++ more)) long ∙ take-append-le n l more f in
      let p : 0 < category_long (l ++ more) = omega (arith, long) in
      record {
        same = category-on (l ++ more) p ∙ ap₂ (λ (x : List ℕ) (y : List (List ℕ)). x ∷ y) front (ap categories there ∙ on.same) ∙ sym (category-on l h);
        mark = ap marked (rest-on category_long category-fits (l ++ more) p ∙ ap (rest_of category_long) there) ∙ on.mark;
      }

  ended-in : (n : ℕ) (l : List ℕ) → length l ≤ n → Bytes l → marked (rest_of category_long l) ≡ true → Ended l
  ended-in zero l m b e = let z : category_long l ≡ 0 = omega (arith, category-fits l) in mark-here l b z (ap marked (sym (rest-none category_long category-fits l z)) ∙ e)
  ended-in (suc n) l m b e =
      go (eqb (category_long l) 0) refl
      (λ h. ended-in n (drop (category_long l) l) (let d = length-drop (category_long l) l in omega arith) (behind-bytes (category_long l) l b) (ap marked (sym (rest-on category_long category-fits l h)) ∙ e))
    where
      go : (x : Bool) → eqb (category_long l) 0 ≡ x → (0 < category_long l → Ended (drop (category_long l) l)) → Ended l
      go true q on = let z = eqb-true (category_long l) 0 q in mark-here l b z (ap marked (sym (rest-none category_long category-fits l z)) ∙ e)
      go false q on = let h : 0 < category_long l = omega (arith, eqb-false (category_long l) 0 q) in category-here l h (on h)

  pub ended-there : (l : List ℕ) → Bytes l → unended l ≡ false → (categories (l ++ more) ≡ categories l) × (unended (l ++ more) ≡ false)
  unfolding unended
  ended-there l b e =
      let r = ended-in (length l) l (omega arith) b (not-not (marked (rest_of category_long l)) e) in
      (r.same, ap not r.mark)
    where
      not-not : (x : Bool) → not x ≡ false → x ≡ true
      not-not true h = refl
      not-not false h = sym h
