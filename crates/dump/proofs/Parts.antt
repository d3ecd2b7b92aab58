-- Bytes cut into parts: a turn, the end, and a walk over them by place and number. One law for categories, SyncM records and PDO records.
-- Assumes nothing.
use mathlib.Core.Path.{◌≡◌, refl, sym, ◌∙◌, ap}
use mathlib.Core.Bool.{Bool, true, false, cond}
use mathlib.Core.List.{List, [], ◌∷◌}
use Prim.Native.Nat.{ℕ, zero, suc, ◌+◌, ◌≤◌, ◌<◌}
use native.Mathlib.Omega.{arith}
use lib.ListN.{length, take, drop, length-drop}
use lib.Seq.{drop-drop}
use lib.Dec.{eqb, leb, ltb}
use borrow.Author.Tests.{eq-eqb, ne_eqb, eqb-false, leb-true, lt-ltb, le-ltb, ltb-true, ltb-false}
use Rattle.wire.proofs.Lists.{cond_same}
use Rattle.std.specs.Prelude.{Option, Some, None, is_some, unwrap_or}
use Rattle.dump.specs.Looked.{LongIs}
use Rattle.dump.specs.Parts.{whole, Cut, uncut, before, cut_in, cut_of, parts_of, rest_of}

-- a part that is whole is within the bytes
pub whole-fits : (n : ℕ) (l : List ℕ) → whole n l ≤ length l
whole-fits n l = go (leb n (length l)) (leb-true n (length l))
  where
    go : (b : Bool) → (b ≡ true → n ≤ length l) → cond b n 0 ≤ length l
    go true h = h refl
    go false h = omega arith

-- a length, or none: 0 says that no part stands there
pub long-or : {n : ℕ} (r : Option ℕ) → LongIs n r → unwrap_or r 0 ≡ n
long-or None e = sym e
long-or (Some k) e = e.0

pub long-stands : (n : ℕ) (r : Option ℕ) → LongIs n r → is_some r ≡ ltb 0 n
long-stands n None e = sym (le-ltb 0 n (omega arith))
long-stands n (Some k) e = sym (lt-ltb 0 n (omega (arith, e.0, e.1)))

-- something stands behind a place exactly if it is before the end
pub left_over : (at : ℕ) (l : List ℕ) {rest : List ℕ} → drop at l ≡ rest → ltb at (length l) ≡ ltb 0 (length rest)
left_over at l {rest} e = go (ltb at (length l)) refl
  where
    go : (b : Bool) → ltb at (length l) ≡ b → ltb at (length l) ≡ ltb 0 (length rest)
    go true h = let d = length-drop at l in let z = ap length e in h ∙ sym (lt-ltb 0 (length rest) (omega (arith, ltb-true at (length l) h)))
    go false h = let d = length-drop at l in let z = ap length e in h ∙ sym (le-ltb 0 (length rest) (omega (arith, ltb-false at (length l) h)))

module _ (long : List ℕ → ℕ) (fits : (l : List ℕ) → long l ≤ length l) where
  -- no part stands at the front
  none_in : (n : ℕ) (l : List ℕ) → long l ≡ 0 → cut_in long n l ≡ uncut l
  unfolding cut_in
  none_in zero l e = refl
  none_in (suc n) l e = rw (eq-eqb (long l) 0 e)

  -- as many turns as there are bytes are enough
  enough : (n m : ℕ) (l : List ℕ) → length l ≤ n → length l ≤ m → cut_in long n l ≡ cut_in long m l
  unfolding cut_in
  enough zero m l h g = let f = fits l in sym (none_in m l (omega arith))
  enough (suc n) zero l h g = let f = fits l in none_in (suc n) l (omega arith)
  enough (suc n) (suc m) l h g =
      let k = length-drop (long l) l in
      cond_same (eqb (long l) 0) (λ z. refl)
      (λ z.
      let p : 0 < long l = omega (arith, eqb-false (long l) 0 z) in
      ap (before (take (long l) l)) (enough n m (drop (long l) l) (omega arith) (omega arith)))

  pub cut-none : (l : List ℕ) → long l ≡ 0 → cut_of long l ≡ uncut l
  cut-none l e = none_in (length l) l e

  pub cut_on : (l : List ℕ) → 0 < long l → cut_of long l ≡ before (take (long l) l) (cut_of long (drop (long l) l))
  unfolding cut_in
  cut_on l h =
      let f = fits l in
      let k = length-drop (long l) l in
      enough (length l) (suc (length l)) l (omega arith) (omega arith)
      ∙ ap (λ (b : Bool). cond b (uncut l) (before (take (long l) l) (cut_in long (length l) (drop (long l) l)))) (ne_eqb (long l) 0 (λ z. omega arith))
      ∙ ap (before (take (long l) l)) (enough (length l) (length (drop (long l) l)) (drop (long l) l) (omega arith) (omega arith))

  pub parts_none : (l : List ℕ) → long l ≡ 0 → parts_of long l ≡ []
  parts_none l e = ap (λ (c : Cut). c.parts) (cut-none l e)

  pub parts-on : (l : List ℕ) → 0 < long l → parts_of long l ≡ take (long l) l ∷ parts_of long (drop (long l) l)
  parts-on l h = ap (λ (c : Cut). c.parts) (cut_on l h)

  pub rest-none : (l : List ℕ) → long l ≡ 0 → rest_of long l ≡ l
  rest-none l e = ap (λ (c : Cut). c.rest) (cut-none l e)

  pub rest-on : (l : List ℕ) → 0 < long l → rest_of long l ≡ rest_of long (drop (long l) l)
  rest-on l h = ap (λ (c : Cut). c.rest) (cut_on l h)

  -- a walk that has passed k parts and stands at a place
  pub record Walk (l : List ℕ) (k at : ℕ) : Type 0 where
    pub left : drop k (parts_of long l) ≡ parts_of long (drop at l)
    pub count : k + length (parts_of long (drop at l)) ≡ length (parts_of long l)
    pub behind : rest_of long (drop at l) ≡ rest_of long l
    pub within : at ≤ length l
    pub passed : k ≤ at

  pub walk_start : (l : List ℕ) → Walk l 0 0
  walk_start l = record { left = refl; count = omega arith; behind = refl; within = omega arith; passed = omega arith }

  module _ {l : List ℕ} {k at : ℕ} (w : Walk l k at) where
    -- the part at the place is the one with the number
    pub walk_here : 0 < long (drop at l) → drop k (parts_of long l) ≡ take (long (drop at l)) (drop at l) ∷ parts_of long (drop (long (drop at l)) (drop at l))
    walk_here h = w.left ∙ parts-on (drop at l) h

    -- a turn
    pub walk_turn : {n : ℕ} → n ≡ long (drop at l) → 0 < n → Walk l (k + 1) (at + n)
    walk_turn {n} e h =
        let m = long (drop at l) in
        let there : drop m (drop at l) ≡ drop (at + n) l = drop-drop m at l ∙ ap (λ (i : ℕ). drop (at + i) l) (sym e) in
        let on = parts-on (drop at l) (omega arith) in
        let f = fits (drop at l) in
        let d = length-drop at l in
        let in-range = w.within in
        record {
          left = sym (drop-drop 1 k (parts_of long l)) ∙ ap (drop 1) (w.left ∙ on) ∙ ap (parts_of long) there;
          count = let c = w.count in let z = ap length on in let y = ap (λ (x : List ℕ). length (parts_of long x)) there in omega arith;
          behind = ap (rest_of long) (sym there) ∙ sym (rest-on (drop at l) (omega arith)) ∙ w.behind;
          within = omega arith;
          passed = let p = w.passed in omega arith;
        }

    -- the end
    pub walk_end : long (drop at l) ≡ 0 → (k ≡ length (parts_of long l)) × (drop at l ≡ rest_of long l)
    walk_end e =
        let c = w.count in
        let z = ap length (parts_none (drop at l) e) in
        (omega arith, sym (rest-none (drop at l) e) ∙ w.behind)
