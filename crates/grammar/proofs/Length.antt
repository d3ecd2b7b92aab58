-- The length's rule, and the length of a sheet that keeps it.
-- Assumes nothing.
use mathlib.Core.Path.{◌≡◌, refl, sym, ◌∙◌}
use mathlib.Core.Bool.{Bool, true, false, or-true, false≢true}
use mathlib.Core.List.{List}
use Prim.Native.Nat.{ℕ, ◌+◌, ◌≤◌, ◌<◌}
use native.Mathlib.Omega.{arith}
use lib.ListN.{length}
use lib.Dec.{eqb, ltb}
use borrow.Author.Tests.{eq-eqb, ne_eqb, lt-ltb, le-ltb, ltb-true, ltb-false, eqb-true, eqb-false}
use Rattle.grammar.specs.Length.{follow, wrong_length}

-- 2: by one of its parts, or by the last after the others
module _ (s : List ℕ) where
  pub other_length : (length s ≡ follow s + 2 → ⊥) → wrong_length s ≡ true
  unfolding wrong_length
  other_length h = rw (ne_eqb (length s) (follow s + 2) h) (or-true (ltb (length s) 2))

  pub too-low : follow s < 9 → wrong_length s ≡ true
  unfolding wrong_length
  too-low h = simp (lt-ltb (follow s) 9 h, or-true)

  pub only_high : (f : ℕ) → f ≡ follow s → 2 ≤ length s → length s ≡ follow s + 2 → 9 ≤ follow s → wrong_length s ≡ ltb 16384 f
  unfolding wrong_length
  only_high f e h l low = rw (e, le-ltb (length s) 2 h, eq-eqb (length s) (follow s + 2) l, le-ltb (follow s) 9 low) refl

  -- the length of a sheet that isn't refused with 2
  module _ (kept : wrong_length s ≡ false) where
    never : {A : Type 0} → wrong_length s ≡ true → A
    never h = absurd (false≢true (sym kept ∙ h))

    pub exact : length s ≡ follow s + 2
    exact = go (eqb (length s) (follow s + 2)) refl
      where
        go : (b : Bool) → eqb (length s) (follow s + 2) ≡ b → length s ≡ follow s + 2
        go true e = eqb-true (length s) (follow s + 2) e
        go false e = never (other_length (eqb-false (length s) (follow s + 2) e))

    enough : 9 ≤ follow s
    enough = go (ltb (follow s) 9) refl
      where
        go : (b : Bool) → ltb (follow s) 9 ≡ b → 9 ≤ follow s
        go true e = never (too-low (ltb-true (follow s) 9 e))
        go false e = ltb-false (follow s) 9 e

    pub long : (11 ≤ length s) × (length s ≤ 16386)
    long =
        let l = exact in
        let low = enough in
        let high = ltb-false 16384 (follow s) (sym (only_high (follow s) refl (omega arith) l low) ∙ kept) in
        (omega arith, omega arith)
