-- A call that goes on after another's refusals: refusals in an order, in two parts.
-- Assumes nothing.
use mathlib.Core.Path.{◌≡◌, refl, sym}
use mathlib.Core.Bool.{Bool, true, false, cond}
use mathlib.Core.List.{List, [], ◌∷◌}
use Prim.Native.Nat.{ℕ}
use native.Mathlib.Omega.{arith}
use Rattle.wire.specs.Outcome.{Outcome, refused, accepted, Refusal, first, decide}

-- a refusal and an answer are never the same
pub never : {A : Type 0} {n : ℕ} {x : A} → refused n ≡ accepted x → ⊥
never {A} {n} {x} e = let z : ◌≡◌ {A = ℕ} 0 1 = cc in omega arith

-- accepted: the first refusal doesn't hold, and the others accept too
pub passed_first : {A : Type 0} (r : Refusal) (rs : List Refusal) (x b : A) → accepted b ≡ decide (r ∷ rs) x → (r.holds ≡ false) × (accepted b ≡ decide rs x)
passed_first {A} r rs x b e = go r.holds e
  where
    go : (t : Bool) → accepted b ≡ cond t (refused r.number) (decide rs x) → (t ≡ false) × (accepted b ≡ decide rs x)
    go true h = absurd (never (sym h))
    go false h = (refl, h)

-- accepted: it is that answer, and what comes after the refusals is reached
pub passed-answer : {A : Type 0} (rs : List Refusal) (x b : A) → accepted b ≡ decide rs x → b ≡ x
passed-answer [] x b e = cc
passed-answer {A} (r ∷ rs) x b e = go r.holds (λ h. passed-answer rs x b h) e
  where
    go : (t : Bool) → (accepted b ≡ decide rs x → b ≡ x) → accepted b ≡ cond t (refused r.number) (decide rs x) → b ≡ x
    go true rest h = absurd (never (sym h))
    go false rest h = rest h

pub passed : {A B : Type 0} (rs : List Refusal) (x b : A) (o : Outcome B) → accepted b ≡ decide rs x → first rs o ≡ o
passed [] x b o e = refl
passed {A} {B} (r ∷ rs) x b o e = go r.holds (λ h. passed rs x b o h) e
  where
    go : (t : Bool) → (accepted b ≡ decide rs x → first rs o ≡ o) → accepted b ≡ cond t (refused r.number) (decide rs x) → cond t (refused r.number) (first rs o) ≡ o
    go true rest h = absurd (never (sym h))
    go false rest h = rest h

-- refused: whatever would have come after
pub stopped : {A B : Type 0} (rs : List Refusal) (x : A) (n : ℕ) (o : Outcome B) → refused n ≡ decide rs x → refused n ≡ first rs o
stopped [] x n o e = absurd (never e)
stopped {A} {B} (r ∷ rs) x n o e = go r.holds (λ h. stopped rs x n o h) e
  where
    go : (t : Bool) → (refused n ≡ decide rs x → refused n ≡ first rs o) → refused n ≡ cond t (refused r.number) (decide rs x) → refused n ≡ cond t (refused r.number) (first rs o)
    go true rest h = cc
    go false rest h = rest h
