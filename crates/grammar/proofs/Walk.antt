-- The walk over PDO records: a turn of it, and its end.
-- Assumes nothing.
use mathlib.Core.Path.{◌≡◌, refl, sym, ◌∙◌}
use mathlib.Core.Bool.{Bool, true, false, ◌&&◌}
use mathlib.Core.List.{List}
use Prim.Native.Nat.{ℕ, zero, suc, ◌+◌, ◌-◌, ◌≤◌, ◌<◌}
use native.Mathlib.Numerals.{sub-one}
use native.Mathlib.Omega.{arith}
use lib.ListN.{length, get_or}
use lib.Dec.{leb}
use borrow.Author.Tests.{ne_eqb, le-leb, lt-leb, leb-true, leb-false}
use Rattle.grammar.specs.Grammar.{next_pdo}
use Rattle.grammar.specs.Grammar.{pdos_end, kind_fits, pdos_fit}

-- a record that runs past the end
pub walk-past : (s : List ℕ) (left at : ℕ) → 0 < left → length s < next_pdo s at → pdos_fit s left at ≡ false
unfolding pdos_fit
walk-past s zero at l h = absurd (omega arith)
walk-past s (suc n) at l h = rw (lt-leb (next_pdo s at) (length s) h)

-- one whose kind doesn't go with its count
pub walk-odd : (s : List ℕ) (left at : ℕ) → 0 < left → kind_fits (get_or s at 0) (get_or s (at + 4) 0) ≡ false → pdos_fit s left at ≡ false
unfolding pdos_fit
walk-odd s zero at l h = absurd (omega arith)
walk-odd s (suc n) at l h = rw h (go (leb (next_pdo s at) (length s)))
  where
    go : (b : Bool) → (b && false) && pdos_fit s n (next_pdo s at) ≡ false
    go true = refl
    go false = refl

-- one that fits: the others decide
pub walk-on : (s : List ℕ) (left at next : ℕ) → 0 < left → next ≡ next_pdo s at → next ≤ length s → kind_fits (get_or s at 0) (get_or s (at + 4) 0) ≡ true → pdos_fit s (left - 1) next ≡ pdos_fit s left at
unfolding pdos_fit
walk-on s zero at next l e h k = absurd (omega arith)
walk-on s (suc n) at next l e h k = rw (sub-one, e, k, le-leb (next_pdo s at) (length s) (omega arith))

-- past the end no record fits, nor does the sheet end there
pub walk-beyond : (s : List ℕ) (left at : ℕ) → length s < at → pdos_fit s left at ≡ false
unfolding pdos_fit
walk-beyond s zero at h = ne_eqb at (length s) (λ e. omega arith)
walk-beyond s (suc n) at h = walk-past s (suc n) at (omega arith) (omega arith)

-- one whose kind goes with its count, within the sheet or not: the others decide
pub walk_step : (s : List ℕ) (left at next : ℕ) → 0 < left → next ≡ next_pdo s at → kind_fits (get_or s at 0) (get_or s (at + 4) 0) ≡ true → pdos_fit s (left - 1) next ≡ pdos_fit s left at
walk_step s left at next l e k = go (leb next (length s)) refl
  where
    go : (b : Bool) → leb next (length s) ≡ b → pdos_fit s (left - 1) next ≡ pdos_fit s left at
    go true h = walk-on s left at next l e (leb-true next (length s) h) k
    go false h =
        let past : length s < next = leb-false next (length s) h in
        walk-beyond s (left - 1) next past ∙ sym (walk-past s left at l (omega arith))

-- a turn of the walk to the records' end
pub end-turn : (s : List ℕ) (left at next : ℕ) → 0 < left → next ≡ next_pdo s at → pdos_end s (left - 1) next ≡ pdos_end s left at
unfolding pdos_end
end-turn s zero at next l e = absurd (omega arith)
end-turn s (suc n) at next l e = rw (sub-one, e)
