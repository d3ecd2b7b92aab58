-- The walk over PDO records that fills a list of places, one multiplier for each: a turn of it and its end.
-- Assumes nothing.
use mathlib.Core.Path.{◌≡◌, refl, sym, ◌∙◌, ap, ap₂}
use mathlib.Core.List.{List, ◌++◌, append-nil}
use Prim.Native.Nat.{ℕ, suc, ◌+◌, ◌*◌, ◌-◌, ◌<◌, ◌≤◌}
use native.Mathlib.Omega.{arith}
use lib.ListN.{length, get_or, take, drop, set, length-map, drop_of_length-le}
use lib.Seq.{drop-drop, get_or-drop, take_all}
use Rattle.wire.proofs.Copied.{copied}
use Rattle.grammar.specs.Grammar.{pdo_count, pdos_place}
use Rattle.sheet.specs.Device.{Pdo, pdo_at, next_pdo, pdos_from}
use Rattle.sheet.specs.Sheet.{sheet_data}
use Rattle.sheet.proofs.Sound.{length-pdos}
use Rattle.pdo.specs.declared.Oversampling.{Oversampling}
use Rattle.pdo.specs.Bits.{multiplier_of, multipliers_of}

module _ (t : List Oversampling) (s : List ℕ) where
  -- the multipliers of n records from a place on
  abbrev pub those : ℕ → ℕ → List ℕ
  those n at = multipliers_of t (pdos_from s n at)

  pub length-those : (n at : ℕ) → length (those n at) ≡ n
  length-those n at = length-map (pdos_from s n at) (λ (p : Pdo). multiplier_of t p.index) ∙ length-pdos s n at

  -- the first, and the others
  first_one : (n m at : ℕ) → n ≡ suc m → get_or (those n at) 0 0 ≡ multiplier_of t (pdo_at s at).index
  unfolding pdos_from
  first_one n m at e = rw e

  others : (n m at : ℕ) → n ≡ suc m → drop 1 (those n at) ≡ those m (next_pdo s at)
  unfolding pdos_from
  others n m at e = rw e

-- all of them
pub all-those : (t : List Oversampling) (s : List ℕ) → those t s (pdo_count s) (pdos_place s) ≡ multipliers_of t (sheet_data s).pdos
unfolding sheet_data
all-those t s = refl

module _ (t : List Oversampling) (s : List ℕ) (n at : ℕ) where
  -- k are filled, and the records ahead stand from `place` on
  pub record Filling (k place : ℕ) : Type 0 where
    pub within : k ≤ n
    pub low : place ≤ at + 260 * k
    pub ahead : drop k (those t s n at) ≡ those t s (n - k) place

  pub filling-turn : (k place next : ℕ) → Filling k place → k < n → next ≡ next_pdo s place → next ≤ place + 260 → Filling (k + 1) next
  filling-turn k place next f h e m =
      let l = f.low in
      record {
        within = omega arith;
        low = omega arith;
        ahead = sym (drop-drop 1 k (those t s n at)) ∙ ap (drop 1) f.ahead ∙ others t s (n - k) (n - (k + 1)) place (omega arith) ∙ ap (those t s (n - (k + 1))) (sym e);
      }

  -- what stands at the next place
  here : (k place : ℕ) → Filling k place → k < n → get_or (those t s n at) k 0 ≡ multiplier_of t (pdo_at s place).index
  here k place f h =
      ap (λ (j : ℕ). get_or (those t s n at) j 0) (omega arith) ∙ sym (get_or-drop k (those t s n at) 0 0)
      ∙ ap (λ (q : List ℕ). get_or q 0 0) f.ahead ∙ first_one t s (n - k) (n - (k + 1)) place (omega arith)

  -- a list with the first k places filled
  abbrev pub filled : List ℕ → ℕ → List ℕ
  filled room k = take k (those t s n at) ++ drop k room

  module _ (room : List ℕ) (wide : n ≤ length room) where
    pub filled_next : (k place i y : ℕ) → Filling k place → k < n → i ≡ (pdo_at s place).index → y ≡ multiplier_of t i → set (filled room k) k y ≡ filled room (k + 1)
    filled_next k place i y f h ei ey =
        let l = length-those t s n at in
        ap (set (filled room k) k) (ey ∙ ap (multiplier_of t) ei ∙ sym (here k place f h)) ∙ copied 0 (those t s n at) room (filled room k) k (omega arith) (omega arith) refl

  -- all of a room that has just these places
  pub filled-all : (room : List ℕ) (k place : ℕ) → length room ≡ n → Filling k place → n ≤ k → filled room k ≡ those t s n at
  filled-all room k place long f h =
      ap₂ (λ (x y : List ℕ). x ++ y) (take_all k (those t s n at) (omega (arith, length-those t s n at))) (drop_of_length-le room {i = k} (omega arith)) ∙ append-nil (those t s n at)
