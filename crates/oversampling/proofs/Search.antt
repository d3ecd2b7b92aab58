-- The first match of the oversampling table, as the code walks it.
-- Assumes nothing.
use mathlib.Core.Path.{◌≡◌, refl}
use mathlib.Core.List.{List}
use Prim.Native.Nat.{ℕ, ◌+◌, ◌<◌, ◌≤◌}
use native.Mathlib.Numerals.{add-one}
use lib.ListN.{length, get_or, drop, drop_of_length-le}
use lib.Seq.{drop-cons}
use borrow.Author.Tests.{eq-eqb, ne_eqb}
use Rattle.pdo.specs.declared.Oversampling.{Oversampling}
use Rattle.pdo.specs.Bits.{multiplier_of}

-- a record matches, or the others decide
pub hit : (t : List Oversampling) (i index : ℕ) (d : Oversampling) → i < length t → (get_or t i d).pdo_index ≡ index → (get_or t i d).multiplier ≡ multiplier_of (drop i t) index
unfolding multiplier_of
hit t i index d h e = rw (drop-cons t i d h, eq-eqb (get_or t i d).pdo_index index e) refl

pub miss :
    (t : List Oversampling) (i index : ℕ) (d : Oversampling)
    → i < length t → ((get_or t i d).pdo_index ≡ index → ⊥) → multiplier_of (drop (i + 1) t) index ≡ multiplier_of (drop i t) index
unfolding multiplier_of
miss t i index d h e = rw (add-one, drop-cons t i d h, ne_eqb (get_or t i d).pdo_index index e) refl

-- none is left
pub at-end : (t : List Oversampling) (i index : ℕ) → length t ≤ i → 1 ≡ multiplier_of (drop i t) index
unfolding multiplier_of
at-end t i index h = rw (drop_of_length-le t h)
