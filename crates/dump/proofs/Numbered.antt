-- A list by its elements' numbers, as loops meet it: a question about some element, and sixteen places filled with it.
-- Assumes nothing.
use mathlib.Core.Path.{◌≡◌, refl, sym, ◌∙◌, ap}
use mathlib.Core.Bool.{Bool, ◌||◌}
use mathlib.Core.List.{List, ◌++◌}
use Prim.Native.Nat.{ℕ, zero, suc, ◌-◌, ◌≤◌, ◌<◌}
use native.Mathlib.Numerals.{add-one}
use native.Mathlib.Nat.{zero-add}
use native.Mathlib.Omega.{arith}
use lib.ListN.{length, get_or, take, replicate}
use lib.Seq.{take_all, ext_get_or}
use Rattle.std.specs.List.{list_any, range_with_len}
use Rattle.std.proofs.lemmas.List.FromFn.{length-range_with_len, get_or-range_with_len}
use Rattle.wire.specs.Lists.{list_of, some_below, some_of}
use Rattle.wire.proofs.Lists.{some_next, some_same, length-list_of, get_d-list_of}

module _ {A : Type 0} (l : List A) (d : A) (n : ℕ) (e : length l ≡ n) where
  -- some element has it where some number below has it
  by_number : (f : A → Bool) (q : ℕ → Bool) → ((k : ℕ) → k < n → f (get_or l k d) ≡ q k) → some_of f l ≡ some_below q n
  unfolding some_below
  by_number f q h =
      ap (some_of f) (sym (take_all n l (omega arith))) ∙ below n (omega arith) ∙ some_same (λ k. f (get_or l k d)) q n h
    where
      below : (m : ℕ) → m ≤ length l → some_of f (take m l) ≡ some_below (λ k. f (get_or l k d)) m
      below zero b = refl
      below (suc m) b =
          ap (λ (i : ℕ). some_of f (take i l)) (sym (add-one m))
          ∙ some_next f l m d b
          ∙ ap (λ (x : Bool). x || f (get_or l m d)) (below m (omega arith))

module _ {A : Type 0} (l : List A) (d : A) (n : ℕ) (e : length l ≡ n) where
  -- what stands at each number is the list
  pub list-numbered : (f : ℕ → A) → ((k : ℕ) → k < n → get_or l k d ≡ f k) → l ≡ list_of f n
  list-numbered f h =
      let long = length-list_of f n in
      ext_get_or d l (list_of f n) (e ∙ sym long) (λ k b. h k (omega arith) ∙ sym (get_d-list_of f n k d (omega arith)))

  -- some element has it where some number has it
  pub some-numbered : (f : A → Bool) (q : ℕ → Bool) → ((k : ℕ) → k < n → f (get_or l k d) ≡ q k) → some_of f l ≡ list_any q (range_with_len 0 n)
  some-numbered f q h =
      by_number l d n e f q h
      ∙ sym (by_number (range_with_len 0 n) 0 n (length-range_with_len 0 n) q q (λ k b. ap q (get_or-range_with_len 0 n k 0 b ∙ zero-add k)))

-- the end of a loop that fills sixteen places
pub filled-end : {A : Type 0} (f : ℕ → A) (d : A) (k n : ℕ) {l all : List A} → k ≡ n → all ≡ list_of f n → l ≡ list_of f k ++ replicate (16 - k) d → l ≡ all ++ replicate (16 - n) d
filled-end {A} f d k n e a h =
    h ∙ ap (λ (i : ℕ). list_of f i ++ replicate (16 - i) d) e ∙ ap (λ (x : List A). x ++ replicate (16 - n) d) (sym a)
