-- A question of each number below another, and of the first of a row: as a chain over them asks it.
-- Assumes nothing.
use mathlib.Core.Path.{◌≡◌, refl, ◌∙◌, ap}
use mathlib.Core.Bool.{Bool, ◌||◌}
use mathlib.Core.List.{List, [], ◌∷◌, ◌++◌}
use Prim.Native.Nat.{ℕ, zero, suc, ◌+◌, ◌≤◌}
use native.Mathlib.Omega.{arith}
use lib.ListN.{length, get_or, take}
use Rattle.std.specs.List.{range_with_len}
use Rattle.std.proofs.lemmas.List.Folds.{list_any-append}
use Rattle.wire.specs.Lists.{some_below, some_of}
use Rattle.wire.proofs.Lists.{or-false, some_next}

-- the numbers from a on, one more
one-more : (a n : ℕ) → range_with_len a (suc n) ≡ range_with_len a n ++ ((a + n) ∷ [])
one-more a zero = let e : a ≡ a + 0 = omega arith in ap (λ (k : ℕ). k ∷ []) e
one-more a (suc n) =
    let e : a + 1 + n ≡ a + suc n = omega arith in
    ap (λ (l : List ℕ). a ∷ l) (one-more (a + 1) n ∙ ap (λ (k : ℕ). range_with_len (a + 1) n ++ (k ∷ [])) e)

pub some-number : (f : ℕ → Bool) (n : ℕ) → some_of f (range_with_len 0 n) ≡ some_below f n
unfolding some_below
some-number f zero = refl
some-number f (suc n) =
    let e : 0 + n ≡ n = omega arith in
    ap (some_of f) (one-more 0 n)
    ∙ list_any-append f (range_with_len 0 n) ((0 + n) ∷ [])
    ∙ ap (λ (b : Bool). some_of f (range_with_len 0 n) || b) (or-false (f (0 + n)) ∙ ap f e)
    ∙ ap (λ (b : Bool). b || f n) (some-number f n)

pub some-row : (f : ℕ → Bool) (l : List ℕ) (n : ℕ) → n ≤ length l → some_of f (take n l) ≡ some_below (λ k. f (get_or l k 0)) n
unfolding some_below
some-row f l zero h = refl
some-row f l (suc n) h =
    ap (λ (k : ℕ). some_of f (take k l)) (let e : suc n ≡ n + 1 = omega arith in e)
    ∙ some_next f l n 0 (omega arith)
    ∙ ap (λ (b : Bool). b || f (get_or l n 0)) (some-row f l n (omega arith))
