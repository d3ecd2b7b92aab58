-- The sync managers and usages of a sheet as loops meet them: by number, a turn, the end.
-- Assumes nothing.
use mathlib.Core.Path.{◌≡◌, refl, sym, ◌∙◌, ap, ap₂}
use mathlib.Core.Bool.{Bool, ◌||◌}
use mathlib.Core.List.{List, [], ◌∷◌, ◌++◌}
use Prim.Native.Nat.{ℕ, zero, suc, ◌+◌, ◌≤◌, ◌<◌, min}
use native.Mathlib.Numerals.{add-one}
use native.Mathlib.Omega.{arith}
use lib.ListN.{length, get_or, take, drop, set, length-take, length-drop, drop_of_length-le}
use lib.Seq.{drop-cons, get_or-take, take_all, take-suc}
use Rattle.std.specs.List.{range_with_len}
use Rattle.std.proofs.lemmas.List.{get_or-drop}
use Rattle.std.proofs.lemmas.List.Folds.{list_any-append}
use Rattle.wire.specs.Lists.{list_of, some_below, some_of}
use Rattle.wire.proofs.Lists.{length-list_of, get_d-list_of, filled, or-false}
use Rattle.grammar.proofs.Asked.{some-number}
use Rattle.channel_bytes.specs.Bytes.{unnamed}
use Rattle.sheet.specs.declared.SyncManager.{SyncManager}
use Rattle.sheet.specs.Sheet.{manager_count, usage_count, manager_place, usages_place, manager_at, some_unnamed, sheet_data, managers_in, no_manager, managers_of}

-- a question of the elements of a list by number, asked of each number
pub some-listed : {A : Type 0} (f : A → Bool) (g : ℕ → A) (n : ℕ) → some_below (λ k. f (g k)) n ≡ some_of f (list_of g n)
unfolding some_below list_of
some-listed f g zero = refl
some-listed f g (suc n) =
    ap (λ (b : Bool). b || f (g n)) (some-listed f g n)
    ∙ ap (λ (b : Bool). some_of f (list_of g n) || b) (sym (or-false (f (g n))))
    ∙ sym (list_any-append f (list_of g n) (g n ∷ []))

pub some-numbered : {A : Type 0} (f : A → Bool) (g : ℕ → A) (n : ℕ) → some_of (λ k. f (g k)) (range_with_len 0 n) ≡ some_of f (list_of g n)
some-numbered f g n = some-number (λ k. f (g k)) n ∙ some-listed f g n

-- a row of a list, by number
pub row-numbered : (s : List ℕ) (at n : ℕ) → at + n ≤ length s → take n (drop at s) ≡ list_of (λ k. get_or s (at + k) 0) n
unfolding list_of
row-numbered s at zero h = refl
row-numbered s at (suc n) h =
    take-suc (drop at s) n 0 (omega (arith, length-drop at s))
    ∙ ap₂ (λ (l : List ℕ) (x : ℕ). l ++ (x ∷ [])) (row-numbered s at n (omega arith)) (get_or-drop at s n 0)

-- of a list by number: a turn, and the end
module _ {A : Type 0} (f : ℕ → A) (n : ℕ) where
  number-turn : (k : ℕ) → k < n → drop k (list_of f n) ≡ f k ∷ drop (k + 1) (list_of f n)
  number-turn k h =
      drop-cons (list_of f n) k (f k) (omega (arith, length-list_of f n))
      ∙ ap (λ (x : A). x ∷ drop (suc k) (list_of f n)) (get_d-list_of f n k (f k) h)
      ∙ ap (λ (j : ℕ). f k ∷ drop j (list_of f n)) (sym (add-one k))

  number-end : (k : ℕ) → n ≤ k → drop k (list_of f n) ≡ []
  number-end k h = drop_of_length-le (list_of f n) {i = k} (omega (arith, length-list_of f n))

  -- and of its first m
  front_length : (m : ℕ) → length (take m (list_of f n)) ≡ min m n
  front_length m = length-take m (list_of f n) ∙ ap (min m) (length-list_of f n)

  front-turn : (m k : ℕ) → k < n → k < m → drop k (take m (list_of f n)) ≡ f k ∷ drop (k + 1) (take m (list_of f n))
  front-turn m k h g =
      let l = take m (list_of f n) in
      drop-cons l k (f k) (omega (arith, front_length m))
      ∙ ap (λ (x : A). x ∷ drop (suc k) l) (get_or-take m (list_of f n) k (f k) g ∙ get_d-list_of f n k (f k) h)
      ∙ ap (λ (j : ℕ). f k ∷ drop j l) (sym (add-one k))

  front-end : (m k : ℕ) → min n m ≤ k → drop k (take m (list_of f n)) ≡ []
  front-end m k h = drop_of_length-le (take m (list_of f n)) {i = k} (omega (arith, front_length m))

module _ (s : List ℕ) where
  abbrev at_number : ℕ → SyncManager
  at_number k = manager_at s (manager_place k)

  -- all sync managers
  pub manager-count : length (sheet_data s).managers ≡ manager_count s
  unfolding sheet_data
  manager-count = length-list_of at_number (manager_count s)

  pub manager-number : (k : ℕ) (d : SyncManager) → k < manager_count s → get_or (sheet_data s).managers k d ≡ manager_at s (manager_place k)
  unfolding sheet_data
  manager-number k d h = get_d-list_of at_number (manager_count s) k d h

  pub manager-turn : (k : ℕ) → k < manager_count s → drop k (sheet_data s).managers ≡ manager_at s (manager_place k) ∷ drop (k + 1) (sheet_data s).managers
  unfolding sheet_data
  manager-turn k h = number-turn at_number (manager_count s) k h

  pub manager-end : (k : ℕ) → manager_count s ≤ k → drop k (sheet_data s).managers ≡ []
  unfolding sheet_data
  manager-end k h = number-end at_number (manager_count s) k h

  -- the first sixteen
  pub front-count : length (managers_in s) ≡ min (manager_count s) 16
  unfolding sheet_data
  front-count = front_length at_number (manager_count s) 16 ∙ omega arith

  pub front-manager : (k : ℕ) → k < manager_count s → k < 16 → drop k (managers_in s) ≡ manager_at s (manager_place k) ∷ drop (k + 1) (managers_in s)
  unfolding sheet_data
  front-manager k h g = front-turn at_number (manager_count s) 16 k h g

  pub front-over : (k : ℕ) → min (manager_count s) 16 ≤ k → drop k (managers_in s) ≡ []
  unfolding sheet_data
  front-over k h = front-end at_number (manager_count s) 16 k h

  -- which are all where there are no more
  pub front-all : manager_count s ≤ 16 → managers_in s ≡ (sheet_data s).managers
  front-all h = take_all 16 (sheet_data s).managers (omega (arith, manager-count))

  -- the usages
  abbrev usage_at : ℕ → ℕ
  usage_at k = get_or s (usages_place s + k) 0

  pub usage-count : length (sheet_data s).usages ≡ usage_count s
  unfolding sheet_data
  usage-count = length-list_of usage_at (usage_count s)

  pub usage-turn : (k : ℕ) → k < usage_count s → drop k (sheet_data s).usages ≡ get_or s (usages_place s + k) 0 ∷ drop (k + 1) (sheet_data s).usages
  unfolding sheet_data
  usage-turn k h = number-turn usage_at (usage_count s) k h

  pub usage-end : (k : ℕ) → usage_count s ≤ k → drop k (sheet_data s).usages ≡ []
  unfolding sheet_data
  usage-end k h = number-end usage_at (usage_count s) k h

  -- whether some control is unnamed, asked of each number
  pub unnamed-numbered : some_below (λ k. unnamed (manager_at s (manager_place k)).control) (manager_count s) ≡ some_unnamed (sheet_data s).managers
  unfolding sheet_data some_unnamed
  unnamed-numbered = some-listed (λ m. unnamed m.control) at_number (manager_count s)

  -- a turn of the loop that gathers them
  pub gathered : {k i : ℕ} {m : SyncManager} {l : List SyncManager} → k < 16 → l ≡ managers_of s k → i ≡ k → m ≡ manager_at s (manager_place k) → set l i m ≡ managers_of s (k + 1)
  gathered {k} {i} {m} {l} h e ei em =
      ap (λ (j : ℕ). set l j m) ei ∙ ap (set l k) em ∙ filled at_number no_manager 16 k l h e
