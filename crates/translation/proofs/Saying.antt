-- The first of several entries that says something of an address, and the whole call.
-- Assumes nothing.
use Rattle.std.proofs.Common.{◌≡◌, refl, sym, ◌∙◌, ap, true, false, List, ◌∷◌, map, ℕ, zero, suc, ◌+◌, ◌/◌, ◌<◌, ◌≤◌, add-one, length, get_or, take, drop, drop-cons, drop_of_length-le}
use Rattle.std.proofs.Math.Option.{Option, none, some}
use Rattle.std.specs.Simd.{first_chunks}
use borrow.Author.Tests.{eq-eqb, ne_eqb}
use Rattle.wire.specs.Outcome.{refused, accepted}
use Rattle.wire.specs.Lists.{some_of}
use Rattle.area.specs.Area.{chunks, entries_of}
use Rattle.pdo.specs.declared.PdoDirection.{PdoDirection}
use Rattle.translation.specs.Translate.{odd, says, first_said, or_none, translate}

-- one more that says something, one that doesn't, and none left
module _ (f : List ℕ → Option (Option ℕ)) (l : List (List ℕ)) (k : ℕ) where
  abbrev pub said_from : ℕ → Option ℕ
  said_from i = or_none (first_said (map f (drop i l)))

  pub said-here : (x : List ℕ) {y : Option ℕ} → k < length l → some y ≡ f (get_or l k x) → y ≡ said_from k
  unfolding first_said
  said-here x h e = rw (drop-cons l k x h, ← e) refl

  pub said-later : (x : List ℕ) → k < length l → none ≡ f (get_or l k x) → said_from (k + 1) ≡ said_from k
  unfolding first_said
  said-later x h e = rw (add-one, drop-cons l k x h, ← e) refl

  pub said-nowhere : length l ≤ k → none ≡ said_from k
  unfolding first_said
  said-nowhere h = rw (drop_of_length-le l h) refl

-- the entries, as the library cuts an area
first_entries : (n m : ℕ) (area : List ℕ) → first_chunks n m area ≡ chunks n m area
unfolding chunks
first_entries n zero area = refl
first_entries n (suc m) area = ap (λ (es : List (List ℕ)). take n area ∷ es) (first_entries n m (drop n area))

-- the whole call
module _ (r : PdoDirection) (area : List ℕ) (a : ℕ) where
  pub one : (length area ≡ 256 → ⊥) → refused 1 ≡ translate r area a
  unfolding translate
  one h = rw (ne_eqb (length area) 256 h)

  module _ (long : length area ≡ 256) (es : List (List ℕ)) (cut : es ≡ first_chunks 16 (length area / 16) area) where
    whole : entries_of 16 area ≡ es
    whole = sym (cut ∙ ap (λ (n : ℕ). first_chunks 16 (n / 16) area) long ∙ first_entries 16 16 area)

    pub eleven : true ≡ some_of (odd r) es → refused 11 ≡ translate r area a
    unfolding translate
    eleven h = rw (eq-eqb (length area) 256 long, whole, ← h) refl

    pub answers : {x : Option ℕ} → false ≡ some_of (odd r) es → x ≡ or_none (first_said (map (says r a) es)) → accepted x ≡ translate r area a
    unfolding translate
    answers h e = rw (eq-eqb (length area) 256 long, whole, ← h) (ap accepted e)
