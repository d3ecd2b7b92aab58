-- Bytes that are made up of parts, one behind the other, where the bytes themselves say how long the part at their front is.
-- Assumes nothing.
use Rattle.std.specs.Prelude.{cond, List, [], ◌∷◌, ℕ, zero, suc, length, take, drop, eqb, leb}

-- n bytes at the front, where there are so many; else 0, which says that no part stands there
abbrev pub whole : ℕ → List ℕ → ℕ
whole n l = cond (leb n (length l)) n 0

-- the parts, each as its bytes, and what stands behind the last
pub record Cut : Type 0 where
  pub parts : List (List ℕ)
  pub rest : List ℕ

abbrev pub uncut : List ℕ → Cut
uncut l = record { parts = []; rest = l }

abbrev pub before : List ℕ → Cut → Cut
before part c = record { parts = part ∷ c.parts; rest = c.rest }

-- at most n of them, from the front on
unfoldable pub cut_in : (List ℕ → ℕ) → ℕ → List ℕ → Cut
cut_in long zero l = uncut l
cut_in long (suc n) l = cond (eqb (long l) 0) (uncut l) (before (take (long l) l) (cut_in long n (drop (long l) l)))

-- all of them: there are no more than there are bytes
abbrev pub cut_of : (List ℕ → ℕ) → List ℕ → Cut
cut_of long l = cut_in long (length l) l

abbrev pub parts_of : (List ℕ → ℕ) → List ℕ → List (List ℕ)
parts_of long l = (cut_of long l).parts

abbrev pub rest_of : (List ℕ → ℕ) → List ℕ → List ℕ
rest_of long l = (cut_of long l).rest
