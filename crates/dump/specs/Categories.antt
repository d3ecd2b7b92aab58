-- The category area of a device's EEPROM (ETG2010), little-endian: categories, one behind the other, up to the end mark.
-- Assumes nothing.
use Rattle.std.specs.Prelude.{Bool, not, cond, List, [], ◌∷◌, ℕ, ◌+◌, ◌*◌, drop, eqb}
use Rattle.wire.specs.Number.{little_at}
use Rattle.dump.specs.Parts.{whole, parts_of, rest_of}

-- the type word; past the end of a dump there is 0, so an end mark that is cut is none
abbrev pub type_of : List ℕ → ℕ
type_of l = little_at l 0 2

-- the end mark is the type 0xFFFF alone
abbrev pub marked : List ℕ → Bool
marked l = eqb (type_of l) 65535

-- a category: its type word, its length in words, and so many words; the end mark is none
abbrev pub category_long : List ℕ → ℕ
category_long l = cond (marked l) 0 (whole (4 + 2 * little_at l 2 2) l)

unfoldable pub categories : List ℕ → List (List ℕ)
categories dump = parts_of category_long dump

-- its content: what stands behind its type and its length
abbrev pub content_of : List ℕ → List ℕ
content_of c = drop 4 c

-- 16: a category that runs past the dump, or no end mark: what stands behind the categories isn't the mark
unfoldable pub unended : List ℕ → Bool
unended dump = not (marked (rest_of category_long dump))

-- the content of the first category of a type; where there is none, nothing
abbrev pub content_for : ℕ → List (List ℕ) → List ℕ
content_for t [] = []
content_for t (c ∷ cs) = cond (eqb (type_of c) t) (content_of c) (content_for t cs)

-- how many categories have a type
abbrev pub how_many : ℕ → List (List ℕ) → ℕ
how_many t [] = 0
how_many t (c ∷ cs) = cond (eqb (type_of c) t) 1 0 + how_many t cs
