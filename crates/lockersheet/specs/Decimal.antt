-- The decimal number that a text is.
-- Assumes nothing.
use Rattle.std.specs.Prelude.{Bool, cond, ◌||◌, List, [], ◌∷◌, ℕ, ◌+◌, ◌*◌, ◌-◌, length, ltb, Option, Some, None}
use Rattle.wire.specs.Lists.{some_of}

-- a byte that is none of `0` to `9`
abbrev pub no_digit : ℕ → Bool
no_digit b = ltb b 48 || ltb 57 b

-- the number that digits write behind those of v, the most significant first
abbrev pub value_from : ℕ → List ℕ → ℕ
value_from v [] = v
value_from v (b ∷ bs) = value_from (10 * v + (b - 48)) bs

-- the same as an answer: none where a byte is no digit, or the number is more than the most that is taken
unfoldable pub number_from : (most : ℕ) → ℕ → List ℕ → Option ℕ
number_from most v bs = cond (some_of no_digit bs || ltb most (value_from v bs)) None (Some (value_from v bs))

-- what a text says: a number has a digit
abbrev pub number_in : (most : ℕ) → List ℕ → Option ℕ
number_in most text = cond (ltb 0 (length text)) (number_from most 0 text) None
