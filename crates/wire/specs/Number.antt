-- Numbers of several bytes: in the registers the low byte stands first, in the sheets the high one.
-- Assumes nothing.
use Rattle.std.specs.Prelude.{List, [], ◌∷◌, ◌++◌, ℕ, zero, suc, ◌+◌, ◌*◌, ◌/◌, ◌%◌, get_or}

-- the number in the n bytes of l from `at`, the low byte first
abbrev pub little_at : List ℕ → ℕ → ℕ → ℕ
little_at l at zero = zero
little_at l at (suc n) = get_or l at 0 + 256 * little_at l (at + 1) n

-- the n bytes of x, the low byte first
abbrev pub little_of : ℕ → ℕ → List ℕ
little_of zero x = []
little_of (suc n) x = x % 256 ∷ little_of n (x / 256)

-- the number in the n bytes of l from `at`, the high byte first: each byte moves what came before it up by 256
abbrev pub big_from : ℕ → List ℕ → ℕ → ℕ → ℕ
big_from before l at zero = before
big_from before l at (suc n) = big_from (256 * before + get_or l at 0) l (at + 1) n

abbrev pub big_at : List ℕ → ℕ → ℕ → ℕ
big_at l at n = big_from 0 l at n

-- the n bytes of x, the high byte first: those of x / 256, then the low one
abbrev pub big_of : ℕ → ℕ → List ℕ
big_of zero x = []
big_of (suc n) x = big_of n (x / 256) ++ (x % 256 ∷ [])
