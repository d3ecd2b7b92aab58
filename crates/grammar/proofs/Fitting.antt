-- Which kinds of PDO go with which counts, as the code asks.
-- Assumes nothing.
use mathlib.Core.Path.{◌≡◌, refl}
use mathlib.Core.Bool.{true}
use Prim.Native.Nat.{ℕ, zero, suc, ◌≤◌}
use native.Mathlib.Omega.{arith}
use lib.Dec.{eqb}
use borrow.Author.Tests.{eq-eqb}
use Rattle.grammar.specs.Grammar.{kind_fits}

-- kind 0 has any count
pub coe-fits : (kind m : ℕ) → kind ≡ 0 → kind_fits kind m ≡ true
unfolding kind_fits
coe-fits kind m e = rw (eq-eqb kind 0 e)

-- kinds 1 and 2 have a count of 2
pub other_fits : (kind m : ℕ) → (kind ≡ 0 → ⊥) → kind ≤ 2 → kind_fits kind m ≡ eqb m 2
unfolding kind_fits
other_fits zero m e h = absurd (e refl)
other_fits (suc zero) m e h = refl
other_fits (suc (suc zero)) m e h = refl
other_fits (suc (suc (suc k))) m e h = absurd (omega arith)
