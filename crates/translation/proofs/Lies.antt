-- Where an address lies: before some bytes, among them, or behind them.
-- Assumes nothing.
use mathlib.Core.Path.{◌≡◌, refl, ◌∙◌}
use mathlib.Core.Bool.{Bool, true, false, ◌&&◌}
use Prim.Native.Nat.{ℕ, ◌+◌, ◌-◌, ◌≤◌, ◌<◌}
use native.Mathlib.Omega.{arith}
use lib.Dec.{leb, ltb}
use borrow.Author.Tests.{le-leb, lt-ltb, lt-leb, le-ltb, ltb-true, ltb-false, leb-true}
use Rattle.translation.specs.Translate.{within}

pub inside : (s n a : ℕ) → s ≤ a → a < s + n → within s n a ≡ true
inside s n a h g = rw (le-leb s a h, lt-ltb a (s + n) g) refl

pub before : (s n a : ℕ) → a < s → within s n a ≡ false
before s n a h = rw (lt-leb s a h) refl

pub behind : (s n a : ℕ) → s + n ≤ a → within s n a ≡ false
behind s n a h = rw (le-ltb a (s + n) h) (go (leb s a))
  where
    go : (b : Bool) → ◌≡◌ {A = Bool} (b && false) false
    go true = refl
    go false = refl

-- as code asks, once the start isn't past it
pub from_start : (s n a : ℕ) → s ≤ a → ltb (a - s) n ≡ within s n a
from_start s n a h = go (ltb (a - s) n) refl
  where
    go : (b : Bool) → ltb (a - s) n ≡ b → b ≡ within s n a
    go true e = let l = ltb-true (a - s) n e in let t : a < s + n = omega arith in rw (inside s n a h t) refl
    go false e = let l = ltb-false (a - s) n e in let t : s + n ≤ a = omega arith in rw (behind s n a t) refl

-- what holds an address starts at it or before
pub started : (s n a : ℕ) → within s n a ≡ true → s ≤ a
started s n a h = leb-true s a (go (leb s a) h)
  where
    go : (b : Bool) → b && ltb a (s + n) ≡ true → b ≡ true
    go true e = refl
    go false e = e

-- and counts it among its bytes
pub among : (s n a : ℕ) → within s n a ≡ true → a - s < n
among s n a h = ltb-true (a - s) n (from_start s n a (started s n a h) ∙ h)
