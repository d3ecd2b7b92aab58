-- Reserved bits: a byte that is read and written comes back exactly if they are 0; the reserved parts of two layouts together.
-- Assumes nothing.
use mathlib.Core.Path.{◌≡◌, refl}
use mathlib.Core.Bool.{Bool, true, false, false≢true}
use mathlib.Core.Logic.{◌↔◌}
use mathlib.Core.List.{List, [], ◌∷◌, ◌++◌}
use Prim.Native.Nat.{ℕ, ◌<◌}
use lib.Dec.{T, eqb}
use borrow.Author.Tests.{eq-eqb, eqb-true}
use Rattle.wire.specs.Field.{bits_at}
use Rattle.wire.specs.Image.{Part, Clear}
use Rattle.wire.proofs.Below.{all, below}

-- the same truth
abbrev alike : Bool → Bool → Bool
alike true b = b
alike false true = false
alike false false = true

-- two tests that are alike are of facts that hold together
together : (a b c d : ℕ) → T (alike (eqb a b) (eqb c d)) → (a ≡ b) ↔ (c ≡ d)
together a b c d t = go (eqb a b) (eqb c d) t (eq-eqb a b) (eqb-true a b) (eq-eqb c d) (eqb-true c d)
  where
    go : (x y : Bool) → T (alike x y) → (a ≡ b → x ≡ true) → (x ≡ true → a ≡ b) → (c ≡ d → y ≡ true) → (y ≡ true → c ≡ d) → (a ≡ b) ↔ (c ≡ d)
    go true true h p q r s = (λ e. s refl, λ e. q refl)
    go true false h p q r s = absurd h
    go false true h p q r s = absurd h
    go false false h p q r s = (λ e. absurd (false≢true (p e)), λ e. absurd (false≢true (r e)))

-- `back` says what a byte becomes; the test is computed over all bytes
pub exactly : (back : ℕ → ℕ) (shift width : ℕ) → T (all (λ b. alike (eqb (back b) b) (eqb (bits_at b shift width) 0)) 256) → (b : ℕ) → b < 256 → (back b ≡ b) ↔ (bits_at b shift width ≡ 0)
exactly back shift width t b h = together (back b) b (bits_at b shift width) 0 (below (λ k. alike (eqb (back k) k) (eqb (bits_at k shift width) 0)) 256 t b h)

-- parts of two lists that are 0
pub clear_both : (ps qs : List Part) (l : List ℕ) → Clear ps l → Clear qs l → Clear (ps ++ qs) l
clear_both [] qs l z y = y
clear_both (p ∷ ps) qs l z y = (z.0, clear_both ps qs l z.1 y)

pub clear_first : (ps qs : List Part) (l : List ℕ) → Clear (ps ++ qs) l → Clear ps l
clear_first [] qs l z = tt
clear_first (p ∷ ps) qs l z = (z.0, clear_first ps qs l z.1)

pub clear_second : (ps qs : List Part) (l : List ℕ) → Clear (ps ++ qs) l → Clear qs l
clear_second [] qs l z = z
clear_second (p ∷ ps) qs l z = clear_second ps qs l z.1
