-- Old entries cleared: one entry. Without both bits it then has no weight for either direction; cleared again it stays.
-- Assumes nothing.
use mathlib.Core.Path.{◌≡◌, refl, ◌∙◌, ap}
use mathlib.Core.Bool.{Bool, true, false, not, ◌&&◌}
use mathlib.Core.List.{List}
use Prim.Native.Nat.{ℕ}
use lib.ListN.{replicate}
use Rattle.fmmu.specs.declared.Fmmu.{Fmmu}
use Rattle.fmmu.specs.Image.{fields_of}
use Rattle.pdo.specs.declared.PdoDirection.{PdoDirection}
use Rattle.pdo.specs.declared.PdoDirection.TheVariants.{MasterRead, MasterWrite}
use Rattle.pdo.specs.Direction.{other}
use Rattle.passes.specs.Old.{is_old, cleared, cleared_of_both, both_bits}
use Rattle.passes.proofs.Cleared.{zeros-off, old-bits, cleared-old, cleared-not, cleared-off, both-off, both-has}
use Rattle.translation.specs.Translate.{carries}
use Rattle.agreement.proofs.Step.{Silent, off-silent}

-- with neither both bits nor its own alone an entry has no weight for a direction
not-old-silent : (r : PdoDirection) (e : List ℕ) → both_bits e ≡ false → is_old r (fields_of e) ≡ false → Silent r e
unfolding carries
not-old-silent r e both old = go r both old
  where
    one : (on a b : Bool) → on && (a && b) ≡ false → on && (a && not b) ≡ false → on && a ≡ false
    one true true true h n = h
    one true true false h n = n
    one true false b h n = refl
    one false a b h n = refl

    swap : (on a b : Bool) → on && (a && b) ≡ false → on && (b && a) ≡ false
    swap true true b h = rw h refl
    swap true false true h = refl
    swap true false false h = refl
    swap false a b h = refl

    go : (r : PdoDirection) → both_bits e ≡ false → is_old r (fields_of e) ≡ false → Silent r e
    go MasterRead h n = one (fields_of e).enable (fields_of e).read_enable (fields_of e).write_enable h n
    go MasterWrite h n =
        one (fields_of e).enable (fields_of e).write_enable (fields_of e).read_enable
        (swap (fields_of e).enable (fields_of e).read_enable (fields_of e).write_enable h) n

-- without both bits, an entry cleared has no weight
pub cleared-silent : (r : PdoDirection) (e : List ℕ) → both_bits e ≡ false → Silent r (cleared_of_both e)
cleared-silent r e b = both-has e (Silent r) (off-silent r (replicate 16 0) zeros-off) (λ n w. of r n w)
  where
    of : (r : PdoDirection) → is_old MasterRead (fields_of e) ≡ false → is_old MasterWrite (fields_of e) ≡ false → Silent r e
    of MasterRead n w = not-old-silent MasterRead e b n
    of MasterWrite n w = not-old-silent MasterWrite e b w

-- an old entry of one direction is none of the other; of either it is set to zero
old-not-other : (r : PdoDirection) (f : Fmmu) → is_old r f ≡ true → is_old (other r) f ≡ false
old-not-other MasterRead f h = let b = old-bits MasterRead f h in rw (b.0, b.1.1) refl
old-not-other MasterWrite f h = let b = old-bits MasterWrite f h in rw (b.0, b.1.1) refl

pub both-old : (r : PdoDirection) (e : List ℕ) → is_old r (fields_of e) ≡ true → cleared_of_both e ≡ replicate 16 0
both-old MasterRead e h = ap (cleared MasterWrite) (cleared-old MasterRead e h) ∙ cleared-off MasterWrite (replicate 16 0) zeros-off
both-old MasterWrite e h = ap (cleared MasterWrite) (cleared-not MasterRead e (old-not-other MasterWrite (fields_of e) h)) ∙ cleared-old MasterWrite e h

-- clearing again clears nothing
pub cleared-twice : (e : List ℕ) → cleared_of_both (cleared_of_both e) ≡ cleared_of_both e
cleared-twice e =
    both-has e (λ x. cleared_of_both x ≡ x) (both-off (replicate 16 0) zeros-off) (λ n w. ap (cleared MasterWrite) (cleared-not MasterRead e n) ∙ cleared-not MasterWrite e w)
