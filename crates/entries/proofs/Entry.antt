-- One use laid into its entry from a start that is past the last address.
-- Assumes nothing.
use mathlib.Core.Path.{◌≡◌, refl, ap}
use mathlib.Core.Bool.{Bool, true, false, cond}
use mathlib.Core.List.{List, [], ◌∷◌, ◌++◌}
use Prim.Native.Nat.{ℕ, ◌+◌, ◌*◌, ◌%◌}
use lib.ListN.{get_or, set}
use Rattle.wire.specs.Field.{bit}
use Rattle.wire.specs.Number.{little_of}
use Rattle.wire.proofs.Numbers.{little-wraps}
use Rattle.fmmu.specs.declared.Fmmu.{Fmmu}
use Rattle.fmmu.specs.Image.{fields_of, image_of}
use Rattle.pdo.specs.declared.PdoDirection.{PdoDirection}
use Rattle.pdo.specs.Direction.{is_read, is_write}
use Rattle.passes.specs.Use.{Use}
use Rattle.passes.specs.Entries.{mapped, grown, laid, with_use}

-- a use is laid from a start as from what four bytes hold of it
image-wraps : (r : PdoDirection) (o : ℕ) (u : Use) (f : Fmmu) → image_of (laid r (o % 4294967296) u f) ≡ image_of (laid r o u f)
unfolding image_of
image-wraps r o u f = go f.enable
  where
    go : (b : Bool) → image_of (cond b (grown f u.size) (mapped r (o % 4294967296) u.size u.at)) ≡ image_of (cond b (grown f u.size) (mapped r o u.size u.at))
    go true = refl
    go false =
        λ i. little-wraps 4 o i ++ little_of 2 u.size ++ (0 ∷ 7 ∷ []) ++ little_of 2 u.at ++ (0 ∷ (bit (is_read r) + 2 * bit (is_write r)) ∷ 1 ∷ 0 ∷ 0 ∷ 0 ∷ [])

pub start-wraps : (r : PdoDirection) (o : ℕ) (u : Use) (entries : List (List ℕ)) → with_use r (o % 4294967296) u entries ≡ with_use r o u entries
start-wraps r o u entries = ap (set entries u.entry) (image-wraps r o u (fields_of (get_or entries u.entry [])))
