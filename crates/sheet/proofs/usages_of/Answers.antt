-- `sheet::usages_of`: the usages, and the places that are left.
-- Assumes nothing.
use mathlib.Core.Path.{◌≡◌, ◌∙◌, ap, ap₂}
use mathlib.Core.List.{List, ◌++◌}
use Prim.Native.Nat.{ℕ, ◌+◌, ◌-◌}
use native.Mathlib.Omega.{arith}
use lib.ListN.{take, drop}
use Rattle.std.proofs.lemmas.List.{drop-replicate}
use Rattle.sheet.proofs.Managers.{row-numbered}
use Rattle.sheet.proofs.usages_of.Goals as goal

pub returns : goal.returns
returns c =
    let a = c.args in
    let s = a.sheet.now in
    let n : a.at + a.f - a.at ≡ a.f = omega arith in
    ap₂ (λ (x y : List ℕ). x ++ y)
    (c.copy_from_slice.ensures.after ∙ ap (λ (k : ℕ). take k (drop a.at s)) n ∙ row-numbered s a.at a.f (omega arith))
    (drop-replicate a.f 16 0)
