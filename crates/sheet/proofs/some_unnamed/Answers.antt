-- `sheet::some_unnamed`: none so far has an unnamed control.
-- Assumes nothing.
use Rattle.std.proofs.Common.{◌≡◌, refl, sym, ◌∙◌, ap, ◌+◌, arith, List, ℕ, Bool, get_or}
use Rattle.wire.specs.Lists.{some_below}
use Rattle.wire.proofs.Lists.{some-hit, some-miss}
use Rattle.channel_bytes.specs.Bytes.{control_at, unnamed}
use Rattle.channel_bytes.specs.declared.Control.{Control}
use Rattle.sheet.specs.Sheet.{manager_count, manager_place}
use Rattle.sheet.proofs.Managers.{unnamed-numbered}
use Rattle.sheet.proofs.some_unnamed.Invariants.{nameless}
use Rattle.sheet.proofs.some_unnamed.Goals as goal

-- what is asked of a sync manager
asked : (s : List ℕ) (k place : ℕ) (control : Control) (b : Bool) → place ≡ manager_place k → control ≡ control_at (get_or s (place + 2) 0) → b ≡ unnamed control → nameless s k ≡ b
asked s k place control b e f g = sym (g ∙ ap unnamed (f ∙ ap (λ (p : ℕ). control_at (get_or s (p + 2) 0)) e))

pub loop-k-init : goal.loop-k-init
unfolding some_below
loop-k-init c = refl

pub returns-then-unnamed : goal.returns-then-unnamed
returns-then-unnamed c =
    let s = c.args.sheet.now in
    let k = c.loop-k.k in
    let hit = asked s k c.manager_place.result c.unpack.result c.unnamed.result c.manager_place.ensures.0 c.unpack.ensures c.unnamed.ensures ∙ c.if-unnamed.true in
    sym (some-hit (nameless s) k (manager_count s) (omega arith) hit) ∙ unnamed-numbered s

pub loop-k-preserved : goal.loop-k-preserved
loop-k-preserved c =
    let s = c.args.sheet.now in
    let k = c.loop-k.k in
    some-miss (nameless s) k c.loop-k.invariant (asked s k c.manager_place.result c.unpack.result c.unnamed.result c.manager_place.ensures.0 c.unpack.ensures c.unnamed.ensures ∙ c.if-unnamed.false)

pub returns : goal.returns
returns c =
    let s = c.args.sheet.now in
    let all : c.loop-k.k ≡ manager_count s = omega (arith, c.manager_count-k-end.ensures) in
    sym (ap (some_below (nameless s)) (sym all) ∙ c.loop-k.invariant) ∙ unnamed-numbered s
