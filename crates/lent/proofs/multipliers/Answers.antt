-- `lent::multipliers`: a table that has records fills the ones. For one that has none the attribute there names the lemma.
-- Assumes nothing.
use mathlib.Core.Path.{◌∙◌, ap}
use native.Mathlib.Omega.{arith}
use Rattle.wire.specs.Room.{over}
use Rattle.wire.specs.Image.{Bytes}
use Rattle.sheet.specs.Sheet.{sheet_data}
use Rattle.pdo.specs.Bits.{multipliers_of}
use Rattle.lent.proofs.Filling.{fronted}
use Rattle.lent.proofs.multipliers.Goals as goal

pub returns : goal.returns
returns c =
    let s = c.args.sheet.now in
    let t = c.args.table.now in
    let ws = c.multipliers_for.new.out in
    let small : Bytes s = record { below = λ k. omega (arith, c.type_inv.sheet k) } in
    fronted t s ws small (c.multipliers_for.ensures ∙ ap (over (multipliers_of t (sheet_data s).pdos)) c.insert-ones.ensures.value)
