-- `dump::put_records`: the one category's records behind the other's, as the order is asked for.
-- Assumes nothing.
use mathlib.Core.Path.{◌≡◌, sym, ◌∙◌, ap}
use mathlib.Core.Bool.{Bool, true, false, cond}
use mathlib.Core.List.{List, ◌++◌}
use Prim.Native.Nat.{ℕ, ◌+◌, ◌*◌, ◌≤◌}
use native.Mathlib.Omega.{arith}
use lib.ListN.{length}
use Rattle.wire.specs.Room.{over}
use Rattle.sheet.specs.Device.{Pdo}
use Rattle.writer.proofs.Parts.{pdos_bytes}
use Rattle.dump.specs.Parts.{parts_of}
use Rattle.dump.specs.Categories.{categories}
use Rattle.dump.specs.Records.{pdo_long, pdos_for}
use Rattle.dump.specs.Looked.{front_content, pdos_from}
use Rattle.dump.proofs.Placed.{pdos-counted, in_order}
use Rattle.dump.proofs.put_records.Goals as goal

-- once both contents are taken: there is room for their records, and the one order or the other is the one that is asked for
module _ (first : Bool) (inputs outputs : List (List ℕ)) (room : List ℕ) {tx rx : List ℕ} (i : tx ≡ front_content inputs) (o : rx ≡ front_content outputs) where
  enough : 7 * length (pdos_from first inputs outputs) ≤ length room → 7 * (length (parts_of pdo_long tx) + length (parts_of pdo_long rx)) ≤ length room
  enough h =
      let t = ap (λ (l : List ℕ). length (parts_of pdo_long l)) i in
      let r = ap (λ (l : List ℕ). length (parts_of pdo_long l)) o in
      omega (arith, h, pdos-counted first inputs outputs)

  stored : (b : Bool) → first ≡ b → over (pdos_bytes (cond b (pdos_for 1 tx ++ pdos_for 2 rx) (pdos_for 2 rx ++ pdos_for 1 tx))) room ≡ over (pdos_bytes (pdos_from first inputs outputs)) room
  stored b e = ap (λ (ps : List Pdo). over (pdos_bytes ps) room) (in_order b inputs outputs i o ∙ ap (λ (x : Bool). pdos_from x inputs outputs) (sym e))

pub put_both-requires : goal.put_both-requires
put_both-requires c =
    let a = c.args in
    enough a.inputs_first (categories a.inputs.now) (categories a.outputs.now) a.room.now c.content-tx.ensures c.content-rx.ensures c.requires

pub returns-then-inputs_first : goal.returns-then-inputs_first
returns-then-inputs_first c =
    let a = c.args in
    c.put_both.ensures
    ∙ stored a.inputs_first (categories a.inputs.now) (categories a.outputs.now) a.room.now c.content-tx.ensures c.content-rx.ensures true c.if-inputs_first.true

pub put_both-requires-else-inputs_first : goal.put_both-requires-else-inputs_first
put_both-requires-else-inputs_first c =
    let a = c.args in
    let e = enough a.inputs_first (categories a.inputs.now) (categories a.outputs.now) a.room.now c.content-tx.ensures c.content-rx.ensures c.requires in
    omega (arith, e)

pub returns-else-inputs_first : goal.returns-else-inputs_first
returns-else-inputs_first c =
    let a = c.args in
    c.put_both-else-inputs_first.ensures
    ∙ stored a.inputs_first (categories a.inputs.now) (categories a.outputs.now) a.room.now c.content-tx.ensures c.content-rx.ensures false c.if-inputs_first.false
