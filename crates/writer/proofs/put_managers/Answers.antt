-- `writer::put_managers`: after k turns the first k stand one behind the other.
-- Assumes nothing.
use Rattle.std.proofs.Common.{◌≡◌, sym, ◌∙◌, ap, List, ◌++◌, map, length, take, arith}
use Prim.Native.Nat.{ℕ}
use Rattle.area.specs.Area.{flat, stored_at}
use Rattle.writer.specs.Form.{manager_bytes}
use Rattle.writer.proofs.Stored.{stored-nothing, stored_next, next-manager, first-managers-long}
use Rattle.writer.proofs.put_managers.Goals as goal

pub loop-k-init : goal.loop-k-init
unfolding flat
loop-k-init c = let r = c.requires in stored-nothing 11 c.args.room.now (omega arith)

pub loop-k-preserved : goal.loop-k-preserved
loop-k-preserved c =
    let k = c.loop-k.k in
    let list = c.args.list.now in
    let done = first-managers-long list k (omega arith) in
    let five : length c.manager_bytes.result ≡ 5 = ap length c.manager_bytes.ensures in
    c.store.ensures
    ∙ stored_next 11 (flat (map manager_bytes (take k list))) c.manager_bytes.result c.args.room.now (omega (arith, c.requires)) c.loop-k.invariant (omega arith)
    ∙ ap (λ (x : List ℕ). stored_at 11 (flat (map manager_bytes (take k list)) ++ x) c.args.room.now) c.manager_bytes.ensures
    ∙ ap (λ (x : List ℕ). stored_at 11 x c.args.room.now) (sym (next-manager list k _ (omega arith)))
