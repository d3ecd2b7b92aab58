-- `portions::take`: a short room gives 14 with all as it was; else what has room is stored behind what is held.
-- Assumes nothing.
use mathlib.Core.Path.{◌≡◌, refl}
use Prim.Native.Nat.{◌-◌, min}
use native.Mathlib.Omega.{arith}
use lib.ListN.{length}
use Rattle.portions.proofs.Steps.{takes-nothing, takes-portion}
use Rattle.portions.proofs.take.Goals as goal

pub returns-then-room-lt-MOST : goal.returns-then-room-lt-MOST
returns-then-room-lt-MOST c =
    let a = c.args in
    takes-nothing a.state a.portion.now a.room.now c.if-room-lt-MOST.true

pub returns-then-state : goal.returns-then-state
returns-then-state c =
    let a = c.args in
    let n : c.min-n.result ≡ min (16386 - a.state.held) (length a.portion.now) = omega arith in
    takes-portion a.state a.portion.now a.room.now _ _ _ c.if-room-lt-MOST.false n (rw c.if-state.true refl) c.store.ensures

pub returns-else-state : goal.returns-else-state
returns-else-state c =
    let a = c.args in
    let n : c.min-n.result ≡ min (16386 - a.state.held) (length a.portion.now) = omega arith in
    takes-portion a.state a.portion.now a.room.now _ _ _ c.if-room-lt-MOST.false n (rw c.if-state.false refl) c.store.ensures
