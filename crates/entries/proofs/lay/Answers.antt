-- `entries::lay`: each turn lays the next use of the direction, or finds 8, or passes one sync manager over.
-- Assumes nothing.
use mathlib.Core.Path.{sym, ◌∙◌, ap}
use Prim.Native.Nat.{◌+◌}
use native.Mathlib.Omega.{arith}
use Rattle.std.proofs.lemmas.Result.{err_from_is_err_and}
use Rattle.channels.specs.Channels.{size_at}
use Rattle.entries.proofs.Turn.{At, turn_at, turn_end, turn-skip, turn-stops, turn-laid}
use Rattle.entries.proofs.lay.Goals as goal
use Rattle.entries.proofs.lay.Goals.{in-Some+in_ok-lay_one, in_default}

pub returns-in_err-lay_one : goal.returns-in_err-lay_one
returns-in_err-lay_one c =
    let p = err_from_is_err_and c.from_residual.result c.from_residual.ensures.1 in
    rw (p.1, p.2)
    (turn-stops c.loop-k.invariant.1 (omega arith) (ap (size_at c.args.uses.now.sizes) c.from.ensures) (sym c.entry.ensures ∙ c.in-Some.is)
    c.start_of-at.ensures _ _ _ c.in_err-lay_one.ensures)

pub overflow_add-end : goal.overflow_add-end
overflow_add-end c = let low = c.loop-k.invariant.1.low in omega arith

pub loop-k-preserved : goal.loop-k-preserved
loop-k-preserved c =
    let a = c.args in
    let i = c.loop-k.invariant in
    let turned : At a.uses.now a.start a.entries.now (c.loop-k.k + 1) c.match-entry.end c.match-entry.entries =
    elim c.match-entry.branch [
      | in-Some+in_ok-lay_one w ↦ turn_at
          (turn-laid i.1 (omega arith) (ap (size_at a.uses.now.sizes) w.from.ensures) (sym c.entry.ensures ∙ w.in-Some.is)
          w.start_of-at.ensures w.in_ok-lay_one.ensures (omega arith))
          w.end-is w.entries-is
      | in_default w ↦ turn_at (turn-skip i.1 (omega arith) (sym c.entry.ensures ∙ w.in_default.is)) w.end-is w.entries-is
    ] in
    (i.0, turned)

pub returns : goal.returns
returns c = let i = c.loop-k.invariant in turn_end i.1 (omega arith) (omega arith)
