-- `entries::ready::some_enabled`: each turn asks the entry of the next sync manager that uses one, or passes it over.
-- Assumes nothing.
use mathlib.Core.Path.{sym, ◌∙◌}
use Prim.Native.Nat.{◌+◌}
use native.Mathlib.Omega.{arith}
use Rattle.entries.proofs.Blocked.{NoneYet, none-enabled, skip-passed, enabled-found, free-passed}
use Rattle.entries.proofs.ready.some_enabled.Goals as goal
use Rattle.entries.proofs.ready.some_enabled.Goals.{in-Some+else-enabled_at, in_default}

pub returns-then-enabled_at : goal.returns-then-enabled_at
returns-then-enabled_at c =
    enabled-found c.loop-k.invariant.1 (omega arith) (sym c.entry.ensures ∙ c.in-Some.is) (sym c.enabled_at.ensures ∙ c.if-enabled_at.true)

pub loop-k-preserved : goal.loop-k-preserved
loop-k-preserved c =
    let i = c.loop-k.invariant in
    let turned : NoneYet c.args.uses.now c.args.entries.now (c.loop-k.k + 1) =
    elim c.match-entry.branch [
      | in-Some+else-enabled_at w ↦ free-passed i.1 (omega arith) (sym c.entry.ensures ∙ w.in-Some.is) (sym w.enabled_at.ensures ∙ w.if-enabled_at.false)
      | in_default w ↦ skip-passed i.1 (omega arith) (sym c.entry.ensures ∙ w.in_default.is)
    ] in
    (i.0, turned)

pub returns : goal.returns
returns c = none-enabled c.loop-k.invariant.1 (omega arith)
