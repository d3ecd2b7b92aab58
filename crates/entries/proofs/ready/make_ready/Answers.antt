-- `entries::ready::make_ready`: keeping, nothing; else the clearing, and whether what is still enabled is in the way.
-- Assumes nothing.
use mathlib.Core.Path.{refl, sym, ◌∙◌, ap}
use Rattle.wire.specs.Lists.{some_of}
use Rattle.entries.specs.Ready.{on}
use Rattle.entries.proofs.Blocked.{keeps, made}
use Rattle.entries.proofs.ready.make_ready.Goals as goal

pub returns-in-Keep : goal.returns-in-Keep
returns-in-Keep c = keeps _ _ c.in-Keep.is

pub is_blocked-requires : goal.is_blocked-requires
is_blocked-requires c = let left = c.clear_old-left.ensures in left.some ∙ ap (some_of on) (sym left.holds)

pub returns-then-is_blocked : goal.returns-then-is_blocked
returns-then-is_blocked c = made _ _ c.in_default.is c.clear_old-left.ensures (sym c.if-is_blocked.true ∙ c.is_blocked.ensures) refl

pub returns : goal.returns
returns c = made _ _ c.in_default.is c.clear_old-left.ensures (sym c.if-is_blocked.false ∙ c.is_blocked.ensures) refl
