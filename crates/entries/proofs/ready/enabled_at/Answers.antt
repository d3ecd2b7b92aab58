-- `entries::ready::enabled_at`: past the last entry nothing is enabled.
-- Assumes nothing.
use mathlib.Core.Path.{◌∙◌}
use borrow.Author.Rules.{rules}
use borrow.Author.Tests.{le-ltb}
use Rattle.entries.proofs.Blocked.{past_off}
use Rattle.entries.proofs.ready.enabled_at.Goals as goal

pub returns-else-e-lt16 : goal.returns-else-e-lt16
returns-else-e-lt16 c = let a = c.args in le-ltb a.e 16 c.if-e-lt16.false ∙ past_off a.entries.now a.e (search rules) c.if-e-lt16.false
