-- `entries::ready::is_blocked`: where none is enabled at all, none is in the way.
-- Assumes nothing.
use Rattle.entries.proofs.Blocked.{none-in_way}
use Rattle.entries.proofs.ready.is_blocked.Goals as goal

pub returns-else-left-2 : goal.returns-else-left-2
returns-else-left-2 c = none-in_way _ c.args.entries.now c.if-left.false c.if-left-2.false c.requires
