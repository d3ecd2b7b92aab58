-- `dump::rule_broken`: the rules, one after the other.
-- Assumes nothing.
use Rattle.std.proofs.Common.{arith}
use Rattle.std.proofs.lemmas.Grind.{common_steps}
use lib.ListN.{length-map}
use Rattle.dump.specs.Records.{usage_for}
use Rattle.dump.proofs.Managers.{managers-many}
use Rattle.dump.proofs.rule_broken.Goals as goal

pub returns-then-some_manager_unnamed : goal.returns-then-some_manager_unnamed
returns-then-some_manager_unnamed c =
    rw (managers-many c.args.records.now, length-map c.args.usages.now usage_for) (grind (arith, common_steps))

pub returns-else-some_manager_unnamed : goal.returns-else-some_manager_unnamed
returns-else-some_manager_unnamed c =
    rw (managers-many c.args.records.now, length-map c.args.usages.now usage_for) (grind (arith, common_steps))
