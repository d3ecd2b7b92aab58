-- `writer::rule_broken`: the rules, one after the other.
-- Assumes nothing.
use Rattle.std.proofs.Common.{rules, arith}
use Rattle.std.proofs.lemmas.Grind.{common_steps}
use Rattle.writer.specs.Writing.{rule_broken}
use Rattle.writer.proofs.rule_broken.Goals as goal

pub returns-then-some_usage_unnamed : goal.returns-then-some_usage_unnamed
unfolding rule_broken
returns-then-some_usage_unnamed c = search rules

pub returns-else-some_usage_unnamed : goal.returns-else-some_usage_unnamed
unfolding rule_broken
returns-else-some_usage_unnamed c = grind (arith, common_steps)
