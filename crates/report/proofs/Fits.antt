-- The text of any report fits 4,096 bytes.
-- Assumes nothing.
use mathlib.Core.List.{List}
use Prim.Native.Nat.{ℕ, ◌≤◌}
use lib.ListN.{length}
use Rattle.wire.specs.Outcome.{Outcome, refused, accepted}
use Rattle.sheet.specs.Sheet.{manager_count}
use Rattle.lines.proofs.Fits.{bay-length, refused-length}
use Rattle.report.specs.Plan.{Areas, Bay, plan_bay, outcome_text, report_text}

outcome-length : (n : ℕ) (o : Outcome Bay) → length (outcome_text n o) ≤ 4096
outcome-length n (refused r) = refused-length r
outcome-length n (accepted b) = bay-length n b.inputs b.outputs b.left.fmmus b.left.channels

pub report-length : (sheet : List ℕ) (a : Areas) → length (report_text sheet a) ≤ 4096
unfolding report_text
report-length sheet a = outcome-length (manager_count sheet) (plan_bay sheet a)
