-- What the parts of writing the entries promise one another: a use, the uses of a direction and of both, the segments.
-- Assumes nothing.
use Rattle.std.specs.Prelude.{◌≡◌, Bool, cond, ◌&&◌, ◌||◌, List, [], ◌∷◌, ℕ, ◌+◌, ◌-◌, ◌*◌, ◌≤◌, eqb, ltb, Result, Ok, Err, Option, Some, None}
use Rattle.wire.specs.declared.Reason.{Reason}
use Rattle.fmmu.specs.declared.Fmmu.{Fmmu}
use Rattle.wire.specs.Outcome.{Outcome, refused, accepted, when, decide, outcome_by}
use Rattle.pdi.specs.Offset.{past_end}
use Rattle.pdi.specs.Segment.{segment}
use Rattle.sheet.specs.Sheet.{manager_place, manager_at, managers_in}
use Rattle.pdo.specs.declared.PdoDirection.{PdoDirection}
use Rattle.pdo.specs.declared.PdoDirection.TheVariants.{MasterRead, MasterWrite}
use Rattle.pdo.specs.Direction.{usage_of}
use Rattle.channels.specs.Channels.{size_at}
use Rattle.passes.specs.declared.OldEntries.TheVariants.{Keep}
use Rattle.passes.specs.declared.Both as two
use Rattle.passes.specs.declared.OutputStart.{OutputStart}
use Rattle.passes.specs.declared.Route.{Route}
use Rattle.passes.specs.declared.Route.TheVariants.{Own, Given}
use Rattle.passes.specs.Use.{Use, total}
use Rattle.passes.specs.Handed.{entry_by, uses_by, no_room}
use Rattle.passes.specs.Start.{offset_of, outputs_from, is_given, of_either, start_of, end_of, Planned, Both, Offsets}
use Rattle.entries.specs.declared.uses.Uses.{Uses}
use Rattle.passes.specs.Entries.{grown, with_use, plan, too_long, uses_of_both, totals, plan_both}

-- the entry that a sync manager with a number and a size uses by a route: its own, or with bits the one that is given
abbrev pub entry_taken : Route → ℕ → ℕ → Option ℕ
entry_taken Own number size = Some number
entry_taken (Given entries) number size = cond (ltb 0 size) (Some (entry_by entries number)) None

-- of a direction: the sync manager with a number uses none where its usage is another
abbrev pub entry_used : Uses → ℕ → Option ℕ
entry_used u k = cond (eqb (manager_at u.sheet.now (manager_place k)).usage_type (usage_of u.direction)) (entry_taken u.route k (size_at u.sizes k)) None

-- its uses, one after another
abbrev pub uses_of : Uses → List Use
uses_of u = uses_by u.route u.sizes u.direction (managers_in u.sheet.now)

abbrev pub use_at : ℕ → ℕ → ℕ → Use
use_at e size at = record { entry = e; size = size; at = at }

-- an enabled entry with the size added, or 8
abbrev pub grown_to : Fmmu → ℕ → Outcome Fmmu
grown_to f size = decide (when 8 (ltb 65535 (f.length_bytes.0 + size)) ∷ []) (grown f size)

-- one use laid, or 8
abbrev pub laid_one : PdoDirection → ℕ → Use → List (List ℕ) → Outcome (List (List ℕ))
laid_one r start u entries = decide (when 8 (no_room u entries) ∷ []) (with_use r start u entries)

-- where uses end that are laid one after another, and the entries then
pub record Run : Type 0 where
  pub end : ℕ
  pub entries : List (List ℕ)

-- all laid on the entries as they are, or 8
abbrev pub laid_all : PdoDirection → ℕ → List Use → List (List ℕ) → Outcome Run
laid_all r start us entries = decide (when 8 (too_long Keep us entries) ∷ []) (record { end = start + total us; entries = plan r start us entries })

-- what is said of where a direction ends, beside the entries; and the end alone
abbrev pub laid_of : Result ℕ Reason → List (List ℕ) → Outcome Run
laid_of r entries = outcome_by (λ end. record { end = end; entries = entries }) r

abbrev pub end_in : Result ℕ Reason → ℕ
end_in (Ok end) = end
end_in (Err reason) = 0

-- a direction is laid, and ends no more than sixteen sizes after its start
pub record Lays (r : PdoDirection) (start : ℕ) (us : List Use) (before : List (List ℕ)) (said : Result ℕ Reason) (after : List (List ℕ)) : Type 0 where
  pub says : laid_of said after ≡ laid_all r start us before
  pub near : end_in said ≤ start + 16 * 65535

-- where inputs and outputs end that are laid one after the other, and the entries then
pub record Runs : Type 0 where
  pub middle : ℕ
  pub end : ℕ
  pub entries : List (List ℕ)

-- both laid on the entries as they are, or 8, which counts all that is laid on an entry
abbrev pub laid_both : OutputStart → Offsets → (PdoDirection → List Use) → List (List ℕ) → Outcome Runs
laid_both how o uses entries =
    decide (when 8 (too_long Keep (uses_of_both uses) entries) ∷ [])
    (record { middle = end_of how o (totals uses) MasterRead; end = end_of how o (totals uses) MasterWrite; entries = plan_both (start_of how o (totals uses)) uses entries })

-- what is said of where both end, beside the entries
abbrev pub ends_of : Result (two.Both ℕ) Reason → List (List ℕ) → Outcome Runs
ends_of r entries = outcome_by (λ ends. record { middle = ends.inputs; end = ends.outputs; entries = entries }) r

-- a direction that starts and ends there, counted from the group start
abbrev pub standing : ℕ → ℕ → ℕ → Planned
standing start end group = record { segment = segment (start - group) (end - group); next = end }

-- inputs and outputs that end there: 9 of either, then 10 of either, or where both stand
abbrev pub standing_to : ℕ → ℕ → OutputStart → Offsets → ℕ → Outcome Both
standing_to middle end how o group =
    decide (when 9 (past_end middle || past_end end) ∷ when 10 (of_either (λ r. is_given r how && ltb (offset_of r o) group)) ∷ [])
    (record { inputs = standing (offset_of MasterRead o) middle group; outputs = standing (outputs_from how (offset_of MasterWrite o) middle) end group })

-- 15 comes after what else was found
abbrev pub then_in_the_way : Bool → Outcome Both → Outcome Both
then_in_the_way blocked (refused n) = refused n
then_in_the_way blocked (accepted b) = decide (when 15 blocked ∷ []) b
