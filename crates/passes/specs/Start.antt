-- Where each direction starts and ends, and what an accepted call answers of it (document 02, 7/13).
-- Assumes nothing.
use Rattle.std.specs.Prelude.{Bool, true, false, ◌||◌, ℕ, ◌+◌, ◌-◌, Result}
use Rattle.wire.specs.Outcome.{Outcome, refused, accepted, outcome_by}
use Rattle.wire.specs.declared.Reason.{Reason}
use Rattle.pdi.specs.Segment.{segment}
use Rattle.pdi.specs.declared.PdiOffset.{PdiOffset}
use Rattle.pdi.specs.declared.PdiSegment.{PdiSegment}
use Rattle.pdo.specs.declared.PdoDirection.{PdoDirection}
use Rattle.pdo.specs.declared.PdoDirection.TheVariants.{MasterRead, MasterWrite}
use Rattle.passes.specs.declared.OutputStart.{OutputStart}
use Rattle.passes.specs.declared.OutputStart.TheVariants.{Given, AfterInputs}
use Rattle.passes.specs.declared.Both as two
use Rattle.passes.specs.declared.Mapping.{Mapping}

-- the offsets of both directions
abbrev pub Offsets : Type 0
Offsets = two.Both PdiOffset

-- one direction or the other
abbrev pub of_either : (PdoDirection → Bool) → Bool
of_either p = p MasterRead || p MasterWrite

-- the two offsets that a call is lent
abbrev pub offsets : PdiOffset → PdiOffset → Offsets
offsets inputs outputs = record { inputs = inputs; outputs = outputs }

abbrev pub offset_of : PdoDirection → Offsets → ℕ
offset_of MasterRead o = o.inputs.start_address
offset_of MasterWrite o = o.outputs.start_address

-- which of them is given: the inputs', and the outputs' unless they start straight after the inputs
abbrev pub is_given : PdoDirection → OutputStart → Bool
is_given MasterRead how = true
is_given MasterWrite Given = true
is_given MasterWrite AfterInputs = false

-- where the outputs start: at the offset that is given, or where the inputs end
abbrev pub outputs_from : OutputStart → ℕ → ℕ → ℕ
outputs_from Given given end = given
outputs_from AfterInputs given end = end

-- a direction's start and its end, of which `size` has the bytes
abbrev pub start_of : OutputStart → Offsets → (PdoDirection → ℕ) → PdoDirection → ℕ
start_of how o size MasterRead = offset_of MasterRead o
start_of how o size MasterWrite = outputs_from how (offset_of MasterWrite o) (offset_of MasterRead o + size MasterRead)

abbrev pub end_of : OutputStart → Offsets → (PdoDirection → ℕ) → PdoDirection → ℕ
end_of how o size r = start_of how o size r + size r

-- a direction that is planned: its segment, start to end less the group start, and the next offset
pub record Planned : Type 0 where
  pub segment : PdiSegment
  pub next : ℕ

abbrev pub planned : ℕ → ℕ → ℕ → Planned
planned start group size = record { segment = segment (start - group) (start + size - group); next = start + size }

-- an accepted call: both are, from one group start
abbrev pub Both : Type 0
Both = two.Both Planned

abbrev pub planned_for : PdoDirection → Both → Planned
planned_for MasterRead b = b.inputs
planned_for MasterWrite b = b.outputs

abbrev pub both_planned : OutputStart → Offsets → ℕ → (PdoDirection → ℕ) → Both
both_planned how o group size =
    record { inputs = planned (start_of how o size MasterRead) group (size MasterRead); outputs = planned (start_of how o size MasterWrite) group (size MasterWrite) }

-- what a call answers, and what that says
abbrev pub Configured : Type 0
Configured = Result (two.Both Mapping) Reason

abbrev pub planned_of : Mapping → Planned
planned_of m = record { segment = m.segment; next = m.next.start_address }

abbrev pub both_of_mappings : two.Both Mapping → Both
both_of_mappings m = record { inputs = planned_of m.inputs; outputs = planned_of m.outputs }

abbrev pub configured_of : Configured → Outcome Both
configured_of r = outcome_by both_of_mappings r

-- the segments alone, which a caller that lends its offsets is answered
abbrev pub TwoSegments : Type 0
TwoSegments = two.Both PdiSegment

abbrev pub Segments : Type 0
Segments = Result TwoSegments Reason

abbrev pub segments_alone : Outcome Both → Outcome TwoSegments
segments_alone (refused n) = refused n
segments_alone (accepted b) = accepted (record { inputs = b.inputs.segment; outputs = b.outputs.segment })

abbrev pub segments_of : Segments → Outcome TwoSegments
segments_of r = outcome_by (λ s. s) r

-- each offset at its direction's end, or both as they were after a refusal
abbrev pub offsets_after : Outcome Both → Offsets → Offsets
offsets_after (refused n) o = o
offsets_after (accepted b) o = offsets (record { start_address = b.inputs.next }) (record { start_address = b.outputs.next })
