-- The mailbox pass and the call for both directions over two areas: offset and group 0, no oversampling, no pairs; refused by the first that refuses.
-- Assumes nothing.
use Rattle.std.specs.Prelude.{◌≡◌, List, [], ◌∷◌, ◌++◌, ℕ, get_or}
use Rattle.wire.specs.Lists.{list_of}
use Rattle.wire.specs.Outcome.{Outcome, refused, accepted, outcome_by}
use Rattle.pdi.specs.declared.PdiSegment.{PdiSegment}
use Rattle.pdi.specs.Segment.{segment_text}
use Rattle.sync_manager_channel.specs.Image.{channel_of}
use Rattle.sync_manager_channel.specs.Text.{channel_text}
use Rattle.area.specs.Area.{entries_of, flat}
use Rattle.sheet.specs.Sheet.{sheet_data, manager_count}
use Rattle.pdo.specs.Bits.{multipliers_of}
use Rattle.passes.specs.declared.FmmuMode.TheVariants.{OwnNumber}
use Rattle.passes.specs.declared.OutputStart.TheVariants.{AfterInputs}
use Rattle.passes.specs.Use.{nothing_chosen}
use Rattle.passes.specs.Old.{clean}
use Rattle.passes.specs.Start.{Offsets, offsets, Both, Segments}
use Rattle.passes.specs.Call.{call, entries_after, images_after}
use Rattle.mailboxes.specs.Mailbox.{Recorded, mailbox_pass, mailbox_area}
use Rattle.lines.specs.Text.{line, numbered, inputs_front, outputs_front, lines, enabled_line, refused_text, bay_text}

-- what comes after an accepted answer; a refusal stays the answer
abbrev pub and_then : {A B : Type 0} → Outcome A → (A → Outcome B) → Outcome B
and_then (refused n) f = refused n
and_then (accepted x) f = f x

-- the two register areas, as the mailbox pass hands them on
pub record Areas : Type 0 where
  pub fmmus : List ℕ
  pub channels : List ℕ

abbrev pub areas : List ℕ → List ℕ → Areas
areas fmmus channels = record { fmmus = fmmus; channels = channels }

-- a bay that is planned: its segments, and what its areas hold
pub record Bay : Type 0 where
  pub inputs : PdiSegment
  pub outputs : PdiSegment
  pub left : Areas

abbrev pub bay : PdiSegment → PdiSegment → Areas → Bay
bay inputs outputs left = record { inputs = inputs; outputs = outputs; left = left }

-- no oversampling: the empty table
abbrev pub once : List ℕ → List ℕ
once sheet = multipliers_of [] (sheet_data sheet).pdos

-- the call by default from offset 0, in group 0, the outputs straight after the inputs; and the areas that it leaves where it is accepted
abbrev pub from_zero : Offsets
from_zero = offsets (record { start_address = 0 }) (record { start_address = 0 })

abbrev pub data_call : List ℕ → Areas → Outcome Both
data_call sheet a = call sheet (once sheet) nothing_chosen from_zero (clean OwnNumber AfterInputs 0) a.fmmus a.channels

abbrev pub call_leaves : List ℕ → Areas → Both → Areas
call_leaves sheet a b =
    areas
    (entries_after (accepted b) (sheet_data sheet) (once sheet) nothing_chosen from_zero (clean OwnNumber AfterInputs 0) a.fmmus)
    (images_after (accepted b) (sheet_data sheet) (once sheet) a.channels)

unfoldable pub with_data : List ℕ → Areas → Outcome Bay
with_data sheet a = and_then (data_call sheet a) (λ (b : Both). accepted (bay b.inputs.segment b.outputs.segment (call_leaves sheet a b)))

abbrev pub mailbox_leaves : List ℕ → Areas → Recorded → Areas
mailbox_leaves sheet a c = areas a.fmmus (mailbox_area (accepted c) (sheet_data sheet) a.channels)

unfoldable pub plan_bay : List ℕ → Areas → Outcome Bay
plan_bay sheet a = and_then (mailbox_pass sheet a.channels) (λ (c : Recorded). with_data sheet (mailbox_leaves sheet a c))

-- both segments, the images of the sheet's n sync managers, the enabled entries; or only the refusal
abbrev pub outcome_text : ℕ → Outcome Bay → List ℕ
outcome_text n (refused r) = refused_text r
outcome_text n (accepted b) = bay_text n b.inputs b.outputs b.left.fmmus b.left.channels

unfoldable pub report_text : List ℕ → Areas → List ℕ
report_text sheet a = outcome_text (manager_count sheet) (plan_bay sheet a)

-- the same with the n lines one by one, each spelled out: that of k is `SMk: ` and the text of what the k-th image says, whatever the areas held before
abbrev pub channel_line_of : ℕ → List ℕ → List ℕ
channel_line_of k e = line (numbered (83 ∷ 77 ∷ []) k) (channel_text (channel_of e))

unfoldable pub plain_text : ℕ → Bay → List ℕ
plain_text n b =
    line inputs_front (segment_text b.inputs)
    ++ line outputs_front (segment_text b.outputs)
    ++ flat (list_of (λ k. channel_line_of k (get_or (entries_of 8 b.left.channels) k [])) n)
    ++ lines enabled_line 0 (entries_of 16 b.left.fmmus)

-- every one of the n lines is printed wherever the plan is accepted, over any areas
abbrev pub EveryLine : Type 0
EveryLine = (sheet : List ℕ) (a : Areas) (b : Bay) → plan_bay sheet a ≡ accepted b → report_text sheet a ≡ plain_text (manager_count sheet) b

-- what an answer says, beside the areas that are left
abbrev pub bay_of : Segments → Areas → Outcome Bay
bay_of r a = outcome_by (λ s. bay s.inputs s.outputs a) r
