-- Sheets that read as the same data are planned alike: planning looks at a sheet's refusals and at its data, and at nothing else of it.
-- Assumes nothing.
use mathlib.Core.Path.{◌≡◌, refl, sym, ◌∙◌, ap, ap₂, subst}
use mathlib.Core.Bool.{cond}
use mathlib.Core.List.{List, [], ◌∷◌, ◌++◌}
use mathlib.Core.Option.{Option}
use Prim.Native.Nat.{ℕ, ◌+◌}
use lib.ListN.{length}
use Rattle.wire.specs.Outcome.{Outcome, refused, accepted, when, first, decide}
use Rattle.wire.proofs.Order.{passed, passed-answer}
use Rattle.pdi.specs.Offset.{past_end}
use Rattle.sheet.specs.Device.{Data}
use Rattle.sheet.specs.Sheet.{manager_count, sheet_refusals, sheet_data, read_sheet}
use Rattle.sheet.proofs.Managers.{manager-count}
use Rattle.area.specs.Area.{entries_of, not_channels}
use Rattle.pdo.specs.declared.PdoDirection.{PdoDirection}
use Rattle.pdo.specs.declared.Oversampling.{Oversampling}
use Rattle.pdo.specs.Bits.{multipliers_of, pieces_of}
use Rattle.mailboxes.specs.Mailbox.{Recorded, config_of, mailbox_pass, mailbox_area}
use Rattle.passes.specs.declared.Chosen.{Chosen}
use Rattle.passes.specs.declared.FmmuMode.TheVariants.{OwnNumber}
use Rattle.passes.specs.declared.OutputStart.TheVariants.{AfterInputs}
use Rattle.passes.specs.declared.Settings.{Settings}
use Rattle.passes.specs.Old.{clean}
use Rattle.passes.specs.Use.{nothing_chosen, chosen_by, size_of}
use Rattle.passes.specs.Pairs.{bad_pairs}
use Rattle.passes.specs.Start.{Both, Offsets, Segments, segments_alone, offsets_after}
use Rattle.passes.specs.Entries.{entry_refusals}
use Rattle.passes.specs.Pass.{not_areas, wanted_refusals}
use Rattle.passes.specs.Call.{uses_for, wanted_of_both, both_of, call, entries_after, images_after, Calls}
use Rattle.counting.specs.Count.{Spot, spot_in, count}
use Rattle.report.specs.Plan.{and_then, Areas, areas, bay, once, from_zero, data_call, call_leaves, with_data, mailbox_leaves, plan_bay, outcome_text, report_text}
use Rattle.dump.specs.Calls.{sheet_from}
use Rattle.dump.proofs.Theorems.{has-sheet}
use Rattle.dump_plans.specs.Plans.{PlannedAlike, PlanningADump}

-- a sheet that reads as data refuses nothing, and holds that data
module _ (s : List ℕ) {x : Data} (e : read_sheet s ≡ accepted x) where
  goes_on : {B : Type 0} (o : Outcome B) → first (sheet_refusals s) o ≡ o
  unfolding read_sheet
  goes_on o = passed (sheet_refusals s) (sheet_data s) x o (sym e)

  holds : sheet_data s ≡ x
  unfolding read_sheet
  holds = sym (passed-answer (sheet_refusals s) (sheet_data s) x (sym e))

  -- so planning it is planning the data
  mailboxes-of : (area : List ℕ) → mailbox_pass s area ≡ cond (not_channels area) (refused 1) (accepted (config_of x))
  unfolding mailbox_pass
  mailboxes-of area = ap (λ (o : Outcome Recorded). cond (not_channels area) (refused 1) o) (goes_on (accepted (config_of (sheet_data s))) ∙ ap (λ (d : Data). accepted (config_of d)) holds)

  call-of : (ws : List ℕ) (k : Chosen) (o : Offsets) (settings : Settings) (fmmus channels : List ℕ)
      → call s ws k o settings fmmus channels
      ≡ cond (not_areas fmmus channels) (refused 1)
      (decide (when 18 (bad_pairs settings.mode k x ws) ∷ wanted_of_both x ws ++ entry_refusals (uses_for settings k x ws) (size_of x ws) o settings (entries_of 16 fmmus)) (both_of x ws o settings))
  unfolding call
  call-of ws k o settings fmmus channels =
      let rest : Data → Outcome Both =
      λ d. decide (when 18 (bad_pairs settings.mode k d ws) ∷ wanted_of_both d ws ++ entry_refusals (uses_for settings k d ws) (size_of d ws) o settings (entries_of 16 fmmus)) (both_of d ws o settings) in
      ap (λ (y : Outcome Both). cond (not_areas fmmus channels) (refused 1) y) (goes_on (rest (sheet_data s)) ∙ ap rest holds)

  count_of : (r : PdoDirection) (a : ℕ) (ws : List ℕ) (offset : ℕ)
      → count r a s ws offset ≡ decide (wanted_refusals x ws r ++ (when 9 (past_end (offset + size_of x ws r)) ∷ [])) (spot_in offset (pieces_of x ws r) a)
  unfolding count
  count_of r a ws offset =
      let rest : Data → Outcome (Option Spot) = λ d. decide (wanted_refusals d ws r ++ (when 9 (past_end (offset + size_of d ws r)) ∷ [])) (spot_in offset (pieces_of d ws r) a) in
      goes_on (rest (sheet_data s)) ∙ ap rest holds

-- what follows the same answer in the same way is the same
and-then : {A B : Type 0} {o p : Outcome A} {f g : A → Outcome B} → o ≡ p → ((x : A) → f x ≡ g x) → and_then o f ≡ and_then p g
and-then {A} {B} {o} {p} {f} {g} e h = ap (λ (q : Outcome A). and_then q f) e ∙ go p
  where
    go : (q : Outcome A) → and_then q f ≡ and_then q g
    go (refused n) = refl
    go (accepted x) = h x

-- two that read as the same
module _ (s t : List ℕ) {x : Data} (e : read_sheet s ≡ accepted x) (f : read_sheet t ≡ accepted x) where
  same-data : sheet_data s ≡ sheet_data t
  same-data = holds s e ∙ sym (holds t f)

  same-multipliers : (table : List Oversampling) → multipliers_of table (sheet_data s).pdos ≡ multipliers_of table (sheet_data t).pdos
  same-multipliers table = ap (λ (d : Data). multipliers_of table d.pdos) same-data

  same-mailboxes : (area : List ℕ) → mailbox_pass s area ≡ mailbox_pass t area
  same-mailboxes area = mailboxes-of s e area ∙ sym (mailboxes-of t f area)

  same-call : (ws : List ℕ) (k : Chosen) (o : Offsets) (settings : Settings) (fmmus channels : List ℕ)
      → call s ws k o settings fmmus channels ≡ call t ws k o settings fmmus channels
  same-call ws k o settings fmmus channels = call-of s e ws k o settings fmmus channels ∙ sym (call-of t f ws k o settings fmmus channels)

  calls-too :
      (ws : List ℕ) (k : Chosen) (o : Offsets) (settings : Settings) (fmmus channels : List ℕ) (answer : Segments) (offsets_then : Offsets) (fmmus_then channels_then : List ℕ)
      → Calls s ws k o settings fmmus channels answer offsets_then fmmus_then channels_then → Calls t ws k o settings fmmus channels answer offsets_then fmmus_then channels_then
  calls-too ws k o settings fmmus channels answer offsets_then fmmus_then channels_then p =
      let c = same-call ws k o settings fmmus channels in
      record {
        says = p.says ∙ ap segments_alone c;
        moves = p.moves ∙ ap (λ (y : Outcome Both). offsets_after y o) c;
        entries = p.entries ∙ ap₂ (λ (y : Outcome Both) (d : Data). entries_after y d ws k o settings fmmus) c same-data;
        images = p.images ∙ ap₂ (λ (y : Outcome Both) (d : Data). images_after y d ws channels) c same-data;
      }

  -- what is printed: the mailbox pass, then the call
  call-too : (a : Areas) → data_call s a ≡ data_call t a
  call-too a =
      ap (λ (ws : List ℕ). call s ws nothing_chosen from_zero (clean OwnNumber AfterInputs 0) a.fmmus a.channels) (same-multipliers [])
      ∙ same-call (once t) nothing_chosen from_zero (clean OwnNumber AfterInputs 0) a.fmmus a.channels

  leaves-too : (a : Areas) (b : Both) → call_leaves s a b ≡ call_leaves t a b
  leaves-too a b =
      λ i.
      areas
      (entries_after (accepted b) (same-data i) (same-multipliers [] i) nothing_chosen from_zero (clean OwnNumber AfterInputs 0) a.fmmus)
      (images_after (accepted b) (same-data i) (same-multipliers [] i) a.channels)

  data-too : (a : Areas) → with_data s a ≡ with_data t a
  unfolding with_data
  data-too a = and-then (call-too a) (λ b. ap (λ (l : Areas). accepted (bay b.inputs.segment b.outputs.segment l)) (leaves-too a b))

  bay-too : (a : Areas) → plan_bay s a ≡ plan_bay t a
  unfolding plan_bay
  bay-too a =
      and-then (same-mailboxes a.channels)
      (λ c. data-too (mailbox_leaves s a c) ∙ ap (λ (d : Data). with_data t (areas a.fmmus (mailbox_area (accepted c) d a.channels))) same-data)

  text-too : (a : Areas) → report_text s a ≡ report_text t a
  unfolding report_text
  text-too a =
      let n : manager_count s ≡ manager_count t = sym (manager-count s) ∙ ap (λ (d : Data). length d.managers) same-data ∙ manager-count t in
      ap₂ outcome_text n (bay-too a)

  both-planned : PlannedAlike s t
  both-planned =
      record {
        holding = same-data;
        mailboxes = λ area r after p.
            let o = same-mailboxes area in
            record { says = p.says ∙ o; holds = p.holds ∙ ap₂ (λ (o : Outcome Recorded) (d : Data). mailbox_area o d area) o same-data };
        calls = λ table pairs o settings fmmus channels answer offsets_then fmmus_then channels_then p.
            calls-too (multipliers_of table (sheet_data t).pdos) (chosen_by settings.mode pairs) o settings fmmus channels answer offsets_then fmmus_then channels_then
            (subst (λ (ws : List ℕ). Calls s ws (chosen_by settings.mode pairs) o settings fmmus channels answer offsets_then fmmus_then channels_then) (same-multipliers table) p);
        counting = λ table r a offset.
            ap (λ (ws : List ℕ). count r a s ws offset) (same-multipliers table)
            ∙ count_of s e r a (multipliers_of table (sheet_data t).pdos) offset
            ∙ sym (count_of t f r a (multipliers_of table (sheet_data t).pdos) offset);
        text = text-too;
      }

-- planning a dump is planning its sheet
pub planning-a-dump : PlanningADump
planning-a-dump c d t e f = let s = (has-sheet c d e).0 in (both-planned t (sheet_from c d) f s, both-planned (sheet_from c d) t s f)
