-- From what the mailbox pass and the call promise to the plan, which goes on with what is left or is a refusal; and from the plan to its text.
-- Assumes nothing.
use mathlib.Core.Path.{◌≡◌, sym, ◌∙◌, ap}
use mathlib.Core.List.{List}
use Prim.Native.Nat.{ℕ}
use Rattle.std.specs.Prelude.{Ok, Err}
use Rattle.wire.specs.Outcome.{Outcome, refused, accepted, number_of}
use Rattle.wire.specs.declared.Reason.{Reason}
use Rattle.sheet.specs.Sheet.{sheet_data, manager_count}
use Rattle.passes.specs.declared.FmmuMode.TheVariants.{OwnNumber}
use Rattle.passes.specs.declared.OutputStart.TheVariants.{AfterInputs}
use Rattle.passes.specs.declared.Both as two
use Rattle.passes.specs.declared.Mapping.{Mapping}
use Rattle.passes.specs.Use.{nothing_chosen}
use Rattle.passes.specs.Old.{clean}
use Rattle.passes.specs.Start.{Both, Configured}
use Rattle.passes.specs.Call.{entries_after, images_after, Configures}
use Rattle.mailboxes.specs.declared.MailboxConfig.{MailboxConfig}
use Rattle.mailboxes.specs.Mailbox.{Recorded, mailbox_area, ConfiguresMailboxes}
use Rattle.lines.specs.Text.{refused_text, bay_text}
use Rattle.report.specs.Plan.{and_then, Areas, areas, Bay, bay, once, from_zero, call_leaves, with_data, mailbox_leaves, plan_bay, outcome_text, report_text}

-- the call
module _ (sheet fmmus channels : List ℕ) where
  abbrev Data : Configured → List ℕ → List ℕ → Type 0
  Data answer fmmus_then channels_then =
      Configures sheet (once sheet) nothing_chosen from_zero (clean OwnNumber AfterInputs 0) fmmus channels answer fmmus_then channels_then

  abbrev planned : Both → Outcome Bay
  planned b = accepted (bay b.inputs.segment b.outputs.segment (call_leaves sheet (areas fmmus channels) b))

  pub data-mapped :
      {m : two.Both Mapping} {fmmus_then channels_then : List ℕ} → Data (Ok m) fmmus_then channels_then
      → accepted (bay m.inputs.segment m.outputs.segment (areas fmmus_then channels_then)) ≡ with_data sheet (areas fmmus channels)
  unfolding with_data
  data-mapped {m} c =
      let d = sheet_data sheet in
      let entries = c.entries ∙ ap (λ (x : Outcome Both). entries_after x d (once sheet) nothing_chosen from_zero (clean OwnNumber AfterInputs 0) fmmus) (sym c.says) in
      let images = c.images ∙ ap (λ (x : Outcome Both). images_after x d (once sheet) channels) (sym c.says) in
      (λ k. accepted (bay m.inputs.segment m.outputs.segment (areas (entries k) (images k)))) ∙ ap (λ (x : Outcome Both). and_then x planned) c.says

  pub data-refused : {n : Reason} {fmmus_then channels_then : List ℕ} → Data (Err n) fmmus_then channels_then → refused (number_of n) ≡ with_data sheet (areas fmmus channels)
  unfolding with_data
  data-refused c = ap (λ (x : Outcome Both). and_then x planned) c.says

-- the mailbox pass
module _ (sheet fmmus channels : List ℕ) where
  abbrev rest : Recorded → Outcome Bay
  rest config = with_data sheet (mailbox_leaves sheet (areas fmmus channels) config)

  pub mailboxes-read :
      {config : MailboxConfig} {channels_then : List ℕ} → ConfiguresMailboxes sheet channels (Ok config) channels_then
      → with_data sheet (areas fmmus channels_then) ≡ plan_bay sheet (areas fmmus channels)
  unfolding plan_bay
  mailboxes-read c =
      let left = c.holds ∙ ap (λ (x : Outcome Recorded). mailbox_area x (sheet_data sheet) channels) (sym c.says) in
      ap (λ (l : List ℕ). with_data sheet (areas fmmus l)) left ∙ ap (λ (x : Outcome Recorded). and_then x rest) c.says

  pub mailboxes-refused : {n : Reason} {channels_then : List ℕ} → ConfiguresMailboxes sheet channels (Err n) channels_then → refused (number_of n) ≡ plan_bay sheet (areas fmmus channels)
  unfolding plan_bay
  mailboxes-refused c = ap (λ (x : Outcome Recorded). and_then x rest) c.says

-- the text of what they answer
module _ (sheet : List ℕ) (a : Areas) where
  told : {o : Outcome Bay} → o ≡ plan_bay sheet a → outcome_text (manager_count sheet) o ≡ report_text sheet a
  unfolding report_text
  told says = ap (outcome_text (manager_count sheet)) says

  pub bay-text : {n : ℕ} {b : Bay} → n ≡ manager_count sheet → accepted b ≡ plan_bay sheet a → bay_text n b.inputs b.outputs b.left.fmmus b.left.channels ≡ report_text sheet a
  bay-text {n} {b} count says = ap (λ (k : ℕ). bay_text k b.inputs b.outputs b.left.fmmus b.left.channels) count ∙ told says

  pub refusal-text : {n m : ℕ} → n ≡ m → refused m ≡ plan_bay sheet a → refused_text n ≡ report_text sheet a
  refusal-text number says = ap refused_text number ∙ told says
