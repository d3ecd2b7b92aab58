-- A call as code goes: the areas' lengths, what it wants, the entries, then the images.
-- Assumes nothing.
use mathlib.Core.Path.{◌≡◌, sym, ◌∙◌, ap}
use mathlib.Core.Bool.{true, false, not}
use mathlib.Core.List.{List, ◌∷◌}
use Prim.Native.Nat.{ℕ, ◌≤◌}
use native.Mathlib.Omega.{arith}
use lib.ListN.{length}
use borrow.Author.Tests.{eq-eqb, ne_eqb}
use Rattle.std.specs.Prelude.{Ok, Err}
use Rattle.wire.specs.Outcome.{Outcome, refused, accepted, Refusal, when, first, decide, number_of}
use Rattle.wire.specs.declared.Reason.{Reason}
use Rattle.wire.specs.declared.Reason.TheVariants.{AreaLength}
use Rattle.wire.proofs.Order.{passed, stopped}
use Rattle.sheet.specs.Device.{Data}
use Rattle.sheet.specs.Sheet.{sheet_data, managers_in}
use Rattle.sheet.proofs.Managers.{manager-count}
use Rattle.area.specs.Area.{entries_of, flat}
use Rattle.channels.specs.Channels.{channels_after, channel_area, size_by}
use Rattle.channels.proofs.After.{area-whole}
use Rattle.pdo.specs.declared.PdoDirection.{PdoDirection}
use Rattle.passes.specs.declared.Chosen.{Chosen}
use Rattle.passes.specs.declared.Both as two
use Rattle.passes.specs.declared.Mapping.{Mapping}
use Rattle.passes.specs.declared.Settings.{Settings}
use Rattle.passes.specs.Use.{Use, total, uses_of, size_of}
use Rattle.passes.specs.Start.{start_of, Both, both_planned, configured_of, Configured, Offsets}
use Rattle.passes.specs.Entries.{entry_refusals, totals, entries_outcome, entry_area, WritesEntries}
use Rattle.passes.specs.Pass.{not_areas}
use Rattle.passes.specs.Call.{both_of, call, entries_after, images_after, Configures}
use Rattle.passes.specs.Handed.{sizes_of_both, uses_by_both, wanted_from}
use Rattle.passes.proofs.Pieces.{both-are, uses-total, images-are}
use Rattle.passes.specs.declared.Wanted.{Wanted}
use Rattle.wanted.specs.Wanted.{wanting_refusals}
use Rattle.wanted.proofs.Answered.{wanted-accepted}

-- 1 holds if an area has another length, and not if both have theirs
pub entries-wrong : (fmmus channels : List ℕ) → (length fmmus ≡ 256 → ⊥) → not_areas fmmus channels ≡ true
entries-wrong fmmus channels h = rw (ne_eqb (length fmmus) 256 h)

pub channels-wrong : (fmmus channels : List ℕ) → length fmmus ≡ 256 → (length channels ≡ 128 → ⊥) → not_areas fmmus channels ≡ true
channels-wrong fmmus channels e h = rw (eq-eqb (length fmmus) 256 e, ne_eqb (length channels) 128 h)

areas-right : (fmmus channels : List ℕ) → length fmmus ≡ 256 → length channels ≡ 128 → not_areas fmmus channels ≡ false
areas-right fmmus channels e h = rw (eq-eqb (length fmmus) 256 e, eq-eqb (length channels) 128 h)

module _ (sheet ws : List ℕ) (k : Chosen) (o : Offsets) (settings : Settings) (fmmus channels : List ℕ) where
  abbrev d : Data
  d = sheet_data sheet

  abbrev outcome : Outcome Both
  outcome = call sheet ws k o settings fmmus channels

  -- what an answer promises, with both areas as they then are
  abbrev Answers : Configured → List ℕ → List ℕ → Type 0
  Answers said fmmus_then channels_then = Configures sheet ws k o settings fmmus channels said fmmus_then channels_then

  -- a refusal writes nothing
  refuses : (n : Reason) → refused (number_of n) ≡ outcome → Answers (Err n) fmmus channels
  refuses n e =
      record {
        says = e;
        entries = ap (λ (y : Outcome Both). entries_after y d ws k o settings fmmus) e;
        images = ap (λ (y : Outcome Both). images_after y d ws channels) e;
      }

  pub one-configures : not_areas fmmus channels ≡ true → Answers (Err AreaLength) fmmus channels
  unfolding call
  one-configures h = refuses AreaLength (rw h)

  module _ (long : length fmmus ≡ 256) (wide : length channels ≡ 128) where
    -- 2 to 7 and 18, and what they leave to decide
    abbrev asked : List Refusal
    asked = wanting_refusals settings.mode k sheet ws

    abbrev w : Wanted
    w = wanted_from settings.mode k d ws

    abbrev later : Outcome Both
    later = decide (entry_refusals (uses_of settings.mode k d ws) (size_of d ws) o settings (entries_of 16 fmmus)) (both_of d ws o settings)

    rest : outcome ≡ first asked later
    unfolding call
    rest = rw (areas-right fmmus channels long wide)

    pub unwanted-configures : (n : Reason) → refused (number_of n) ≡ decide asked w → Answers (Err n) fmmus channels
    unwanted-configures n e = refuses n (stopped asked w (number_of n) later e ∙ sym rest)

    -- none of them holds: then the entries decide
    module _ {x : Wanted} (h : accepted x ≡ decide asked w) where
      few : length d.managers ≤ 16
      few = let n = (wanted-accepted settings.mode k sheet ws x h).0.managers in omega (arith, manager-count sheet)

      abbrev handed : PdoDirection → List Use
      handed = uses_by_both x (managers_in sheet)

      uses-then : handed ≡ uses_of settings.mode k d ws
      uses-then =
          let all = wanted-accepted settings.mode k sheet ws x h in
          (λ i. uses_by_both (all.2 i) (all.0.few i)) ∙ both-are d ws few settings.mode k

      size-then : totals handed ≡ size_of d ws
      size-then = (λ i r. total (uses-then i r)) ∙ (λ i r. uses-total d ws r settings.mode k i)

      decided : entries_outcome handed o settings fmmus ≡ outcome
      decided =
          let all = wanted-accepted settings.mode k sheet ws x h in
          (λ i.
          decide (when 1 (not (eq-eqb (length fmmus) 256 long i)) ∷ entry_refusals (uses-then i) (size-then i) o settings (entries_of 16 fmmus))
          (both_planned settings.outputs o settings.group (size-then i)))
          ∙ sym (rest ∙ passed asked w w later all.1)

      images-then : channel_area (channels_after (size_by x.sizes) 0 (managers_in sheet)) channels ≡ images_after (accepted (both_of d ws o settings)) d ws channels
      images-then =
          let all = wanted-accepted settings.mode k sheet ws x h in
          (λ i. channel_area (channels_after (size_by (all.2 i).sizes) 0 (all.0.few i)) channels)
          ∙ area-whole (channels_after (size_by (sizes_of_both d ws)) 0 d.managers) channels wide
          ∙ ap flat (images-are d ws few (entries_of 8 channels))

      module _ {fmmus_then : List ℕ} {said : Configured} (written : WritesEntries handed o settings fmmus said fmmus_then) where
        entries-then : fmmus_then ≡ entries_after outcome d ws k o settings fmmus
        entries-then = written.holds ∙ (λ i. entry_area (decided i) (start_of settings.outputs o (size-then i)) settings.old (uses-then i) fmmus)

        told : configured_of said ≡ outcome
        told = written.says ∙ decided

      pub mapped-configures :
          {m : two.Both Mapping} {fmmus_then channels_then : List ℕ} → WritesEntries handed o settings fmmus (Ok m) fmmus_then
          → channels_then ≡ channel_area (channels_after (size_by x.sizes) 0 (managers_in sheet)) channels → Answers (Ok m) fmmus_then channels_then
      mapped-configures written c =
          record {
            says = told written;
            entries = entries-then written;
            images = c ∙ images-then ∙ ap (λ (y : Outcome Both). images_after y d ws channels) (told written);
          }

      pub refused-configures : {n : Reason} {fmmus_then : List ℕ} → WritesEntries handed o settings fmmus (Err n) fmmus_then → Answers (Err n) fmmus_then channels
      refused-configures written =
          record { says = told written; entries = entries-then written; images = ap (λ (y : Outcome Both). images_after y d ws channels) (told written) }
