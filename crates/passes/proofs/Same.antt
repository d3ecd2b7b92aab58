-- All that a call and counting mean looks at the multipliers through the exact bits alone.
-- Assumes nothing.
use mathlib.Core.Path.{◌≡◌, refl, ◌∙◌}
use mathlib.Core.Bool.{cond}
use mathlib.Core.List.{List, [], ◌∷◌, ◌++◌}
use mathlib.Core.Option.{none, some}
use Prim.Native.Nat.{ℕ}
use lib.Dec.{eqb}
use Rattle.wire.specs.Outcome.{Outcome, refused, accepted, when, decide}
use Rattle.pdi.specs.Unit.{bytes_of}
use Rattle.sheet.specs.Device.{Data}
use Rattle.sheet.specs.declared.SyncManager.{SyncManager}
use Rattle.sheet.specs.Sheet.{sheet_refusals, sheet_data}
use Rattle.pdo.specs.declared.PdoDirection.{PdoDirection}
use Rattle.pdo.specs.declared.PdoDirection.TheVariants.{MasterRead, MasterWrite}
use Rattle.pdo.specs.Direction.{usage_of}
use Rattle.pdo.specs.Bits.{path_kind, pieces_from, pieces_of}
use Rattle.pdo.proofs.Lacking.{SameBits}
use Rattle.area.specs.Area.{entries_of, flat}
use Rattle.channels.specs.Channels.{channels_after}
use Rattle.passes.specs.declared.Chosen.{Chosen}
use Rattle.passes.specs.declared.FmmuMode.{FmmuMode}
use Rattle.passes.specs.declared.FmmuMode.TheVariants.{OwnNumber, Paired}
use Rattle.passes.specs.declared.Settings.{Settings}
use Rattle.passes.specs.Use.{uses_of, size_of}
use Rattle.passes.specs.Pairs.{bad_pairs}
use Rattle.passes.specs.Start.{of_either, start_of, Both, both_planned, Offsets, Configured}
use Rattle.passes.specs.Entries.{entry_refusals, entry_area}
use Rattle.passes.specs.Pass.{not_areas, some_too_many, no_entry, wanted_refusals, data_size}
use Rattle.passes.specs.Call.{call, or_else, both_size, entries_after, images_after, Configures}

module _ (sheet ws vs : List ℕ) (same : SameBits (sheet_data sheet).pdos ws vs) where
  abbrev d : Data
  d = sheet_data sheet

  -- the pieces of a direction, and what is made of them
  pub pieces-same : (r : PdoDirection) → pieces_of d ws r ≡ pieces_of d vs r
  unfolding pieces_of
  pieces-same r = λ i. pieces_from (usage_of r) (λ k. same (path_kind d r) k i) 0 d.managers

  pairs-same : (mode : FmmuMode) (k : Chosen) → bad_pairs mode k d ws ≡ bad_pairs mode k d vs
  unfolding bad_pairs
  pairs-same OwnNumber k = refl
  pairs-same Paired k = rw (pieces-same MasterRead, pieces-same MasterWrite) refl

  pub size_same : (r : PdoDirection) → size_of d ws r ≡ size_of d vs r
  unfolding size_of
  size_same r = rw (pieces-same r) refl

  many-same : (r : PdoDirection) → some_too_many d ws r ≡ some_too_many d vs r
  unfolding some_too_many
  many-same r = rw (pieces-same r) refl

  none-same : (r : PdoDirection) → no_entry d ws r ≡ no_entry d vs r
  unfolding no_entry
  none-same r = rw (pieces-same r) refl

  pub wanted-same : (r : PdoDirection) → wanted_refusals d ws r ≡ wanted_refusals d vs r
  wanted-same r = λ i. when 6 (many-same r i) ∷ when 7 (none-same r i) ∷ []

  uses-same : (mode : FmmuMode) (k : Chosen) (r : PdoDirection) → uses_of mode k d ws r ≡ uses_of mode k d vs r
  unfolding uses_of
  uses-same mode k r = rw (pieces-same r) refl

  -- the size in bytes of each image
  size-of-image : (r : PdoDirection) (k : ℕ) (m : SyncManager) → data_size d ws r k m ≡ data_size d vs r k m
  size-of-image r k m = λ i. cond (eqb m.usage_type (usage_of r)) (some (bytes_of (same (path_kind d r) k i))) none

  sizes-same : both_size d ws ≡ both_size d vs
  sizes-same = λ i k m. or_else (size-of-image MasterRead k m i) (size-of-image MasterWrite k m i)

  -- the outcome, and what both areas then hold
  module _ (k : Chosen) (o : Offsets) (settings : Settings) (fmmus channels : List ℕ) where
    abbrev outcome : List ℕ → Outcome Both
    outcome us = call sheet us k o settings fmmus channels

    outcome-same : outcome ws ≡ outcome vs
    unfolding call
    outcome-same =
        λ i.
        decide
        (when 1 (not_areas fmmus channels) ∷ sheet_refusals sheet
        ++ (when 18 (pairs-same settings.mode k i)
        ∷ (when 6 (of_either (λ r. many-same r i)) ∷ when 7 (of_either (λ r. none-same r i)) ∷ [])
        ++ entry_refusals (λ r. uses-same settings.mode k r i) (λ r. size_same r i) o settings (entries_of 16 fmmus)))
        (both_planned settings.outputs o settings.group (λ r. size_same r i))

    images-same : (x : Outcome Both) → images_after x d ws channels ≡ images_after x d vs channels
    images-same (refused n) = refl
    images-same (accepted b) = λ i. flat (channels_after (sizes-same i) 0 d.managers (entries_of 8 channels))

    call_same :
        (outcome ws ≡ outcome vs)
        × (entries_after (outcome ws) d ws k o settings fmmus ≡ entries_after (outcome vs) d vs k o settings fmmus)
        × (images_after (outcome ws) d ws channels ≡ images_after (outcome vs) d vs channels)
    call_same = (
      outcome-same,
      (λ i.
          entry_area (outcome-same i) (λ r. start_of settings.outputs o (λ q. size_same q i) r) settings.old (λ r. uses-same settings.mode k r i) fmmus),
      (λ i. images-same (outcome-same i) i),
    )

  -- so the promise of the call is the same
  pub configures-same :
      {k : Chosen} {o : Offsets} {settings : Settings} {fmmus channels : List ℕ} {answer : Configured} {fmmus_then channels_then : List ℕ}
      → Configures sheet ws k o settings fmmus channels answer fmmus_then channels_then → Configures sheet vs k o settings fmmus channels answer fmmus_then channels_then
  configures-same {k} {o} {settings} {fmmus} {channels} c =
      let s = call_same k o settings fmmus channels in
      record { says = c.says ∙ s.0; entries = c.entries ∙ s.1; images = c.images ∙ s.2 }
