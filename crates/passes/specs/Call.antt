-- The call: inputs and outputs, both or neither (document 02, 7/13).
-- Assumes nothing.
use Rattle.std.specs.Prelude.{◌≡◌, Bool, List, [], ◌∷◌, ◌++◌, ℕ}
use Rattle.std.proofs.Math.Option.{Option, none, some}
use Rattle.wire.specs.Outcome.{Outcome, refused, accepted, Refusal, when, decide}
use Rattle.sheet.specs.Device.{Data}
use Rattle.sheet.specs.Sheet.{sheet_refusals, sheet_data}
use Rattle.sheet.specs.declared.SyncManager.{SyncManager}
use Rattle.pdo.specs.declared.PdoDirection.{PdoDirection}
use Rattle.pdo.specs.declared.PdoDirection.TheVariants.{MasterRead, MasterWrite}
use Rattle.area.specs.Area.{entries_of, flat}
use Rattle.channels.specs.Channels.{channels_after}
use Rattle.passes.specs.Use.{Use, uses_of, size_of}
use Rattle.passes.specs.Pairs.{bad_pairs}
use Rattle.passes.specs.Start.{of_either, start_of, Both, both_planned, configured_of, segments_alone, segments_of, offsets_after, Offsets, Configured, Segments}
use Rattle.passes.specs.Entries.{entry_refusals, entry_area}
use Rattle.passes.specs.Pass.{not_areas, some_too_many, no_entry, data_size}
use Rattle.passes.specs.declared.Chosen.{Chosen}
use Rattle.passes.specs.declared.Settings.{Settings}

-- the uses of each direction
abbrev pub uses_for : Settings → Chosen → Data → List ℕ → PdoDirection → List Use
uses_for settings c d ws r = uses_of settings.mode c d ws r

-- where each starts
abbrev pub starts_at : Settings → Offsets → Data → List ℕ → PdoDirection → ℕ
starts_at settings o d ws r = start_of settings.outputs o (size_of d ws) r

-- 6 and 7, of either direction
abbrev pub wanted_of_both : Data → List ℕ → List Refusal
wanted_of_both d ws = when 6 (of_either (some_too_many d ws)) ∷ when 7 (of_either (no_entry d ws)) ∷ []

-- all, in their order, where 18 is given if `bad`: the first in this order over both directions
abbrev pub refusals_if : Bool → List ℕ → List ℕ → Chosen → Offsets → Settings → List ℕ → List ℕ → List Refusal
refusals_if bad sheet ws c o settings fmmus channels =
    when 1 (not_areas fmmus channels)
    ∷ sheet_refusals sheet ++ (when 18 bad ∷ wanted_of_both (sheet_data sheet) ws
    ++ entry_refusals (uses_for settings c (sheet_data sheet) ws) (size_of (sheet_data sheet) ws) o settings (entries_of 16 fmmus))

-- it is given for bad pairs
abbrev pub call_refusals : List ℕ → List ℕ → Chosen → Offsets → Settings → List ℕ → List ℕ → List Refusal
call_refusals sheet ws c o settings fmmus channels = refusals_if (bad_pairs settings.mode c (sheet_data sheet) ws) sheet ws c o settings fmmus channels

-- an accepted call
abbrev pub both_of : Data → List ℕ → Offsets → Settings → Both
both_of d ws o settings = both_planned settings.outputs o settings.group (size_of d ws)

-- the whole call
unfoldable pub call : List ℕ → List ℕ → Chosen → Offsets → Settings → List ℕ → List ℕ → Outcome Both
call sheet ws c o settings fmmus channels = decide (call_refusals sheet ws c o settings fmmus channels) (both_of (sheet_data sheet) ws o settings)

-- each sync manager with process data gets its image, with its size in bytes
abbrev pub or_else : Option ℕ → Option ℕ → Option ℕ
or_else none y = y
or_else (some x) y = some x

abbrev pub both_size : Data → List ℕ → ℕ → SyncManager → Option ℕ
both_size d ws k m = or_else (data_size d ws MasterRead k m) (data_size d ws MasterWrite k m)

-- what the areas then hold: a refusal writes nothing
abbrev pub entries_after : Outcome Both → Data → List ℕ → Chosen → Offsets → Settings → List ℕ → List ℕ
entries_after x d ws c o settings area = entry_area x (starts_at settings o d ws) settings.old (uses_for settings c d ws) area

abbrev pub images_after : Outcome Both → Data → List ℕ → List ℕ → List ℕ
images_after (refused n) d ws area = area
images_after (accepted b) d ws area = flat (channels_after (both_size d ws) 0 d.managers (entries_of 8 area))

-- the promise of the call: its answer with the next offsets, and both areas
pub record Configures
    (sheet ws : List ℕ) (c : Chosen) (o : Offsets) (settings : Settings) (fmmus channels : List ℕ)
    (answer : Configured) (fmmus_then channels_then : List ℕ) : Type 0 where
  pub says : configured_of answer ≡ call sheet ws c o settings fmmus channels
  pub entries : fmmus_then ≡ entries_after (call sheet ws c o settings fmmus channels) (sheet_data sheet) ws c o settings fmmus
  pub images : channels_then ≡ images_after (call sheet ws c o settings fmmus channels) (sheet_data sheet) ws channels

-- the promise of the call that is lent its offsets
pub record Calls
    (sheet ws : List ℕ) (c : Chosen) (o : Offsets) (settings : Settings) (fmmus channels : List ℕ)
    (answer : Segments) (offsets_then : Offsets) (fmmus_then channels_then : List ℕ) : Type 0 where
  pub says : segments_of answer ≡ segments_alone (call sheet ws c o settings fmmus channels)
  pub moves : offsets_then ≡ offsets_after (call sheet ws c o settings fmmus channels) o
  pub entries : fmmus_then ≡ entries_after (call sheet ws c o settings fmmus channels) (sheet_data sheet) ws c o settings fmmus
  pub images : channels_then ≡ images_after (call sheet ws c o settings fmmus channels) (sheet_data sheet) ws channels
