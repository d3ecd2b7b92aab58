-- The call beside keeping (document 02, 3/13 and 7/13): by default the same as keeping where the old entries are zero; what two passes that keep leave, one after the
-- other in either order; and made again it leaves what it left.
-- Assumes nothing.
use Rattle.std.specs.Prelude.{◌≡◌, false, cond, List, map, ℕ, length, replicate, Ok, Err}
use Rattle.wire.specs.Outcome.{Outcome, accepted}
use Rattle.wire.specs.declared.Reason.{Reason}
use Rattle.wire.specs.Image.{Bytes}
use Rattle.pdi.specs.declared.PdiOffset.{PdiOffset}
use Rattle.pdi.specs.declared.PdiSegment.{PdiSegment}
use Rattle.sheet.specs.Device.{Data}
use Rattle.sheet.specs.Sheet.{sheet_data, read_sheet}
use Rattle.pdo.specs.declared.PdoDirection.{PdoDirection}
use Rattle.pdo.specs.Direction.{other}
use Rattle.area.specs.Area.{entries_of, flat, not_entries}
use Rattle.passes.specs.declared.OldEntries.{OldEntries}
use Rattle.passes.specs.declared.OldEntries.TheVariants.{Clear, Keep}
use Rattle.passes.specs.declared.Chosen.{Chosen}
use Rattle.passes.specs.declared.OutputStart.TheVariants.{AfterInputs}
use Rattle.passes.specs.declared.Settings.{Settings}
use Rattle.passes.specs.Pairs.{bad_pairs}
use Rattle.passes.specs.Old.{cleared_of_both, in_the_way}
use Rattle.passes.specs.Start.{Offsets, Segments, of_either, Planned, Both, planned_for, offsets}
use Rattle.passes.specs.Entries.{uses_of_both, too_long}
use Rattle.passes.specs.Pass.{no_entry, keeping_pass, entries_kept, images_of}
use Rattle.passes.specs.Call.{uses_for, starts_at, call, entries_after, images_after, Calls}

-- an area with each enabled entry that carries one direction's bit alone set to zero; one that isn't 256 bytes stays
abbrev pub zeroed : List ℕ → List ℕ
zeroed area = cond (not_entries area) area (flat (map cleared_of_both (entries_of 16 area)))

-- settings of which what becomes of old entries is another
abbrev pub with_old : OldEntries → Settings → Settings
with_old old settings = record { group = settings.group; old = old; mode = settings.mode; outputs = settings.outputs }

-- a call in the default, and one that keeps, over the area with the old entries zeroed
abbrev pub by_default : List ℕ → List ℕ → Chosen → Offsets → Settings → List ℕ → List ℕ → Outcome Both
by_default sheet ws c o settings fmmus channels = call sheet ws c o (with_old Clear settings) fmmus channels

abbrev pub by_keeping : List ℕ → List ℕ → Chosen → Offsets → Settings → List ℕ → List ℕ → Outcome Both
by_keeping sheet ws c o settings fmmus channels = call sheet ws c o (with_old Keep settings) (zeroed fmmus) channels

-- nothing is in the way of the default: the condition of 15 doesn't hold
abbrev pub Free : List ℕ → List ℕ → Chosen → Settings → List ℕ → Type 0
Free sheet ws c settings fmmus = in_the_way Clear (uses_of_both (uses_for settings c (sheet_data sheet) ws)) (entries_of 16 fmmus) ≡ false

-- they answer the same; and accepted they leave the same bytes in both areas (a refusal leaves each its own)
pub record SameAsKeeping (sheet ws : List ℕ) (c : Chosen) (o : Offsets) (settings : Settings) (fmmus channels : List ℕ) : Type 0 where
  pub outcomes : by_default sheet ws c o settings fmmus channels ≡ by_keeping sheet ws c o settings fmmus channels
  pub entries :
      (b : Both) → by_default sheet ws c o settings fmmus channels ≡ accepted b
      → entries_after (accepted b) (sheet_data sheet) ws c o (with_old Clear settings) fmmus ≡ entries_after (accepted b) (sheet_data sheet) ws c o (with_old Keep settings) (zeroed fmmus)
  pub images :
      images_after (by_default sheet ws c o settings fmmus channels) (sheet_data sheet) ws channels
      ≡ images_after (by_keeping sheet ws c o settings fmmus channels) (sheet_data sheet) ws channels

-- wherever the condition of 15 doesn't hold, the default on any area is keeping on the area with those entries zeroed. Where it holds, the two may answer
-- differently even if the answer isn't 15: keeping gives 8 where the default gives 9 (`old_cases`)
abbrev pub AsKeeping : Type 0
AsKeeping =
    (sheet ws : List ℕ) (c : Chosen) (o : Offsets) (settings : Settings) (fmmus channels : List ℕ)
    → Bytes fmmus
    → Free sheet ws c settings fmmus
    → SameAsKeeping sheet ws c o settings fmmus channels

-- so of the call that is lent its offsets: where the default answers segments, its promise is that of keeping, with the same answer, offsets and areas
abbrev pub PromiseAsKeeping : Type 0
PromiseAsKeeping =
    (sheet ws : List ℕ) (c : Chosen) (o : Offsets) (settings : Settings) (fmmus channels : List ℕ)
    (i u : PdiSegment) (offsets_then : Offsets) (fmmus_then channels_then : List ℕ)
    → Bytes fmmus
    → Calls sheet ws c o (with_old Clear settings) fmmus channels (Ok (record { inputs = i; outputs = u })) offsets_then fmmus_then channels_then
    → Calls sheet ws c o (with_old Keep settings) (zeroed fmmus) channels (Ok (record { inputs = i; outputs = u })) offsets_then fmmus_then channels_then

-- so where the clearing changes nothing, whatever the answer is: the promise of the default is that of keeping on the very area
abbrev pub NothingCleared : Type 0
NothingCleared =
    (sheet ws : List ℕ) (c : Chosen) (o : Offsets) (settings : Settings) (fmmus channels : List ℕ)
    (answer : Segments) (offsets_then : Offsets) (fmmus_then channels_then : List ℕ)
    → Bytes fmmus
    → zeroed fmmus ≡ fmmus
    → Free sheet ws c settings fmmus
    → Calls sheet ws c o (with_old Clear settings) fmmus channels answer offsets_then fmmus_then channels_then
    → Calls sheet ws c o (with_old Keep settings) fmmus channels answer offsets_then fmmus_then channels_then

-- and what the default answers doesn't depend on what stood in the area before: where the condition of 15 doesn't hold, it is the answer from zeros
abbrev pub AsFromZeros : Type 0
AsFromZeros =
    (sheet ws : List ℕ) (c : Chosen) (o : Offsets) (settings : Settings) (fmmus channels : List ℕ)
    → length fmmus ≡ 256
    → Free sheet ws c settings fmmus
    → by_default sheet ws c o settings fmmus channels ≡ by_default sheet ws c o settings (replicate 256 0) channels

-- a direction's pass that keeps, from where the call starts the direction: it is accepted with this answer, and leaves these areas
pub record Kept
    (sheet ws : List ℕ) (c : Chosen) (o : Offsets) (settings : Settings) (r : PdoDirection) (fmmus channels : List ℕ)
    (p : Planned) (fmmus_then channels_then : List ℕ) : Type 0 where
  pub says : keeping_pass sheet ws c settings.mode r (starts_at settings o (sheet_data sheet) ws r) settings.group fmmus channels ≡ accepted p
  pub entries : fmmus_then ≡ entries_kept (sheet_data sheet) ws c settings.mode r (starts_at settings o (sheet_data sheet) ws r) fmmus
  pub images : channels_then ≡ images_of (sheet_data sheet) ws r channels

-- one such pass, then the other direction's over what it left
pub record OneAfterTheOther
    (sheet ws : List ℕ) (c : Chosen) (o : Offsets) (settings : Settings) (first : PdoDirection) (fmmus channels : List ℕ)
    (b : Both) (fmmus_then channels_then : List ℕ) : Type 0 where
  pub between : List ℕ
  pub images_between : List ℕ
  pub one : Kept sheet ws c o settings first fmmus channels (planned_for first b) between images_between
  pub two : Kept sheet ws c o settings (other first) between images_between (planned_for (other first) b) fmmus_then channels_then

-- what they begin with: by default the area with the old entries of both directions zeroed, keeping the area as it is
abbrev pub begun : OldEntries → List ℕ → List ℕ
begun Clear area = zeroed area
begun Keep area = area

-- an accepted call answers and leaves what the two passes do, in either order
abbrev pub AsTwoPasses : Type 0
AsTwoPasses =
    (sheet ws : List ℕ) (c : Chosen) (o : Offsets) (settings : Settings) (fmmus channels : List ℕ) (b : Both)
    → Bytes sheet
    → Bytes fmmus
    → call sheet ws c o settings fmmus channels ≡ accepted b
    → (first : PdoDirection)
    → OneAfterTheOther sheet ws c o settings first (begun settings.old fmmus) channels b
    (entries_after (accepted b) (sheet_data sheet) ws c o settings fmmus)
    (images_after (accepted b) (sheet_data sheet) ws channels)

-- and the other way: where the two passes are accepted in some order, and the condition of 15 doesn't hold, the call is accepted with their answer. So but for 15 it
-- refuses nothing that they accept
abbrev pub TwoPassesAccepted : Type 0
TwoPassesAccepted =
    (sheet ws : List ℕ) (c : Chosen) (o : Offsets) (settings : Settings) (fmmus channels : List ℕ) (b : Both)
    (first : PdoDirection) (fmmus_then channels_then : List ℕ)
    → Bytes fmmus
    → in_the_way settings.old (uses_of_both (uses_for settings c (sheet_data sheet) ws)) (entries_of 16 fmmus) ≡ false
    → OneAfterTheOther sheet ws c o settings first (begun settings.old fmmus) channels b fmmus_then channels_then
    → call sheet ws c o settings fmmus channels ≡ accepted b

-- keeping, 15 is never given: the two passes are enough
abbrev pub KeepingAccepted : Type 0
KeepingAccepted =
    (sheet ws : List ℕ) (c : Chosen) (o : Offsets) (settings : Settings) (fmmus channels : List ℕ) (b : Both)
    (first : PdoDirection) (fmmus_then channels_then : List ℕ)
    → Bytes fmmus
    → settings.old ≡ Keep
    → OneAfterTheOther sheet ws c o settings first fmmus channels b fmmus_then channels_then
    → call sheet ws c o settings fmmus channels ≡ accepted b

-- 8 counts all that is laid on an entry; where it is asked no entry is of both directions, so that it is 8 of one direction or of the other
abbrev pub EightOfEither : Type 0
EightOfEither =
    (sheet ws : List ℕ) (c : Chosen) (settings : Settings) (entries : List (List ℕ)) (d : Data)
    → Bytes sheet
    → read_sheet sheet ≡ accepted d
    → bad_pairs settings.mode c d ws ≡ false
    → of_either (no_entry d ws) ≡ false
    → too_long settings.old (uses_of_both (uses_for settings c d ws)) entries ≡ of_either (λ r. too_long settings.old (uses_for settings c d ws r) entries)

-- a refused call leaves both offsets and both areas
abbrev pub RefusedLeaves : Type 0
RefusedLeaves =
    (sheet ws : List ℕ) (c : Chosen) (o : Offsets) (settings : Settings) (fmmus channels : List ℕ)
    (n : Reason) (offsets_then : Offsets) (fmmus_then channels_then : List ℕ)
    → Calls sheet ws c o settings fmmus channels (Err n) offsets_then fmmus_then channels_then
    → ◌≡◌ {A = Offsets × List ℕ × List ℕ} (offsets_then, fmmus_then, channels_then) (o, fmmus, channels)

-- straight after the inputs the outputs' lent offset isn't read: whatever it is, the same answer and the same entries
abbrev pub OutputsUnread : Type 0
OutputsUnread =
    (sheet ws : List ℕ) (c : Chosen) (inputs one two : PdiOffset) (settings : Settings) (fmmus channels : List ℕ)
    → settings.outputs ≡ AfterInputs
    → (call sheet ws c (offsets inputs one) settings fmmus channels ≡ call sheet ws c (offsets inputs two) settings fmmus channels)
    × ((x : Outcome Both)
    → entries_after x (sheet_data sheet) ws c (offsets inputs one) settings fmmus ≡ entries_after x (sheet_data sheet) ws c (offsets inputs two) settings fmmus)

-- a call in the default that answered segments, made again from the same offsets over what it left, answers the same and leaves the same
abbrev pub MadeAgain : Type 0
MadeAgain =
    (sheet ws : List ℕ) (c : Chosen) (o : Offsets) (settings : Settings) (fmmus channels : List ℕ)
    (i u : PdiSegment) (offsets_then : Offsets) (fmmus_then channels_then : List ℕ)
    (answer : Segments) (offsets_again : Offsets) (fmmus_again channels_again : List ℕ)
    → Bytes sheet
    → Calls sheet ws c o (with_old Clear settings) fmmus channels (Ok (record { inputs = i; outputs = u })) offsets_then fmmus_then channels_then
    → Calls sheet ws c o (with_old Clear settings) fmmus_then channels_then answer offsets_again fmmus_again channels_again
    → ◌≡◌ {A = Segments × Offsets × List ℕ × List ℕ} (answer, offsets_again, fmmus_again, channels_again) (Ok (record { inputs = i; outputs = u }), offsets_then, fmmus_then, channels_then)
