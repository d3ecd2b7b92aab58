-- Demand 3 of the functions: read this first. It speaks of what they were lent and of what they answered. By default it holds on every FMMU area; keeping old
-- entries, from one with every entry disabled.
-- Each `promise` is the function's own `ensures`, at the values of the call: `Contracts` in proofs/ makes these records of the contracts.
-- Assumes nothing.
use Rattle.std.specs.Prelude.{◌≡◌, List, ◌↔◌, ℕ, ◌^◌, ◌<◌}
use Rattle.std.specs.Prelude as std
use Rattle.std.proofs.Math.Option.{Option}
use Rattle.wire.specs.Outcome.{accepted}
use Rattle.wire.specs.declared.Reason.{Reason}
use Rattle.wire.specs.Image.{Bytes}
use Rattle.pdi.specs.declared.PdiOffset.{PdiOffset}
use Rattle.pdi.specs.declared.PdiSegment.{PdiSegment}
use Rattle.sheet.specs.Sheet.{sheet_data}
use Rattle.pdo.specs.declared.PdoDirection.{PdoDirection}
use Rattle.pdo.specs.declared.PdoDirection.TheVariants.{MasterRead, MasterWrite}
use Rattle.pdo.specs.declared.Oversampling.{Oversampling}
use Rattle.pdo.specs.Bits.{multipliers_of}
use Rattle.passes.specs.declared.FmmuPair.{FmmuPair}
use Rattle.passes.specs.declared.OldEntries.TheVariants.{Clear}
use Rattle.passes.specs.declared.OutputStart.{OutputStart}
use Rattle.passes.specs.declared.OutputStart.TheVariants.{Given, AfterInputs}
use Rattle.passes.specs.declared.Settings.{Settings}
use Rattle.passes.specs.Use.{Use, chosen_by}
use Rattle.passes.specs.Start.{offsets}
use Rattle.passes.specs.Call.{Calls}
use Rattle.translation.specs.Translate.{translate, translated_of}
use Rattle.counting.specs.declared.Position.{Position}
use Rattle.counting.specs.Count.{count, counted_of, device_alone}
use Rattle.agreement.specs.Agreement.{EveryDisabled, Needs, Lent, EndToEnd, laid_by}

-- a call of `lent::configure_fmmus` that answered segments: what it was lent beside the sheet, its answer, and what it left
pub record Planning (sheet : List ℕ) : Type 0 where
  pub table : List Oversampling
  pub pairs : List FmmuPair
  pub fmmus : List ℕ
  pub channels : List ℕ
  pub inputs : PdiOffset
  pub outputs : PdiOffset
  pub settings : Settings
  pub inputs_at : PdiSegment
  pub outputs_at : PdiSegment
  pub fmmus_then : List ℕ
  pub channels_then : List ℕ
  pub inputs_then : PdiOffset
  pub outputs_then : PdiOffset
  pub promise :
      Calls sheet (multipliers_of table (sheet_data sheet).pdos) (chosen_by settings.mode pairs) (offsets inputs outputs) settings fmmus channels
      (std.Ok (record { inputs = inputs_at; outputs = outputs_at })) (offsets inputs_then outputs_then) fmmus_then channels_then

-- what it was lent beside the sheet and the FMMU bytes
abbrev pub lent_to : {sheet : List ℕ} → Planning sheet → Lent
lent_to p = record { table = p.table; pairs = p.pairs; offsets = offsets p.inputs p.outputs; settings = p.settings; channels = p.channels }

-- where a direction started, as a caller knows it: the offset that was lent for it; of outputs straight after the inputs, the inputs' offset as the call left it
abbrev pub outputs_begun : OutputStart → PdiOffset → PdiOffset → PdiOffset
outputs_begun Given lent inputs_then = lent
outputs_begun AfterInputs lent inputs_then = inputs_then

abbrev pub begun_at : {sheet : List ℕ} → Planning sheet → PdoDirection → PdiOffset
begun_at p MasterRead = p.inputs
begun_at p MasterWrite = outputs_begun p.settings.outputs p.outputs p.inputs_then

-- what translating and counting answer
abbrev pub Translated : Type 0
Translated = std.Result (std.Option ℕ) Reason

abbrev pub Counted : Type 0
Counted = std.Result (std.Option Position) Reason

-- a call of `translation::translate` at an address
pub record Translation (fmmus : List ℕ) (r : PdoDirection) (a : ℕ) : Type 0 where
  pub answer : Translated
  pub promise : translated_of answer ≡ translate r fmmus a

-- a call of `lent::count` at an address
pub record Counting (sheet : List ℕ) (table : List Oversampling) (offset : PdiOffset) (r : PdoDirection) (a : ℕ) : Type 0 where
  pub answer : Counted
  pub promise : counted_of answer ≡ count r a sheet (multipliers_of table (sheet_data sheet).pdos) offset.start_address

-- one call; then, at all 2^32 addresses and for both directions, translating through the bytes that it left, and counting with its own table from where the direction
-- started; counting is lent no pairs. The sheet holds bytes, as every lent slice of them does (`below`, lent/proofs/Bytes.antt)
pub record Call (sheet : List ℕ) : Type 0 where
  pub bytes : Bytes sheet
  pub planning : Planning sheet
  pub translating : (r : PdoDirection) (a : ℕ) → a < 2 ^ 32 → Translation planning.fmmus_then r a
  pub counting : (r : PdoDirection) (a : ℕ) → a < 2 ^ 32 → Counting sheet planning.table (begun_at planning r) r a

-- the two answers name the same device address, or both none; neither is a refusal
pub record SameDevice (t : Translated) (c : Counted) : Type 0 where
  pub device : Option ℕ
  pub translated : translated_of t ≡ accepted device
  pub counted : device_alone (counted_of c) ≡ accepted device

-- at all 2^32 logical addresses
abbrev pub Everywhere : ((a : ℕ) → a < 2 ^ 32 → Translated) → ((a : ℕ) → a < 2 ^ 32 → Counted) → Type 0
Everywhere translated counted = (a : ℕ) (h : a < 2 ^ 32) → SameDevice (translated a h) (counted a h)

abbrev pub AgreeEverywhere : (sheet : List ℕ) → Call sheet → PdoDirection → Type 0
AgreeEverywhere sheet call r = Everywhere (λ a h. (call.translating r a h).answer) (λ a h. (call.counting r a h).answer)

-- the sync managers that a call laid for a direction, each with its size, its device address and the entry that it uses
abbrev pub laid_in : (sheet : List ℕ) → Call sheet → PdoDirection → List Use
laid_in sheet call r = laid_by sheet r (lent_to call.planning)

-- the two agree everywhere exactly if the nonempty sync managers that share an entry lie end to end; so for either direction
abbrev pub Demand3OfFunctions : Type 0
Demand3OfFunctions =
    (sheet : List ℕ) (call : Call sheet)
    → Needs call.planning.settings.old call.planning.fmmus
    → (r : PdoDirection)
    → AgreeEverywhere sheet call r ↔ EndToEnd (laid_in sheet call r)

-- so by default on every area
abbrev pub Demand3OfFunctionsClean : Type 0
Demand3OfFunctionsClean =
    (sheet : List ℕ) (call : Call sheet)
    → call.planning.settings.old ≡ Clear
    → (r : PdoDirection)
    → AgreeEverywhere sheet call r ↔ EndToEnd (laid_in sheet call r)

-- and from FMMU bytes with every entry disabled whatever the settings, as document 01 has it of keeping
abbrev pub Demand3OfFunctionsFromDisabled : Type 0
Demand3OfFunctionsFromDisabled =
    (sheet : List ℕ) (call : Call sheet)
    → EveryDisabled call.planning.fmmus
    → (r : PdoDirection)
    → AgreeEverywhere sheet call r ↔ EndToEnd (laid_in sheet call r)
