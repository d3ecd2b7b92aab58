-- The theorem isn't empty: an accepted call is one that can be made, whatever is asked for has an answer that keeps the promise, and on document 01's sheet the
-- answers then agree everywhere, for both directions, in the default over old entries; so they do on one whose inputs share an entry by a pair.
-- Assumes nothing.
use mathlib.Core.Path.{◌≡◌, refl, sym, ◌∙◌, ap}
use mathlib.Core.Bool.{Bool, true, false, cond}
use mathlib.Core.List.{List, [], ◌∷◌, map}
use mathlib.Core.Option.{Option, none, some}
use Prim.Native.Nat.{ℕ}
use Rattle.std.specs.Prelude as std
use Rattle.wire.specs.Image.{Bytes}
use Rattle.wire.specs.Lists.{Each, some_of}
use Rattle.wire.specs.Outcome.{refused, Refusal, when, decide, number_of, outcome_by}
use Rattle.wire.specs.declared.Reason.{Reason}
use Rattle.wire.specs.declared.Reason.TheVariants.{AreaLength, SheetLength, SheetVersion, SheetRule, UnnamedControl, TooManyBits, NoEntry, PastLastAddress, NotWholeBytes}
use Rattle.pdi.specs.declared.PdiOffset.{PdiOffset}
use Rattle.sheet.specs.Sheet.{sheet_data}
use Rattle.pdo.specs.declared.PdoDirection.{PdoDirection}
use Rattle.pdo.specs.declared.PdoDirection.TheVariants.{MasterRead}
use Rattle.pdo.specs.Bits.{pieces_of}
use Rattle.area.specs.Area.{entries_of, not_entries}
use Rattle.passes.specs.Start.{segments_alone, offsets_after}
use Rattle.passes.specs.Call.{images_after}
use Rattle.translation.specs.Translate.{odd, says, first_said, or_none, reached_of, translate}
use Rattle.translation.proofs.Unique.{reached_back}
use Rattle.counting.specs.declared.Position.{Position}
use Rattle.counting.specs.Count.{Spot, spot_in, count_refusals, count, found_of}
use Rattle.agreement.specs.Agreement.{Lent, weights, call_of, Accepted}
use Rattle.agreement.specs.Bench.{sample_sheet}
use Rattle.agreement.proofs.Examples.{bytes_of, lent, used_area, sample-accepted, sample-end-to-end, sample_area}
use Rattle.agreement.proofs.Paired.{sharing_sheet, shared_lent, used_entries, shared_area, shared-accepted, shared-end-to-end}
use Rattle.demand3.specs.Calls.{Planning, begun_at, Translation, Counting, Call, AgreeEverywhere}
use Rattle.demand3.proofs.Functions.{demand-3-of-functions-clean}

-- the answer of a call whose refusals each have a reason: the first that holds, or what was asked for
abbrev Reasons : List Refusal → Type 0
Reasons rs = Each (λ (r : Refusal). (e : Reason) × (number_of e ≡ r.number)) rs

abbrev answer_by : {A : Type 0} (rs : List Refusal) → Reasons rs → A → std.Result A Reason
answer_by [] t x = std.Ok x
answer_by (r ∷ rs) t x = cond r.holds (std.Err t.0.0) (answer_by rs t.1 x)

answers : {A B : Type 0} (f : A → B) (rs : List Refusal) (t : Reasons rs) (x : A) → outcome_by f (answer_by rs t x) ≡ decide rs (f x)
answers f [] t x = refl
answers f (r ∷ rs) t x = go r.holds (answers f rs t.1 x)
  where
    go : (b : Bool) → outcome_by f (answer_by rs t.1 x) ≡ decide rs (f x) → outcome_by f (cond b (std.Err t.0.0) (answer_by rs t.1 x)) ≡ cond b (refused r.number) (decide rs (f x))
    go true e = ap refused t.0.1
    go false e = e

-- a device address and a position for whatever a definition says
abbrev found_by : Option Spot → std.Option Position
found_by none = std.None
found_by (some p) = std.Some (record { sync_manager = p.manager; byte = p.byte; device = reached_back p.device })

reached_again : (x : Option ℕ) → reached_of (reached_back x) ≡ x
reached_again none = refl
reached_again (some x) = refl

found_again : (x : Option Spot) → found_of (found_by x) ≡ x
found_again none = refl
found_again (some p) = ap (λ (x : Option ℕ). some (record { manager = p.manager; byte = p.byte; device = x })) (reached_again p.device)

-- an accepted call is one that could have been made
module _ (sheet : List ℕ) (l : Lent) (area after : List ℕ) (a : Accepted sheet l area after) where
  abbrev could_plan : Planning sheet
  could_plan =
      record {
        table = l.table;
        pairs = l.pairs;
        fmmus = area;
        channels = l.channels;
        inputs = l.offsets.inputs;
        outputs = l.offsets.outputs;
        settings = l.settings;
        inputs_at = a.both.inputs.segment;
        outputs_at = a.both.outputs.segment;
        fmmus_then = after;
        channels_then = images_after (call_of sheet l area) (sheet_data sheet) (weights sheet l) l.channels;
        inputs_then = (offsets_after (call_of sheet l area) l.offsets).inputs;
        outputs_then = (offsets_after (call_of sheet l area) l.offsets).outputs;
        promise = record { says = sym (ap segments_alone a.says); moves = refl; entries = a.leaves; images = refl };
      }

could-translate : (fmmus : List ℕ) (r : PdoDirection) (a : ℕ) → Translation fmmus r a
unfolding translate
could-translate fmmus r a =
    let says = or_none (first_said (map (says r a) (entries_of 16 fmmus))) in
    let rs : List Refusal = when 1 (not_entries fmmus) ∷ when 11 (some_of (odd r) (entries_of 16 fmmus)) ∷ [] in
    let t : Reasons rs = ((AreaLength, refl), ((NotWholeBytes, refl), tt)) in
    record { answer = answer_by rs t (reached_back says); promise = answers reached_of rs t (reached_back says) ∙ ap (decide rs) (reached_again says) }

could-count : (sheet : List ℕ) (l : Lent) (offset : PdiOffset) (r : PdoDirection) (a : ℕ) → Counting sheet l.table offset r a
unfolding count
could-count sheet l offset r a =
    let ws = weights sheet l in
    let rs : List Refusal = count_refusals sheet ws r offset.start_address in
    let spot : Option Spot = spot_in offset.start_address (pieces_of (sheet_data sheet) ws r) a in
    let t : Reasons rs =
    ((SheetLength, refl), ((SheetVersion, refl), ((SheetRule, refl), ((UnnamedControl, refl), ((TooManyBits, refl), ((NoEntry, refl), ((PastLastAddress, refl), tt))))))) in
    record { answer = answer_by rs t (found_by spot); promise = answers found_of rs t (found_by spot) ∙ ap (decide rs) (found_again spot) }

-- and translating and counting after it
module _ (sheet : List ℕ) (bytes : Bytes sheet) (l : Lent) (area after : List ℕ) (a : Accepted sheet l area after) where
  abbrev could_call : Call sheet
  could_call =
      record {
        bytes = bytes;
        planning = could_plan sheet l area after a;
        translating = λ r x h. could-translate after r x;
        counting = λ r x h. could-count sheet l (begun_at (could_plan sheet l area after a) r) r x;
      }

-- document 01's sheet, over the entries of a cancelled job: both directions
pub sample-call : Call sample_sheet
sample-call = could_call sample_sheet (bytes_of sample_sheet tt) lent used_area sample_area sample-accepted

pub sample-call-agrees : (r : PdoDirection) → AgreeEverywhere sample_sheet sample-call r
unfolding sample-call
sample-call-agrees r = (demand-3-of-functions-clean sample_sheet sample-call refl r).1 (sample-end-to-end r)

-- two inputs that share an entry by a pair, over old entries
pub shared-call : Call sharing_sheet
shared-call = could_call sharing_sheet (bytes_of sharing_sheet tt) shared_lent used_entries shared_area shared-accepted

pub shared-call-agrees : AgreeEverywhere sharing_sheet shared-call MasterRead
unfolding shared-call
shared-call-agrees = (demand-3-of-functions-clean sharing_sheet shared-call refl MasterRead).1 shared-end-to-end
