-- Demand 3 of the functions: their promises are the premises of demand 3 over definitions.
-- Assumes nothing.
use mathlib.Core.Path.{◌≡◌, refl, sym, ◌∙◌, ap}
use mathlib.Core.List.{List}
use Prim.Native.Nat.{ℕ, ◌^◌, ◌<◌}
use Rattle.wire.specs.Outcome.{Outcome}
use Rattle.wire.proofs.Order.{passed-answer}
use Rattle.sheet.specs.Sheet.{sheet_data}
use Rattle.pdo.specs.declared.PdoDirection.{PdoDirection}
use Rattle.pdo.specs.declared.PdoDirection.TheVariants.{MasterRead, MasterWrite}
use Rattle.passes.specs.declared.OutputStart.{OutputStart}
use Rattle.passes.specs.declared.OutputStart.TheVariants.{Given, AfterInputs}
use Rattle.passes.specs.Start.{offset_of, outputs_from, Both, offsets_after}
use Rattle.passes.specs.Call.{call_refusals, both_of, call}
use Rattle.counting.specs.Count.{count, counted_of, device_alone}
use Rattle.agreement.specs.Agreement.{Lent, weights, choice, Accepted, started_at, counted, Agree}
use Rattle.agreement.proofs.Demand3.{promised, facts, Among, among, translated, demand-3, needs-none, needs-disabled}
use Rattle.demand3.specs.Calls.{Planning, lent_to, outputs_begun, begun_at, Call, AgreeEverywhere, Demand3OfFunctions, Demand3OfFunctionsClean, Demand3OfFunctionsFromDisabled}

module _ (sheet : List ℕ) (p : Planning sheet) where
  abbrev l : Lent
  l = lent_to p

  accepted-call : Accepted sheet l p.fmmus p.fmmus_then
  accepted-call = promised sheet l p.fmmus p.fmmus_then p.channels_then p.inputs_at p.outputs_at _ p.promise

  -- the inputs' offset was left at their end
  inputs_end : p.inputs_then.start_address ≡ (both_of (sheet_data sheet) (weights sheet l) l.offsets l.settings).inputs.next
  unfolding call
  inputs_end =
      let a = accepted-call in
      let is : a.both ≡ both_of (sheet_data sheet) (weights sheet l) l.offsets l.settings =
      passed-answer (call_refusals sheet (weights sheet l) (choice l) l.offsets l.settings p.fmmus l.channels) (both_of (sheet_data sheet) (weights sheet l) l.offsets l.settings)
      a.both (sym a.says) in
      ap (offset_of MasterRead) (p.promise.moves ∙ ap (λ (x : Outcome Both). offsets_after x l.offsets) a.says) ∙ ap (λ (b : Both). b.inputs.next) is

  -- so a caller knows where a direction started
  begun-is : (r : PdoDirection) → (begun_at p r).start_address ≡ started_at sheet r l
  begun-is MasterRead = refl
  begun-is MasterWrite = go p.settings.outputs
    where
      go : (how : OutputStart)
          → (outputs_begun how p.outputs p.inputs_then).start_address
          ≡ outputs_from how p.outputs.start_address (both_of (sheet_data sheet) (weights sheet l) l.offsets l.settings).inputs.next
      go Given = refl
      go AfterInputs = inputs_end

-- the answers, at each address, are those of the definitions
module _ (sheet : List ℕ) (call : Call sheet) (r : PdoDirection) where
  abbrev lent : Lent
  lent = lent_to call.planning

  abbrev end : List ℕ
  end = call.planning.fmmus_then

  counted-so : (a : ℕ) (h : a < 2 ^ 32) → device_alone (counted_of (call.counting r a h).answer) ≡ counted sheet r lent a
  counted-so a h =
      ap device_alone ((call.counting r a h).promise ∙ ap (count r a sheet (weights sheet lent)) (begun-is sheet call.planning r))

  from-answers : AgreeEverywhere sheet call r → Agree sheet r lent end
  from-answers same a h = let s = same a h in sym (call.translating r a h).promise ∙ s.translated ∙ sym s.counted ∙ counted-so a h

  to-answers : Among sheet r lent end → Agree sheet r lent end → AgreeEverywhere sheet call r
  to-answers m agree a h =
      let x = translated sheet r lent end m a in
      record { device = _; translated = (call.translating r a h).promise ∙ x; counted = counted-so a h ∙ sym (agree a h) ∙ x }

pub demand-3-of-functions : Demand3OfFunctions
demand-3-of-functions sheet call needs r =
    let p = call.planning in
    let a = accepted-call sheet p in
    let d = demand-3 sheet (lent_to p) p.fmmus p.fmmus_then call.bytes a needs r in
    let m = among sheet call.bytes (lent_to p) p.fmmus p.fmmus_then needs (facts sheet (lent_to p) p.fmmus p.fmmus_then a) r in
    (λ same. d.0 (from-answers sheet call r same), λ e. to-answers sheet call r m (d.1 e))

-- by default on every area; from disabled entries whatever the settings
pub demand-3-of-functions-clean : Demand3OfFunctionsClean
demand-3-of-functions-clean sheet call clean = demand-3-of-functions sheet call (needs-none call.planning.settings.old call.planning.fmmus clean)

pub demand-3-of-functions-from-disabled : Demand3OfFunctionsFromDisabled
demand-3-of-functions-from-disabled sheet call disabled = demand-3-of-functions sheet call (needs-disabled call.planning.settings.old call.planning.fmmus disabled)
