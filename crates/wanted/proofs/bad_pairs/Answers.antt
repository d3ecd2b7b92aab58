-- `wanted::bad_pairs`: a number above 15, either direction by itself, then both.
-- Assumes nothing.
use mathlib.Core.Path.{sym, ◌∙◌, ap, subst}
use mathlib.Core.List.{List}
use Rattle.pdi.specs.declared.BitLen.{BitLen}
use Rattle.sheet.specs.Sheet.{sheet_data}
use Rattle.sheet.specs.declared.SyncManager.{SyncManager}
use Rattle.pdo.specs.declared.PdoDirection.TheVariants.{MasterRead, MasterWrite}
use Rattle.pdo.specs.declared.Terms.{Terms}
use Rattle.wanted.specs.ByKind.{of_usage}
use Rattle.wanted.specs.Judged.{uses_in, Surveys, judged_uses}
use Rattle.wanted.proofs.Judging.{above-bad, one-bad, two-bad, shared-bad}
use Rattle.wanted.proofs.bad_pairs.Goals as goal

pub returns-then-number_above : goal.returns-then-number_above
returns-then-number_above c =
    let a = c.args in
    above-bad a.chosen (sheet_data a.sound.now.bytes.now).managers a.bits (sym c.number_above.ensures ∙ c.if-number_above.true)

-- what each survey finds
pub returns-then-these : goal.returns-then-these
returns-then-these c =
    let a = c.args in
    let m : List SyncManager = (sheet_data a.sound.now.bytes.now).managers in
    let e = c.of_usage.ensures ∙ ap (λ (t : Terms). of_usage m t.usage a.bits) c.filter_terms-inputs.ensures in
    let these : Surveys (judged_uses a.chosen m a.bits MasterRead) c.survey-these.result =
    subst (λ (bits : List BitLen). Surveys (uses_in a.chosen.entries bits) c.survey-these.result) e c.survey-these.ensures in
    one-bad a.chosen m a.bits c.survey-these.result these c.if-these.true

pub returns-then-those : goal.returns-then-those
returns-then-those c =
    let a = c.args in
    let m : List SyncManager = (sheet_data a.sound.now.bytes.now).managers in
    let e = c.of_usage.ensures ∙ ap (λ (t : Terms). of_usage m t.usage a.bits) c.filter_terms-inputs.ensures in
    let these : Surveys (judged_uses a.chosen m a.bits MasterRead) c.survey-these.result =
    subst (λ (bits : List BitLen). Surveys (uses_in a.chosen.entries bits) c.survey-these.result) e c.survey-these.ensures in
    let f = c.of_usage-2.ensures ∙ ap (λ (t : Terms). of_usage m t.usage a.bits) c.filter_terms-outputs.ensures in
    let those : Surveys (judged_uses a.chosen m a.bits MasterWrite) c.survey-those.result =
    subst (λ (bits : List BitLen). Surveys (uses_in a.chosen.entries bits) c.survey-those.result) f c.survey-those.ensures in
    c.if-those.true ∙ two-bad a.chosen m a.bits c.survey-these.result these c.survey-those.result those c.if-those.true

pub returns-else-those : goal.returns-else-those
returns-else-those c =
    let a = c.args in
    let m : List SyncManager = (sheet_data a.sound.now.bytes.now).managers in
    let e = c.of_usage.ensures ∙ ap (λ (t : Terms). of_usage m t.usage a.bits) c.filter_terms-inputs.ensures in
    let these : Surveys (judged_uses a.chosen m a.bits MasterRead) c.survey-these.result =
    subst (λ (bits : List BitLen). Surveys (uses_in a.chosen.entries bits) c.survey-these.result) e c.survey-these.ensures in
    let f = c.of_usage-2.ensures ∙ ap (λ (t : Terms). of_usage m t.usage a.bits) c.filter_terms-outputs.ensures in
    let those : Surveys (judged_uses a.chosen m a.bits MasterWrite) c.survey-those.result =
    subst (λ (bits : List BitLen). Surveys (uses_in a.chosen.entries bits) c.survey-those.result) f c.survey-those.ensures in
    shared-bad a.chosen m a.bits c.survey-these.result these c.survey-those.result those c.some_shared.result
    (sym c.number_above.ensures ∙ c.if-number_above.false) c.if-these.false c.if-those.false c.some_shared.ensures
