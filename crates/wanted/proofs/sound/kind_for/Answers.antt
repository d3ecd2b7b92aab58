-- `wanted::sound::kind_for`: by the path, then by the usage.
-- Assumes nothing.
use mathlib.Core.Path.{sym, ◌∙◌, ap}
use Rattle.pdo.specs.declared.Terms.{Terms}
use Rattle.wanted.proofs.Managers.{kind-inputs, kind-outputs}
use Rattle.wanted.proofs.sound.kind_for.Goals as goal

pub returns-then-usage-inputs : goal.returns-then-usage-inputs
returns-then-usage-inputs c = kind-inputs _ _ _ c.if-coe.false (c.if-usage-inputs.true ∙ ap (λ (t : Terms). t.usage) c.filter_terms-inputs.ensures) (ap (λ (t : Terms). t.kind) c.filter_terms-inputs.ensures)

pub returns : goal.returns
returns c = kind-outputs _ _ _ c.if-coe.false (λ h. c.if-usage-inputs.false (h ∙ sym (ap (λ (t : Terms). t.usage) c.filter_terms-inputs.ensures))) (ap (λ (t : Terms). t.kind) c.filter_terms.ensures)
