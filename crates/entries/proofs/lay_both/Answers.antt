-- `entries::lay_both`: the inputs are laid and then the outputs, or 8 of one of them.
-- Assumes nothing.
use mathlib.Core.Path.{sym, ◌∙◌, ap, subst}
use Prim.Native.Nat.{ℕ, ◌<◌}
use native.Mathlib.Omega.{arith}
use Rattle.std.proofs.lemmas.Result.{err_from_is_err_and}
use Rattle.sheet.specs.Sheet.{managers_in}
use Rattle.passes.specs.Start.{outputs_from}
use Rattle.passes.specs.Handed.{uses_by_both}
use Rattle.entries.proofs.Outputs.{starts-near, lays-as, laid-short, inputs-refused, outputs-refused, both-laid}
use Rattle.entries.proofs.lay_both.Goals as goal

pub returns-in_err-inputs : goal.returns-in_err-inputs
returns-in_err-inputs c =
    let a = c.args in
    let p = err_from_is_err_and c.from_residual.result c.from_residual.ensures.1 in
    rw (p.1, p.2) (inputs-refused a.how a.offsets (uses_by_both a.wanted (managers_in a.sheet.now)) c.requires c.from-from.ensures (lays-as c.of-read.ensures.direction c.of-read.ensures.uses c.in_err-inputs.ensures))

pub lay-requires-2 : goal.lay-requires-2
lay-requires-2 c =
    let l = c.in_ok-inputs.ensures in
    let near = l.near in (
      laid-short l c.requires,
      subst (λ (n : ℕ). n < 8589934592) (sym c.outputs_from-start.ensures) (starts-near c.args.how c.from.result c.in_ok-inputs.inputs 8589934592 (omega arith) (omega arith)),
    )

pub returns-in_err-outputs : goal.returns-in_err-outputs
returns-in_err-outputs c =
    let a = c.args in
    let p = err_from_is_err_and c.from_residual-in_err-outputs.result c.from_residual-in_err-outputs.ensures.1 in
    rw (p.1, p.2)
    (outputs-refused a.how a.offsets (uses_by_both a.wanted (managers_in a.sheet.now)) c.requires c.from-from.ensures (lays-as c.of-read.ensures.direction c.of-read.ensures.uses c.in_ok-inputs.ensures)
    (c.outputs_from-start.ensures ∙ ap (λ (n : ℕ). outputs_from a.how n c.in_ok-inputs.inputs) c.from.ensures) (lays-as c.of-written.ensures.direction c.of-written.ensures.uses c.in_err-outputs.ensures))

pub returns : goal.returns
returns c =
    let a = c.args in
    both-laid a.how a.offsets (uses_by_both a.wanted (managers_in a.sheet.now)) c.requires c.from-from.ensures (lays-as c.of-read.ensures.direction c.of-read.ensures.uses c.in_ok-inputs.ensures)
    (c.outputs_from-start.ensures ∙ ap (λ (n : ℕ). outputs_from a.how n c.in_ok-inputs.inputs) c.from.ensures) (lays-as c.of-written.ensures.direction c.of-written.ensures.uses c.in_ok-outputs.ensures)
