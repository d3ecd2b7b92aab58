-- `dump::put_pdos`: what is left, put from where the walk stands, gives what all of them give.
-- Assumes nothing.
use mathlib.Core.Path.{sym, ◌∙◌, ap}
use mathlib.Core.List.{List}
use Prim.Native.Nat.{ℕ}
use Rattle.writer.specs.Form.{pdo_bytes}
use Rattle.dump.specs.Records.{pdo_long, pdo_for}
use Rattle.dump.specs.Looked.{number_of}
use Rattle.dump.proofs.Pdos.{kind-some, put-turn, put-end}
use Rattle.dump.proofs.put_pdos.Goals as goal

pub loop-long-preserved : goal.loop-long-preserved
loop-long-preserved c =
    let l = c.in-Some.ensures in
    let is = c.pdo_bytes.ensures ∙ ap (λ (x : List ℕ). pdo_bytes (pdo_for (number_of c.args.kind) x)) c.behind-in-Some.ensures in
    put-turn c.loop-long.invariant (kind-some c.args.kind) c.requires (l.0 ∙ ap pdo_long c.behind.ensures) l.1 is c.store.ensures

pub returns : goal.returns
returns c = put-end c.loop-long.invariant (kind-some c.args.kind) c.requires (sym (ap pdo_long c.behind.ensures) ∙ c.in_default.ensures)
