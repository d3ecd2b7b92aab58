-- `dump::put_both`: what is stored behind what was stored is stored with it.
-- Assumes nothing.
use native.Mathlib.Omega.{arith}
use Rattle.dump.specs.Records.{pdos_for}
use Rattle.dump.specs.Looked.{number_of}
use Rattle.dump.proofs.Pdos.{kind-some, pdos-long}
use Rattle.dump.proofs.Placed.{both-put}
use Rattle.dump.proofs.put_both.Goals as goal

pub returns : goal.returns
returns c =
    let a = c.args in
    let m = pdos-long (number_of a.kind) a.first.now (kind-some a.kind) in
    let n = pdos-long (number_of a.other) a.last.now (kind-some a.other) in
    both-put (pdos_for (number_of a.kind) a.first.now) (pdos_for (number_of a.other) a.last.now) a.room.now c.put_pdos-next.ensures.1 (omega arith) c.put_pdos.ensures.1
    (omega (arith, c.requires))
