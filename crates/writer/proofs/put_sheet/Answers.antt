-- `writer::put_sheet`: each part is stored behind the one before it.
-- Assumes nothing.
use mathlib.Core.Path.{◌≡◌, ◌∙◌, ap}
use mathlib.Core.List.{List, ◌++◌}
use Prim.Native.Nat.{ℕ}
use native.Mathlib.Omega.{arith}
use borrow.Author.Rules.{rules}
use lib.ListN.{length, take}
use lib.Seq.{length-take-le}
use Rattle.wire.specs.Room.{over}
use Rattle.writer.specs.Laid.{managers_laid}
use Rattle.writer.proofs.Stored.{first-managers-long, four-stored}
use Rattle.writer.proofs.put_sheet.Goals as goal

pub returns : goal.returns
returns c =
    let a = c.args in
    let room = a.room.now in
    let records = a.records.now in
    let many : length a.d.managers ≡ 16 = search rules in
    let most : length a.d.usages ≡ 16 = search rules in
    let eleven : length c.head_of.result ≡ 11 = ap length c.head_of.ensures in
    let five = first-managers-long a.d.managers a.d.n (omega arith) in
    let one = length-take-le a.d.f a.d.usages (omega arith) in
    four-stored c.head_of.result (managers_laid a.d.managers a.d.n) (take a.d.f a.d.usages) records room (omega arith) c.store.ensures (omega arith)
    c.put_managers.ensures (omega arith) c.store-2.ensures (omega arith) c.store-3.ensures
    ∙ ap (λ (l : List ℕ). over (l ++ (managers_laid a.d.managers a.d.n ++ (take a.d.f a.d.usages ++ records))) room) c.head_of.ensures
