-- `dump::write_sheet`: what reading refuses is refused so; else the writer is handed what reading gave.
-- Assumes nothing.
use Prim.Native.Nat.{ℕ, ◌<◌}
use lib.ListN.{replicate, length-replicate}
use borrow.Author.Rules.{rules}
use Rattle.std.proofs.lemmas.Result.{err_from_is_err_and}
use Rattle.wire.specs.Image.{Bytes}
use Rattle.dump.proofs.Sheeting.{zeros, accepted-data, writes-text, sheet-refused, sheet-written}
use Rattle.dump.proofs.write_sheet.Goals as goal

pub returns-in_err-device : goal.returns-in_err-device
returns-in_err-device c =
    let p = err_from_is_err_and c.from_residual.result c.from_residual.ensures.1 in
    let a = c.args in
    rw (p.1, p.2) (sheet-refused a.head a.dump.now (replicate 1785 0) a.room.now (length-replicate {A = ℕ} 1785 0) c.in_err-device.ensures)

pub returns : goal.returns
returns c =
    let a = c.args in
    let own = replicate {A = ℕ} 1785 0 in
    -- at every call the sizes and the lent bytes are in the range of their types
    let receive : a.head.receive_size.0 < 65536 = search rules in
    let send : a.head.send_size.0 < 65536 = search rules in
    let bytes : Bytes a.dump.now = search rules in
    let r = c.in_ok-device.ensures in
    sheet-written a.head a.dump.now own a.room.now
    (accepted-data a.head a.dump.now own receive send bytes (zeros 1785) r)
    (writes-text a.head a.dump.now own receive send bytes (zeros 1785) r c.write.ensures)
