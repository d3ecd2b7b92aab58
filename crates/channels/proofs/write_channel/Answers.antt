-- `channels::write_channel`: the image stored at its number.
-- Assumes nothing.
use mathlib.Core.Path.{sym, ◌∙◌, ap}
use Prim.Native.Nat.{◌*◌}
use native.Mathlib.Omega.{arith}
use mathlib.Core.Option.{some}
use Rattle.sheet.specs.Sheet.{manager_at, manager_place}
use Rattle.sync_manager_channel.specs.Image.{image_of}
use Rattle.channels.specs.Channels.{channel_for, written}
use Rattle.channels.proofs.After.{area-other, image-stored}
use Rattle.channels.proofs.write_channel.Goals as goal

pub returns-else-area-eq128 : goal.returns-else-area-eq128
returns-else-area-eq128 c =
    let a = c.args in
    sym (area-other (written a.k (manager_at a.sheet.now (manager_place a.k)) (some a.size.0)) a.area.now (λ e. c.if-area-eq128.false (omega arith)))

pub returns-then-area-eq128 : goal.returns-then-area-eq128
returns-then-area-eq128 c =
    let a = c.args in
    let image = c.pack-image.ensures ∙ ap image_of (c.sm_config.ensures ∙ ap (λ m. channel_for m a.size.0) c.manager.ensures) in
    image-stored a.k (manager_at a.sheet.now (manager_place a.k)) a.size.0 (8 * c.from.result) _ a.area.now _ (omega arith) (omega arith) image c.store_entry.ensures
