-- `channels::write_wanted`: the usage decides.
-- Assumes nothing.
use Rattle.std.proofs.Common.{◌≡◌, sym, ◌∙◌, ap, Bool, false, cond}
use Rattle.std.proofs.Math.Option.{none, some}
use Rattle.sheet.specs.Sheet.{manager_at, manager_place}
use Rattle.pdo.specs.Direction.{is_data}
use Rattle.channels.specs.Channels.{written, channel_area}
use Rattle.channels.proofs.After.{area_same}
use Rattle.channels.proofs.write_wanted.Goals as goal

pub returns-else-is_data : goal.returns-else-is_data
returns-else-is_data c =
    let a = c.args in
    let m = manager_at a.sheet.now (manager_place a.k) in
    let off : is_data m.usage_type ≡ false = ap is_data (sym c.usage_of.ensures) ∙ sym c.is_data.ensures ∙ c.if-is_data.false in
    sym (area_same a.area.now) ∙ ap (λ (b : Bool). channel_area (written a.k m (cond b (some a.size.0) none)) a.area.now) (sym off)
