-- `channels::write_channels`: the sync managers that are left, written into the area, give the area with all of them written.
-- Assumes nothing.
use Rattle.std.proofs.Common.{rules, sym, ◌∙◌, ap, ◌+◌, drop, arith}
use Rattle.sheet.specs.Sheet.{manager_at, manager_place, managers_in}
use Rattle.sheet.proofs.Managers.{front-manager, front-over}
use Rattle.channels.specs.Channels.{channels_after, channel_area, size_by}
use Rattle.channels.proofs.After.{area-turn, area-end}
use Rattle.channels.proofs.write_channels.Goals as goal

pub loop-k-preserved : goal.loop-k-preserved
loop-k-preserved c =
    let l = c.loop-k in
    let n = c.front_count-k-end.ensures in
    let a = c.args in
    let s = a.sheet.now in
    let ms = managers_in s in
    let f = size_by a.sizes in
    ap (channel_area (channels_after f (l.k + 1) (drop (l.k + 1) ms))) c.write_wanted.ensures
    ∙ area-turn f l.k (manager_at s (manager_place l.k)) (drop l.k ms) (drop (l.k + 1) ms) (front-manager s l.k (omega arith) (omega arith)) l.area _ (search rules)
    ∙ l.invariant

pub returns : goal.returns
returns c =
    let l = c.loop-k in
    let n = c.front_count-k-end.ensures in
    let a = c.args in
    sym (area-end (size_by a.sizes) l.k (drop l.k (managers_in a.sheet.now)) l.area (front-over a.sheet.now l.k (omega arith))) ∙ l.invariant
