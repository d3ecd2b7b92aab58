-- `put_channels`: typing the lines that are left where the loop stands is typing all of them from the start.
-- Assumes nothing.
use mathlib.Core.Path.{◌≡◌, sym, ◌∙◌, ap}
use mathlib.Core.List.{List, []}
use Prim.Native.Nat.{ℕ, ◌<◌, min}
use native.Mathlib.Omega.{arith}
use lib.ListN.{length, take, length-take}
use lib.Seq.{get_or-take}
use Rattle.wire.specs.Text.{page_of}
use Rattle.wire.proofs.Typing.{puts}
use Rattle.area.specs.Area.{area_of, entries_of, entry_at}
use Rattle.area.proofs.Flat.{length-chunks}
use Rattle.area.proofs.Entry.{entry-any}
use Rattle.lines.specs.Text.{image_line}
use Rattle.lines.proofs.Lines.{lines-turn, lines_end}
use Rattle.lines.proofs.put_channels.Goals as goal

-- how many lines there are
many : (n : ℕ) (area : List ℕ) → length (take n (entries_of 8 (area_of 128 area))) ≡ min n 16
many n area = length-take n (entries_of 8 (area_of 128 area)) ∙ ap (min n) (length-chunks 8 16 (area_of 128 area))

pub loop-k-preserved : goal.loop-k-preserved
loop-k-preserved c =
    let l = c.loop-k in
    let n = c.args.n in
    let area = c.args.channels.now in
    let images = entries_of 8 (area_of 128 area) in
    let all = many n area in
    let here : l.k < n = omega arith in
    let read = c.entry_at-image in
    let is = get_or-take n images l.k [] here ∙ sym (read.ensures ∙ ap (entry_at 8 area) c.from.ensures ∙ entry-any 8 area l.k [] (omega arith)) in
    let put = puts (ap (λ (k : ℕ). image_line k read.result) c.from-in-loop-k.ensures) c.put_channel.ensures in
    record {
      left = lines-turn image_line (take n images) l.k read.result (omega arith) is put.types ∙ l.invariant.left;
      same_room = put.same_room ∙ l.invariant.same_room;
    }

pub returns : goal.returns
returns c =
    let l = c.loop-k in
    let n = c.args.n in
    let area = c.args.channels.now in
    let all = many n area in
    record {
      types = record { is = sym (lines_end image_line (take n (entries_of 8 (area_of 128 area))) l.k {p = page_of l.text} (omega arith)) ∙ l.invariant.left };
      same_room = l.invariant.same_room;
    }
