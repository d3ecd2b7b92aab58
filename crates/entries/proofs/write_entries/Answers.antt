-- `entries::write_entries`: the entries are made ready, the refusals come in their order, and the area is written after the last of them.
-- Assumes nothing.
use mathlib.Core.Path.{◌≡◌, sym, ◌∙◌, ap, subst}
use mathlib.Core.List.{List}
use Prim.Native.Nat.{ℕ}
use native.Mathlib.Omega.{arith}
use lib.ListN.{length}
use borrow.Author.Rules.{rules}
use Rattle.std.proofs.lemmas.Result.{err_from_is_err_and}
use Rattle.wire.specs.Image.{Bytes}
use Rattle.area.specs.Area.{area_of, entries_of}
use Rattle.area.proofs.Flat.{area-whole}
use Rattle.passes.specs.Handed.{Short}
use Rattle.passes.proofs.Lengths.{short-area}
use Rattle.entries.specs.Lay.{then_in_the_way}
use Rattle.entries.proofs.Blocked.{short-made}
use Rattle.entries.proofs.Decided.{too-long-refused, end-refused, entries-written}
use Rattle.entries.proofs.write_entries.Goals as goal

-- what was loaded is sixteen entries, none longer than its two bytes say
short-loaded : (area : List ℕ) (loaded : List (List ℕ)) → length area ≡ 256 → Bytes area → loaded ≡ entries_of 16 (area_of 256 area) → Short loaded
short-loaded area loaded right bytes l = subst (λ (es : List (List ℕ)). Short es) (sym (l ∙ ap (entries_of 16) (area-whole 256 area right))) (short-area area bytes)

pub lay_both-requires : goal.lay_both-requires
lay_both-requires c =
    short-made c.make_ready-blocked.ensures (short-loaded c.args.area.now _ (omega arith) (record { below = search rules }) c.load.ensures)

pub returns-in_err-ends : goal.returns-in_err-ends
returns-in_err-ends c =
    let short = short-loaded c.args.area.now c.load.new.entries (omega arith) (record { below = search rules }) c.load.ensures in
    let p = err_from_is_err_and c.from_residual.result c.from_residual.ensures.1 in
    rw (p.1, p.2) (too-long-refused _ _ _ _ (omega arith) c.load.ensures short c.make_ready-blocked.ensures _ c.in_err-ends.ensures)

pub returns-in_err-mapped : goal.returns-in_err-mapped
returns-in_err-mapped c =
    let short = short-loaded c.args.area.now c.load.new.entries (omega arith) (record { below = search rules }) c.load.ensures in
    let p = err_from_is_err_and c.from_residual-in_err-mapped.result c.from_residual-in_err-mapped.ensures.1 in
    rw (p.1, p.2) (end-refused _ _ _ _ (omega arith) c.load.ensures short c.make_ready-blocked.ensures c.in_ok-ends.ensures _
    (c.in_err-mapped.ensures ∙ ap (then_in_the_way c.make_ready-blocked.result) c.segments_to.ensures))

pub returns : goal.returns
returns c =
    let short = short-loaded c.args.area.now c.load.new.entries (omega arith) (record { below = search rules }) c.load.ensures in
    entries-written _ _ _ _ (omega arith) c.load.ensures short c.make_ready-blocked.ensures c.in_ok-ends.ensures
    (c.in_ok-mapped.ensures ∙ ap (then_in_the_way c.make_ready-blocked.result) c.segments_to.ensures) c.store_all.ensures
