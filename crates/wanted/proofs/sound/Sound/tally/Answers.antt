-- `wanted::sound::Sound::tally`: the sums so far, and what the records ahead add, are the whole.
-- Assumes nothing.
use mathlib.Core.Path.{sym, ◌∙◌}
use Prim.Native.Nat.{◌+◌, ◌-◌}
use native.Mathlib.Omega.{arith}
use lib.ListN.{get_or}
use Rattle.grammar.specs.Grammar.{pdo_count, pdos_place}
use Rattle.grammar.proofs.Broken.{kept}
use Rattle.sheet.specs.Sheet.{sheet_data}
use Rattle.sheet.proofs.Sound.{Fits}
use Rattle.pdo.proofs.Records.{product-bounded}
use Rattle.wanted.proofs.Managers.{counts-there}
use Rattle.wanted.proofs.Sums.{tallied-start, next_fits, next_within, tallied-here, tallied-on, tallied-end, sums-are}
use Rattle.wanted.proofs.sound.Sound.tally.Goals as goal
use Rattle.wanted.proofs.sound.Sound.tally.Goals.{then-counts, else-counts}

pub loop-i-init : goal.loop-i-init
loop-i-init c =
    let s = c.args.self.now.bytes.now in
    tallied-start _ _ _ _ (pdo_count s) (pdos_place s) _ c.pdos_place-place.ensures.0 (kept s c.args.self.now.whole).walk

pub counts-requires : goal.counts-requires
counts-requires c =
    let fit : Fits c.args.self.now.bytes.now (pdo_count c.args.self.now.bytes.now - (c.loop-i.i + 1)) c.loop-i.place = next_fits _ _ _ _ c.loop-i.invariant (omega arith) in
    omega (arith, fit.within)

pub overflow_add-place : goal.overflow_add-place
overflow_add-place c = omega (arith, next_within _ _ _ _ c.loop-i.invariant (omega arith))

pub overflow_add-place-in-loop-i : goal.overflow_add-place-in-loop-i
overflow_add-place-in-loop-i c = omega (arith, next_within _ _ _ _ c.loop-i.invariant (omega arith))

pub bounds-self-place : goal.bounds-self-place
bounds-self-place c = omega (arith, next_within _ _ _ _ c.loop-i.invariant (omega arith))

pub bounds-sums-slot : goal.bounds-sums-slot
bounds-sums-slot c =
    let s = c.args.self.now.bytes.now in
    let h = counts-there s c.args.«coe» (get_or s c.loop-i.place 0) (get_or s (c.loop-i.place + 1) 0) (sym c.counts.ensures ∙ c.if-counts.true) in
    omega arith

pub pdo_bits-requires : goal.pdo_bits-requires
pdo_bits-requires c =
    let fit : Fits c.args.self.now.bytes.now (pdo_count c.args.self.now.bytes.now - (c.loop-i.i + 1)) c.loop-i.place = next_fits _ _ _ _ c.loop-i.invariant (omega arith) in
    record { within = fit.within; kind = fit.kind }

pub overflow_mul-sums : goal.overflow_mul-sums
overflow_mul-sums c = omega (arith, product-bounded c.pdo_bits.result c.from.result c.pdo_bits.ensures.1 (omega arith))

pub overflow_add-sums : goal.overflow_add-sums
overflow_add-sums c =
    let s = c.args.self.now.bytes.now in
    let h = counts-there s c.args.«coe» (get_or s c.loop-i.place 0) (get_or s (c.loop-i.place + 1) 0) (sym c.counts.ensures ∙ c.if-counts.true) in
    let product = product-bounded c.pdo_bits.result c.from.result c.pdo_bits.ensures.1 (omega arith) in
    omega (arith, product, c.loop-i.invariant.small c.from-slot.result (omega arith))

pub bounds-sums-slot-then-counts : goal.bounds-sums-slot-then-counts
bounds-sums-slot-then-counts c =
    let s = c.args.self.now.bytes.now in
    let h = counts-there s c.args.«coe» (get_or s c.loop-i.place 0) (get_or s (c.loop-i.place + 1) 0) (sym c.counts.ensures ∙ c.if-counts.true) in
    omega arith

pub bounds-self-place-in-loop-i : goal.bounds-self-place-in-loop-i
bounds-self-place-in-loop-i c = omega (arith, next_within _ _ _ _ c.loop-i.invariant (omega arith))

pub overflow_add-place-in-loop-i-3 : goal.overflow_add-place-in-loop-i-3
overflow_add-place-in-loop-i-3 c = omega (arith, next_within _ _ _ _ c.loop-i.invariant (omega arith))

pub loop-i-preserved : goal.loop-i-preserved
loop-i-preserved c =
    let l = c.loop-i in
    let s = c.args.self.now.bytes.now in
    let next = l.place + (5 + c.from-in-loop-i.result) in
    let e = sym c.counts.ensures in
    elim c.if-counts.branch [
      | then-counts w ↦
          tallied-here _ _ _ _ l.invariant next (omega arith) (omega arith) w.from-slot.result w.pdo_bits.result w.from.result _ (e ∙ w.if-counts.true)
          (omega arith) (omega (arith, counts-there s c.args.«coe» (get_or s l.place 0) (get_or s (l.place + 1) 0) (e ∙ w.if-counts.true))) w.pdo_bits.ensures.0 (omega arith) w.pdo_bits.ensures.1 (omega arith) w.sums-is
      | else-counts w ↦ tallied-on _ _ _ _ l.invariant next (omega arith) (omega arith) _ (e ∙ w.if-counts.false) w.sums-is
    ]

pub returns : goal.returns
unfolding sheet_data
returns c = let a = c.args in sums-are a.self.now.bytes.now a.«coe» a.multipliers.now _ (tallied-end _ _ _ _ c.loop-i.invariant (omega arith))
