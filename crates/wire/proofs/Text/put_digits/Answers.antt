-- `wire::Text::put_digits`: typing the digits that are left where the loop stands is typing all of them from the start.
-- Assumes nothing.
use mathlib.Core.Path.{◌≡◌, sym, ◌∙◌, ap}
use mathlib.Core.List.{[], ◌∷◌}
use Prim.Native.Nat.{ℕ, ◌<◌, ◌-◌, ◌+◌, ◌/◌, ◌%◌}
use native.Mathlib.Nat.{mod-lt}
use native.Mathlib.Omega.{arith}
use Rattle.wire.specs.Text.{page_of, typed_all, digits_of}
use Rattle.wire.proofs.Typing.{types}
use Rattle.wire.proofs.Digits.{weight-pos, weight-next, digits-turn}
use Rattle.wire.proofs.Text.put_digits.Goals as goal

pub nonzero_div-digit : goal.nonzero_div-digit
nonzero_div-digit c =
    let l = c.loop in
    let a = c.args in
    weight-pos a.base (a.count - l.counter) l.weight (omega arith) (omega arith) l.invariant.0

pub overflow_cast-digit : goal.overflow_cast-digit
overflow_cast-digit c =
    let small : c.args.x / c.loop.weight % c.args.base < 16 = let base = c.args.base in
    let h = mod-lt (c.args.x / c.loop.weight) {m = base} (omega arith) in
    omega arith in
    omega (arith, small)

pub glyph-requires : goal.glyph-requires
glyph-requires c =
    let small : c.args.x / c.loop.weight % c.args.base < 16 = let base = c.args.base in
    let h = mod-lt (c.args.x / c.loop.weight) {m = base} (omega arith) in
    omega arith in
    small

pub loop-preserved : goal.loop-preserved
loop-preserved c =
    let put = c.put_byte.ensures in
    let l = c.loop in
    let a = c.args in
    let left : a.count - (l.counter + 1) ≡ a.count - l.counter - 1 = omega arith in
    let typed = types (ap (λ (b : ℕ). b ∷ []) c.glyph.ensures) put.types in (
      rw left (weight-next a.base (a.count - l.counter) l.weight (omega arith) (omega arith) l.invariant.0),
      record {
        left = rw left (digits-turn a.base a.x (a.count - l.counter) l.weight (omega arith) (omega arith) l.invariant.0 typed) ∙ l.invariant.1.left;
        same_room = put.same_room ∙ l.invariant.1.same_room;
      },
    )

pub returns : goal.returns
unfolding typed_all digits_of
returns c =
    let l = c.loop in
    let a = c.args in
    let e : a.count - l.counter ≡ 0 = omega arith in
    record {
      types = record { is = sym (ap (λ (n : ℕ). typed_all (page_of l.self) (digits_of a.base n a.x)) e) ∙ l.invariant.1.left };
      same_room = l.invariant.1.same_room;
    }
