-- Digits in any base, typed from the high end.
-- Assumes nothing.
use mathlib.Core.Path.{◌≡◌, refl, ◌∙◌, ap}
use mathlib.Core.Bool.{Bool, true, false, cond}
use mathlib.Core.List.{[], ◌∷◌}
use Prim.Native.Nat.{ℕ, zero, suc, ◌-◌, ◌/◌, ◌%◌, ◌^◌, ◌<◌, ◌≤◌}
use native.Mathlib.Nat.{pow-zero, pow-suc, mul-div_cancel, mul-pos}
use native.Mathlib.Numerals.{sub-one}
use native.Mathlib.Omega.{arith}
use lib.ListN.{length}
use lib.Dec.{ltb}
use Rattle.wire.specs.Text.{Page, typed_all, Types, glyph_of, digits_of, places_of, decimal_of}

pub power_pos : (base n : ℕ) → 0 < base → 0 < base ^ n
power_pos base zero h = rw (pow-zero base) (omega arith)
power_pos base (suc n) h = rw (pow-suc base n) (mul-pos (power_pos base n h) h)

-- the weight of the highest of `left` digits
weight_is : (base n : ℕ) → 0 < base → base ^ suc n / base ≡ base ^ n
weight_is base n h = rw (pow-suc base n) (mul-div_cancel (base ^ n) h)

pub weight-pos : (base left weight : ℕ) → 0 < base → 0 < left → weight ≡ base ^ left / base → 0 < weight
weight-pos base zero weight h l e = absurd (omega arith)
weight-pos base (suc n) weight h l e = rw (e ∙ weight_is base n h) (power_pos base n h)

pub weight-next : (base left weight : ℕ) → 0 < base → 0 < left → weight ≡ base ^ left / base → weight / base ≡ base ^ (left - 1) / base
weight-next base zero weight h l e = absurd (omega arith)
weight-next base (suc n) weight h l e = rw (sub-one, e ∙ weight_is base n h)

-- a turn of the loop: the high digit is typed, the others are left
pub digits-turn :
    (base x left weight : ℕ) {p q : Page} → 0 < base → 0 < left → weight ≡ base ^ left / base
    → Types p q (glyph_of (x / weight % base) ∷ []) → typed_all q (digits_of base (left - 1) x) ≡ typed_all p (digits_of base left x)
unfolding typed_all digits_of
digits-turn base x zero weight h l e t = absurd (omega arith)
digits-turn base x (suc n) weight h l e t = rw (sub-one, t.is, e ∙ weight_is base n h)

pub digits-length : (base n x : ℕ) → length (digits_of base n x) ≡ n
unfolding digits_of
digits-length base zero x = refl
digits-length base (suc n) x = ap suc (digits-length base n x)

pub decimal-length : (x : ℕ) → length (decimal_of x) ≤ 5
decimal-length x = rw (digits-length 10 (places_of x) x) (go (ltb x 10) (ltb x 100) (ltb x 1000) (ltb x 10000))
  where
    go : (a b c d : Bool) → cond a 1 (cond b 2 (cond c 3 (cond d 4 5))) ≤ 5
    go true b c d = omega arith
    go false true c d = omega arith
    go false false true d = omega arith
    go false false false true = omega arith
    go false false false false = omega arith
