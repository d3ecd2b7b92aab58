-- Shifts and masks tied to remainders: one law over the width of the whole, the shift and the width of the field.
-- Assumes nothing.
use mathlib.Core.Path.{◌≡◌, refl, sym, ◌∙◌, ap}
use mathlib.Core.Bool.{Bool, true, false}
use Prim.Native.Nat.{ℕ, ◌+◌, ◌-◌, ◌*◌, ◌/◌, ◌%◌, ◌^◌, ◌<◌, ◌≤◌}
use native.Mathlib.Nat.{add_comm, div-eq_of_lt, div-one, lt_of_lt_of_le}
use native.Mathlib.Omega.{arith}
use lib.Pow.{shl_exact, pow_mono}
use lib.Bits.{bit_and, bit_or, and_mask, or_shifted_r}
use lib.Dec.{eqb}
use Rattle.wire.specs.Field.{bits_at, flag_at, bit}

-- a field is read: shifted down and masked
pub masked : (b shift width : ℕ) → bit_and (b / 2 ^ shift) (2 ^ width - 1) ≡ bits_at b shift width
masked b shift width = and_mask (b / 2 ^ shift) width

-- the lowest field is masked alone
pub masked_low : (b width : ℕ) → bit_and b (2 ^ width - 1) ≡ bits_at b 0 width
masked_low b width = and_mask b width ∙ ap (λ (x : ℕ). x % 2 ^ width) (sym (div-one b))

pub flag-masked : (b shift : ℕ) → eqb (bit_and (b / 2 ^ shift) 1) 1 ≡ flag_at b shift
flag-masked b shift = ap (λ (x : ℕ). eqb x 1) (masked b shift 1)

-- above its highest bit a byte has no flag
pub flag-above : (b shift : ℕ) → b < 2 ^ 8 → 7 < shift → false ≡ flag_at b shift
flag-above b shift hb h = sym (ap (λ (x : ℕ). eqb (x % 2) 1) (div-eq_of_lt (lt_of_lt_of_le hb (pow_mono {i = 8} {j = shift} (omega arith)))))

-- a field is written above what stands there already: w bits in all, the field has j bits from k on
pub above : (w j k : ℕ) {t lo : ℕ} (x : ℕ) → t ≡ lo → lo < 2 ^ k → x < 2 ^ j → j + k ≤ w → bit_or t ((x * 2 ^ k) % 2 ^ w) ≡ lo + x * 2 ^ k
above w j k {t} {lo} x e hl hx fits =
    ap (λ (u : ℕ). bit_or u ((x * 2 ^ k) % 2 ^ w)) e ∙ ap (bit_or lo) (shl_exact j k w hx fits) ∙ or_shifted_r x k lo hl ∙ add_comm (x * 2 ^ k) lo

-- a flag's bit
pub bit-lt : (x : Bool) → bit x < 2
bit-lt true = omega arith
bit-lt false = omega arith

pub bit-back : (x : Bool) → eqb (bit x) 1 ≡ x
bit-back true = refl
bit-back false = refl

-- a byte that holds nothing but that flag
pub flag-bit : (x : Bool) → flag_at (bit x) 0 ≡ x
flag-bit true = refl
flag-bit false = refl
