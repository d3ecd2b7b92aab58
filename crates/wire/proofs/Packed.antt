-- Fields of a byte above each other, from bit 0 up: each is read where it was written. One law over any list of fields.
-- Assumes nothing.
use mathlib.Core.Path.{◌≡◌, sym, ◌∙◌, ap, subst}
use mathlib.Core.Bool.{Bool}
use mathlib.Core.List.{List, [], ◌∷◌}
use Prim.Native.Nat.{ℕ, ◌+◌, ◌*◌, ◌/◌, ◌%◌, ◌^◌, ◌<◌}
use native.Mathlib.Nat.{div-one}
use native.Mathlib.Omega.{arith}
use lib.Arith.{digits_lt}
use lib.Pow.{pow_pos, pow-add, shr-shr, high, low}
use Rattle.wire.specs.Field.{bits_at, bit}
use Rattle.wire.proofs.Fields.{bit-lt}

-- how many bits a field has, and the number that they are
pub record Field : Type 0 where
  pub width : ℕ
  pub value : ℕ
  pub within : value < 2 ^ width

abbrev pub field : (width value : ℕ) → value < 2 ^ width → Field
field width value h = record { width = width; value = value; within = h }

abbrev pub flag : Bool → Field
flag x = field 1 (bit x) (bit-lt x)

abbrev pub reserve : ℕ → Field
reserve width = field width 0 (pow_pos width)

-- the byte that fields make up, and how many bits it has
abbrev pub packed : List Field → ℕ
packed [] = 0
packed (f ∷ fs) = packed fs * 2 ^ f.width + f.value

abbrev pub widths : List Field → ℕ
widths [] = 0
widths (f ∷ fs) = widths fs + f.width

-- each field is read from the byte, from bit `at` up
abbrev pub Says : ℕ → ℕ → List Field → Type 0
Says b at [] = Unit {0}
Says b at (f ∷ fs) = (bits_at b at f.width ≡ f.value) × Says b (at + f.width) fs

says : (b at : ℕ) (fs : List Field) → b / 2 ^ at ≡ packed fs → Says b at fs
says b at [] e = tt
says b at (f ∷ fs) e = (
  ap (λ (x : ℕ). x % 2 ^ f.width) e ∙ low (packed fs) f.width f.within,
  says b (at + f.width) fs (sym (shr-shr b at f.width) ∙ ap (λ (x : ℕ). x / 2 ^ f.width) e ∙ high (packed fs) f.width f.within),
)

packed_lt : (fs : List Field) → packed fs < 2 ^ widths fs
packed_lt [] = omega arith
packed_lt (f ∷ fs) = subst (λ (x : ℕ). packed (f ∷ fs) < x) (sym (pow-add 2 (widths fs) f.width)) (digits_lt (packed_lt fs) f.within)

-- what was packed is read, and has no more bits than its fields together
pub record Laid (b : ℕ) (fs : List Field) : Type 0 where
  pub fields : Says b 0 fs
  pub small : b < 2 ^ widths fs

pub laid : {b : ℕ} (fs : List Field) → b ≡ packed fs → Laid b fs
laid {b} fs e = record { fields = says b 0 fs (div-one b ∙ e); small = subst (λ (x : ℕ). x < 2 ^ widths fs) (sym e) (packed_lt fs) }
