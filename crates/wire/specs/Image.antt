-- What the register images share, whatever their length: bytes, and parts of them that are reserved.
-- Assumes nothing.
use Rattle.std.specs.Prelude.{◌≡◌, Bool, not, List, [], ◌∷◌, ℕ, ◌<◌, length, get_or, eqb}
use Rattle.wire.specs.Field.{bits_at}

-- 1: a single image isn't n bytes
abbrev pub not_long : ℕ → List ℕ → Bool
not_long n l = not (eqb (length l) n)

-- nothing but bytes
pub record Bytes (l : List ℕ) : Type 0 where
  pub below : (k : ℕ) → get_or l k 0 < 256

-- n bytes
pub record Image (n : ℕ) (l : List ℕ) : Type 0 where
  pub long : length l ≡ n
  pub bytes : Bytes l

-- a part of an image: its byte, its lowest bit there, and how many bits it has
pub record Part : Type 0 where
  pub byte : ℕ
  pub shift : ℕ
  pub width : ℕ

abbrev pub part : ℕ → ℕ → ℕ → Part
part byte shift width = record { byte = byte; shift = shift; width = width }

-- each of these parts of the image is 0
abbrev pub Clear : List Part → List ℕ → Type 0
Clear [] l = Unit {0}
Clear (p ∷ ps) l = (bits_at (get_or l p.byte 0) p.shift p.width ≡ 0) × Clear ps l
