-- Each public function's contract leaves one answer.
-- Assumes nothing.
use Rattle.std.proofs.Common.{◌≡◌, refl, ℕ}
use Rattle.std.specs.Prelude as std
use Rattle.std.proofs.Math.Option.{Option, none, some}
use Rattle.wire.proofs.Pins.{Pins, same, same_by, same_result}
use Rattle.translation.specs.Translate.{reached_of}
use Rattle.translation.proofs.named.Reads as named
use Rattle.translation.proofs.within.Reads as within
use Rattle.translation.proofs.translate.Reads as translate

-- what it says determines a device address
abbrev pub reached_back : Option ℕ → std.Option ℕ
reached_back none = std.None
reached_back (some x) = std.Some x

pub reached-determined : (x : std.Option ℕ) → reached_back (reached_of x) ≡ x
reached-determined std.None = refl
reached-determined (std.Some x) = refl

pub named-pins : Pins named.Post (λ κs r s. r)
named-pins κs a x y s t p q = same_by reached_of reached_back reached-determined p q

pub within-pins : Pins within.Post (λ κs r s. r)
within-pins κs a x y s t p q = same p q

pub translate-pins : Pins translate.Post (λ κs r s. r)
translate-pins κs a x y s t p q = same_result reached_of reached_back reached-determined p q
