-- Each public function's contract leaves one answer.
-- Assumes nothing.
use mathlib.Core.Path.{◌≡◌, refl}
use mathlib.Core.Option.{Option, none, some}
use Rattle.std.specs.Prelude as std
use Rattle.wire.specs.Outcome.{Outcome}
use Rattle.wire.specs.declared.Reason.{Reason}
use Rattle.wire.proofs.Pins.{Pins, same_result}
use Rattle.translation.proofs.Unique.{reached_back, reached-determined}
use Rattle.counting.specs.declared.Position.{Position}
use Rattle.counting.specs.Count.{Spot, found_of, counted_of}
use Rattle.counting.proofs.count.Reads as count

-- what it says determines a position
abbrev position_back : Spot → Position
position_back s = record { sync_manager = s.manager; byte = s.byte; device = reached_back s.device }

abbrev found_back : Option Spot → std.Option Position
found_back none = std.None
found_back (some s) = std.Some (position_back s)

found-determined : (x : std.Option Position) → found_back (found_of x) ≡ x
found-determined std.None = refl
found-determined (std.Some p) = λ i. std.Some (record { sync_manager = p.sync_manager; byte = p.byte; device = reached-determined p.device i })

-- so what says number and values of the answer leaves one
pub counted-once : {x y : std.Result (std.Option Position) Reason} {b : Outcome (Option Spot)} → counted_of x ≡ b → counted_of y ≡ b → x ≡ y
counted-once p q = same_result found_of found_back found-determined p q

pub count-pins : Pins count.Post (λ κs r s. r)
count-pins κs a x y s t p q = counted-once p q
