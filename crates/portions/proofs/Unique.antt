-- Each public function's contract leaves one answer, and one content of the room lent to it.
-- Assumes nothing.
use mathlib.Core.Path.{◌≡◌, refl}
use mathlib.Core.List.{List}
use Prim.Native.Nat.{ℕ}
use Rattle.std.specs.Prelude.{Result}
use Rattle.wire.specs.declared.Reason.{Reason}
use Rattle.wire.proofs.Pins.{Pins, with_room, same, same_result}
use Rattle.sheet.proofs.Unique.{same_read}
use Rattle.portions.specs.declared.State.{State}
use Rattle.portions.specs.Portions.{Takes}
use Rattle.portions.proofs.begin.Reads as begin
use Rattle.portions.proofs.take.Reads as take
use Rattle.portions.proofs.end.Reads as end

pub begin-pins : Pins begin.Post (λ κs r s. r)
begin-pins κs a x y s t p q = same p q

same_taken : (st : State) (portion room : List ℕ) (x y : Result State Reason) (l m : List ℕ) → Takes st portion room x l → Takes st portion room y m → with_room x l ≡ with_room y m
same_taken st portion room x y l m p q =
    let a : x ≡ y = same_result (λ new. new) (λ new. new) (λ new. refl) p.says q.says in
    λ i. (a i, same p.holds q.holds i)

pub take-pins : Pins take.Post (λ κs r s. with_room r s.1.1.0.now)
take-pins κs a x y s t p q = same_taken _ _ _ x y _ _ p q

pub end-pins : Pins end.Post (λ κs r s. r)
end-pins κs a x y s t p q = same_read _ x y p q
