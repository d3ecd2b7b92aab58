-- The front of a room that a portion goes behind, over any lengths.
-- Assumes nothing.
use mathlib.Core.Path.{◌≡◌, refl, sym, ◌∙◌, ap}
use mathlib.Core.List.{List, [], ◌∷◌, ◌++◌, append_assoc, append-nil}
use Prim.Native.Nat.{ℕ, zero, suc, ◌+◌, ◌-◌, ◌<◌, ◌≤◌}
use native.Mathlib.Omega.{arith}
use lib.ListN.{length, take, drop, length-append}
use lib.Seq.{take_all, length-take-le}
use Rattle.wire.specs.Room.{over}
use Rattle.wire.proofs.Copied.{over-front, over-same}
use Rattle.area.specs.Area.{stored_at}
use Rattle.area.proofs.Entry.{stored_there, stored-not}

-- the first n of two lists joined: of the second as many as the first leaves
pub take-joined : (n : ℕ) (xs ys : List ℕ) → take n (xs ++ ys) ≡ take n xs ++ take (n - length (take n xs)) ys
take-joined zero xs ys = refl
take-joined (suc n) [] ys = let e : suc n ≡ suc n - 0 = omega arith in ap (λ (k : ℕ). take k ys) e
take-joined (suc n) (x ∷ xs) ys =
    let e : n - length (take n xs) ≡ suc n - suc (length (take n xs)) = omega arith in
    ap (λ (r : List ℕ). x ∷ r) (take-joined n xs ys ∙ ap (λ (k : ℕ). take n xs ++ take k ys) e)

-- bytes stored behind the first `at` of a room: the room with the two joined over its front
pub stored-behind : (at : ℕ) (e room : List ℕ) → at + length e ≤ length room → stored_at at e room ≡ over (take at room ++ e) room
stored-behind at e room h =
    let front : length (take at room) ≡ at = length-take-le at room (omega arith) in
    let long : length (take at room ++ e) ≡ at + length e = length-append (take at room) e ∙ ap (λ (k : ℕ). k + length e) front in
    sym (stored_there at e room h)
    ∙ sym (append_assoc (take at room) e (drop (at + length e) room))
    ∙ ap (λ (k : ℕ). (take at room ++ e) ++ drop k room) (sym long)
    ∙ sym (over-front (take at room ++ e) room (omega arith))

-- no bytes behind more than a room has: it stays
pub stored-nowhere : (at : ℕ) (room : List ℕ) → length room < at → stored_at at [] room ≡ over (take at room ++ []) room
stored-nowhere at room h =
    let all : take at room ++ [] ≡ room = append-nil (take at room) ∙ take_all at room (omega arith) in
    sym (stored-not at [] room (omega arith)) ∙ sym (ap (λ (l : List ℕ). over l room) all ∙ over-same room room refl)
