-- The PDOs of both types in dump order: how many there are, and how they stand in the room, one category's behind the other's.
-- Assumes nothing.
use mathlib.Core.Path.{◌≡◌, sym, ◌∙◌, ap, ap₂}
use mathlib.Core.Bool.{Bool, true, false, cond}
use mathlib.Core.List.{List, ◌++◌}
use Prim.Native.Nat.{ℕ, ◌+◌, ◌≤◌}
use native.Mathlib.Omega.{arith}
use lib.ListN.{length, length-append}
use Rattle.wire.specs.Room.{over}
use Rattle.area.specs.Area.{stored_at}
use Rattle.sheet.specs.Device.{Pdo}
use Rattle.writer.proofs.Parts.{pdos_bytes}
use Rattle.writer.proofs.Stored.{stored_next, stored-front}
use Rattle.dump.specs.Parts.{parts_of}
use Rattle.dump.specs.Records.{pdo_long, pdos_for}
use Rattle.dump.specs.Looked.{front_content, pdos_from}
use Rattle.dump.proofs.Pdos.{pdos-append, pdos-count}

module _ (ps qs : List Pdo) where
  -- in either order there are as many
  either-count : (b : Bool) → length (cond b (ps ++ qs) (qs ++ ps)) ≡ length ps + length qs
  either-count true = length-append ps qs
  either-count false = length-append qs ps ∙ (let z : length qs + length ps ≡ length ps + length qs = omega arith in z)

  -- one category's behind the other's, from the front of the room on
  pub both-put : (room : List ℕ) {one two : List ℕ} {next : ℕ} → one ≡ stored_at 0 (pdos_bytes ps) room → next ≡ length (pdos_bytes ps) → two ≡ stored_at next (pdos_bytes qs) one
      → length (pdos_bytes ps) + length (pdos_bytes qs) ≤ length room → two ≡ over (pdos_bytes (ps ++ qs)) room
  both-put room e n f h =
      let l = length-append (pdos_bytes ps) (pdos_bytes qs) in
      f
      ∙ stored_next 0 (pdos_bytes ps) (pdos_bytes qs) room (omega arith) e (omega arith)
      ∙ stored-front (pdos_bytes ps ++ pdos_bytes qs) room (omega arith)
      ∙ ap (λ (x : List ℕ). over x room) (sym (pdos-append ps qs))

pub pdos-counted :
    (b : Bool) (is os : List (List ℕ)) → length (pdos_from b is os) ≡ length (parts_of pdo_long (front_content is)) + length (parts_of pdo_long (front_content os))
unfolding pdos_from
pdos-counted b is os =
    either-count (pdos_for 1 (front_content is)) (pdos_for 2 (front_content os)) b
    ∙ ap₂ ◌+◌ (pdos-count 1 (front_content is) (omega arith)) (pdos-count 2 (front_content os) (omega arith))

-- the contents, as they were taken
pub in_order : (b : Bool) (is os : List (List ℕ)) {i o : List ℕ} → i ≡ front_content is → o ≡ front_content os
    → cond b (pdos_for 1 i ++ pdos_for 2 o) (pdos_for 2 o ++ pdos_for 1 i) ≡ pdos_from b is os
unfolding pdos_from
in_order b is os x y = λ k. cond b (pdos_for 1 (x k) ++ pdos_for 2 (y k)) (pdos_for 2 (y k) ++ pdos_for 1 (x k))
