-- A turn of the loop over a direction's sync managers: one that uses no entry, one that is laid.
-- Assumes nothing.
use mathlib.Core.Path.{◌≡◌, refl, sym, ◌∙◌}
use mathlib.Core.List.{List, ◌∷◌}
use Prim.Native.Nat.{ℕ, ◌+◌, ◌*◌, ◌%◌, ◌<◌, ◌≤◌, min}
use native.Mathlib.Omega.{arith}
use Rattle.std.specs.Prelude.{Some, None, Result, Ok, Err}
use Rattle.wire.specs.Outcome.{refused, accepted, number_of}
use Rattle.wire.specs.declared.Reason.{Reason}
use Rattle.sheet.specs.Sheet.{manager_count, manager_place, manager_at}
use Rattle.channels.specs.Channels.{size_at}
use Rattle.passes.specs.Handed.{Short}
use Rattle.entries.specs.declared.uses.Uses.{Uses}
use Rattle.entries.specs.Lay.{entry_used, uses_of, use_at, laid_one, Lays}
use Rattle.entries.proofs.Taken.{uses_at, uses-end, uses-next}
use Rattle.entries.proofs.Laying.{Laying, laying-starts, laying-at, laying-ends, laying-stops, laying-turns}

-- before the turn with the number k: where the next use begins, and what is still to be laid
pub record At (u : Uses) (offset : ℕ) (before : List (List ℕ)) (k end : ℕ) (now : List (List ℕ)) : Type 0 where
  pub low : end ≤ offset + 65535 * k
  pub laying : Laying u.direction offset (uses_of u) before (uses_at u k) end now

pub turn-starts : (u : Uses) (offset : ℕ) (entries : List (List ℕ)) → Short entries → At u offset entries 0 offset entries
turn-starts u offset entries s = record { low = omega arith; laying = laying-starts u.direction offset (uses_of u) entries s }

module _ {u : Uses} {offset : ℕ} {before : List (List ℕ)} {k end : ℕ} {now : List (List ℕ)} (l : At u offset before k end now) where
  abbrev Next : ℕ → List (List ℕ) → Type 0
  Next o es = At u offset before (k + 1) o es

  -- by another name
  pub turn_at : {o : ℕ} {es : List (List ℕ)} → o ≡ end → es ≡ now → At u offset before k o es
  turn_at e n = record { low = (let h = l.low in omega arith); laying = laying-at l.laying refl e n }

  -- what is laid in the end
  abbrev Told : Result ℕ Reason → List (List ℕ) → Type 0
  Told said es = Lays u.direction offset (uses_of u) before said es

  -- after the last
  pub turn_end : k ≤ 16 → min (manager_count u.sheet.now) 16 ≤ k → Told (Ok end) now
  turn_end f h = record { says = laying-ends l.laying (uses-end u k h); near = (let o = l.low in omega arith) }

  module _ (h : k < min (manager_count u.sheet.now) 16) where
    -- it uses no entry
    pub turn-skip : entry_used u k ≡ None → Next end now
    turn-skip t = record { low = (let o = l.low in omega arith); laying = laying-at l.laying (uses-next u k h t) refl refl }

    module _ {size : ℕ} (s : size ≡ size_at u.sizes k) {e at : ℕ} (t : entry_used u k ≡ Some e) (p : at ≡ (manager_at u.sheet.now (manager_place k)).start_addr) where
      left : uses_at u k ≡ use_at e size at ∷ uses_at u (k + 1)
      left = uses-next u k h t ∙ (λ i. use_at e (sym s i) (sym p i) ∷ uses_at u (k + 1))

      -- 8, or laid
      pub turn-stops : (after : List (List ℕ)) (start : ℕ) (n : Reason) → refused (number_of n) ≡ laid_one u.direction start (use_at e size at) now → Told (Err n) after
      turn-stops after start n d = record { says = laying-stops l.laying left start _ d; near = omega arith }

      pub turn-laid : {after : List (List ℕ)} → accepted after ≡ laid_one u.direction (end % 4294967296) (use_at e size at) now → size ≤ 65535 → Next (end + size) after
      turn-laid d f = record { low = (let o = l.low in omega arith); laying = laying-turns l.laying left d refl }
