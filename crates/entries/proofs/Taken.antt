-- The uses of a direction's sync managers from a number on: a turn of a loop over them.
-- Assumes nothing.
use mathlib.Core.Path.{◌≡◌, refl, sym, ◌∙◌, ap}
use mathlib.Core.Bool.{Bool, true, false, cond}
use mathlib.Core.List.{List, [], ◌∷◌}
use Prim.Native.Nat.{ℕ, ◌+◌, ◌*◌, ◌<◌, ◌≤◌, min}
use native.Mathlib.Numerals.{add-one}
use native.Mathlib.Omega.{arith}
use lib.ListN.{drop}
use lib.Dec.{eqb, ltb}
use Rattle.std.specs.Prelude.{Option, Some, None}
use Rattle.sheet.specs.declared.SyncManager.{SyncManager}
use Rattle.sheet.specs.Sheet.{manager_count, manager_place, manager_at, managers_in}
use Rattle.sheet.proofs.Managers.{front-manager, front-over}
use Rattle.pdo.specs.Direction.{usage_of}
use Rattle.pdo.specs.Bits.{Piece, pieces_from}
use Rattle.channels.specs.Channels.{size_at}
use Rattle.passes.specs.declared.Route.{Route}
use Rattle.passes.specs.declared.Route.TheVariants.{Own, Given}
use Rattle.passes.specs.Use.{Use, own, given}
use Rattle.passes.specs.Handed.{entry_by, by_route}
use Rattle.passes.proofs.Pieces.{some_bytes, bytes_back}
use Rattle.entries.specs.declared.uses.Uses.{Uses}
use Rattle.entries.specs.Lay.{entry_taken, entry_used, use_at}

-- the uses with that of a sync manager in front, if it takes an entry
abbrev pub with_taken : Option ℕ → ℕ → ℕ → List Use → List Use
with_taken None size at us = us
with_taken (Some e) size at us = use_at e size at ∷ us

-- what one piece adds to the uses: eight bits for each byte are as many bytes, and some exactly if those are
one-use :
    (route : Route) (k size at : ℕ) (ps : List Piece) → by_route route (record { number = k; bits = 8 * size; address = at } ∷ ps)
    ≡ with_taken (entry_taken route k size) size at (by_route route ps)
unfolding given own
one-use Own k size at ps = λ i. use_at k (bytes_back size i) at ∷ own ps
one-use (Given entries) k size at ps =
    let e = entry_by entries k in
    let us = given (entry_by entries) ps in
    let some : ltb 0 (8 * size) ≡ ltb 0 size = sym (some_bytes (8 * size)) ∙ ap (ltb 0) (bytes_back size) in
    (λ i. cond (some i) (use_at e (bytes_back size i) at ∷ us) us) ∙ go (ltb 0 size) e us
  where
    go : (b : Bool) (e : ℕ) (us : List Use) → cond b (use_at e size at ∷ us) us ≡ with_taken (cond b (Some e) None) size at us
    go true e us = refl
    go false e us = refl

module _ (u : Uses) where
  abbrev ms : List SyncManager
  ms = managers_in u.sheet.now

  abbrev usage : ℕ
  usage = usage_of u.direction

  abbrev pieces_on : ℕ → List SyncManager → List Piece
  pieces_on k rest = pieces_from usage (λ j. 8 * size_at u.sizes j) k rest

  abbrev pieces : ℕ → List Piece
  pieces k = pieces_on k (drop k ms)

  -- from the number k on
  abbrev pub uses_at : ℕ → List Use
  uses_at k = by_route u.route (pieces k)

  pub uses-end : (k : ℕ) → min (manager_count u.sheet.now) 16 ≤ k → uses_at k ≡ []
  unfolding pieces_from given own
  uses-end k h = ap (λ (l : List SyncManager). by_route u.route (pieces_on k l)) (front-over u.sheet.now k h) ∙ none u.route
    where
      none : (r : Route) → by_route r [] ≡ []
      none Own = refl
      none (Given entries) = refl

  module _ (k : ℕ) (h : k < min (manager_count u.sheet.now) 16) where
    abbrev m : SyncManager
    m = manager_at u.sheet.now (manager_place k)

    next : drop k ms ≡ m ∷ drop (k + 1) ms
    next = front-manager u.sheet.now k (omega arith) (omega arith)

    piece : Piece
    piece = record { number = k; bits = 8 * size_at u.sizes k; address = m.start_addr }

    pieces-next : pieces k ≡ cond (eqb m.usage_type usage) (piece ∷ pieces (k + 1)) (pieces (k + 1))
    unfolding pieces_from piece
    pieces-next =
        ap (pieces_on k) next
        ∙ ap (λ (n : ℕ). cond (eqb m.usage_type usage) (piece ∷ pieces_on n (drop (k + 1) ms)) (pieces_on n (drop (k + 1) ms))) (sym (add-one k))

    -- the next one's, if it uses an entry
    pub uses-next : {t : Option ℕ} → entry_used u k ≡ t → uses_at k ≡ with_taken t (size_at u.sizes k) m.start_addr (uses_at (k + 1))
    unfolding piece
    uses-next e =
        ap (by_route u.route) pieces-next ∙ go (eqb m.usage_type usage)
        ∙ ap (λ (o : Option ℕ). with_taken o (size_at u.sizes k) m.start_addr (uses_at (k + 1))) e
      where
        go :
            (b : Bool)
            → by_route u.route (cond b (piece ∷ pieces (k + 1)) (pieces (k + 1)))
            ≡ with_taken (cond b (entry_taken u.route k (size_at u.sizes k)) None) (size_at u.sizes k) m.start_addr (uses_at (k + 1))
        go true = one-use u.route k (size_at u.sizes k) m.start_addr (pieces (k + 1))
        go false = refl
