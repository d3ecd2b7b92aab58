-- Counting as code goes: a turn of the loop that lays the sizes, its end, and what each way through the call answers.
-- Assumes nothing.
use mathlib.Core.Path.{◌≡◌, refl, sym, ◌∙◌, ap, subst, transport}
use mathlib.Core.Bool.{Bool, true, false, cond}
use mathlib.Core.List.{List, [], ◌∷◌, ◌++◌}
use mathlib.Core.Option.{Option, none, some}
use Prim.Native.Nat.{ℕ, ◌+◌, ◌-◌, ◌*◌, ◌≤◌}
use native.Mathlib.Numerals.{add-one}
use native.Mathlib.Omega.{arith}
use lib.ListN.{length}
use lib.Dec.{eqb}
use borrow.Author.Tests.{eq-eqb, ne_eqb}
use Rattle.std.specs.Prelude as std
use Rattle.std.specs.Option.{option_or}
use Rattle.wire.specs.Outcome.{refused, accepted, when, decide}
use Rattle.wire.proofs.Order.{passed, stopped}
use Rattle.pdi.specs.Unit.{bytes_of}
use Rattle.pdi.specs.declared.ByteLen.{ByteLen}
use Rattle.pdi.specs.Offset.{past_end, offset_at}
use Rattle.sheet.specs.Device.{Data}
use Rattle.sheet.specs.Sheet.{sheet_refusals, sheet_data, managers_in}
use Rattle.sheet.specs.declared.SyncManager.{SyncManager}
use Rattle.sheet.proofs.Managers.{manager-count}
use Rattle.channels.specs.Channels.{size_at}
use Rattle.pdo.specs.declared.PdoDirection.{PdoDirection}
use Rattle.pdo.specs.Direction.{usage_of}
use Rattle.pdo.specs.Bits.{Piece, path_kind, bits_of, pieces_from, pieces_of}
use Rattle.passes.specs.Use.{Use, own, total, size_of}
use Rattle.passes.specs.Pass.{wanted_refusals}
use Rattle.passes.specs.Handed.{sizes_of, pieces_by}
use Rattle.passes.proofs.Pieces.{with_piece, bytes_back, uses-same, exact-at}
use Rattle.wanted.proofs.Asking.{size-alone}
use Rattle.wanted.proofs.Answered.{sized-accepted}
use Rattle.translation.specs.Translate.{within, named, reached_of}
use Rattle.counting.specs.declared.Position.{Position}
use Rattle.counting.specs.Found.{spot_here, or_next, LaysOut}
use Rattle.counting.specs.Count.{Spot, spot_at, spot_in, found_of, count}

-- one sync manager: not holding the address, or holding it
module _ (start size k address a : ℕ) where
  pub not-held : within start size a ≡ false → none ≡ spot_here start size k address a
  not-held h = rw h

  pub held_at :
      (x : std.Option ℕ) → within start size a ≡ true → reached_of x ≡ named (address + (a - start))
      → some (record { manager = k; byte = a - start; device = reached_of x }) ≡ spot_here start size k address a
  held_at x g e = rw g (λ i. some (record { manager = k; byte = a - start; device = e i }))

-- the first of two positions
earlier-is : (x y : std.Option Position) → found_of (option_or x y) ≡ or_next (found_of x) (found_of y)
earlier-is std.None y = refl
earlier-is (std.Some p) y = refl

next-next : (x y z : Option Spot) → or_next (or_next x y) z ≡ or_next x (or_next y z)
next-next none y z = refl
next-next (some x) y z = refl

next-none : (x : Option Spot) → or_next x none ≡ x
next-none none = refl
next-none (some x) = refl

-- the first piece, then the rest
spot-first :
    (start a : ℕ) (p : Piece) (ps : List Piece)
    → or_next (spot_here start (bytes_of p.bits) p.number p.address a) (spot_in (start + bytes_of p.bits) ps a) ≡ spot_in start (p ∷ ps) a
unfolding spot_in
spot-first start a p ps = go (within start (bytes_of p.bits) a)
  where
    spot : Spot
    spot = spot_at p.number p.address (a - start)

    rest : Option Spot
    rest = spot_in (start + bytes_of p.bits) ps a

    go : (t : Bool) → or_next (cond t (some spot) none) rest ≡ cond t (some spot) rest
    go true = refl
    go false = refl

-- `end` and what is found so far, with `rest` still to be laid, beside all the pieces from `start` on
pub record Laying (ps : List Piece) (start a : ℕ) (rest : List Piece) (end : ℕ) (found : std.Option Position) : Type 0 where
  pub ends : end + total (own rest) ≡ start + total (own ps)
  pub leaves : or_next (found_of found) (spot_in end rest a) ≡ spot_in start ps a

pub laying-starts : (ps : List Piece) (start a : ℕ) → Laying ps start a ps start std.None
laying-starts ps start a = record { ends = refl; leaves = refl }

module _ {ps : List Piece} {start a end : ℕ} {found : std.Option Position} where
  -- one more piece is laid
  takes :
      {p : Piece} {rest : List Piece} (here : std.Option Position) {both : std.Option Position} {next : ℕ} → Laying ps start a (p ∷ rest) end found
      → next ≡ end + bytes_of p.bits → found_of here ≡ spot_here end (bytes_of p.bits) p.number p.address a → both ≡ option_or found here
      → Laying ps start a rest next both
  unfolding total own
  takes {p} {rest} here {both} {next} l n h b =
      let s = spot_here end (bytes_of p.bits) p.number p.address a in
      let e : end + (bytes_of p.bits + total (own rest)) ≡ start + total (own ps) = l.ends in
      record {
        ends = omega arith;
        leaves =
            (λ i. or_next ((ap found_of b ∙ earlier-is found here ∙ ap (or_next (found_of found)) h) i) (spot_in (n i) rest a)) ∙ next-next (found_of found) s (spot_in (end + bytes_of p.bits) rest a)
            ∙ ap (or_next (found_of found)) (spot-first end a p rest) ∙ l.leaves;
      }

  -- a turn at the sync manager with the number k: it has the usage, or not
  module _ (usage : ℕ) (bits : ℕ → ℕ) (k : ℕ) {m : SyncManager} {ms l : List SyncManager} (e : l ≡ m ∷ ms) (laying : Laying ps start a (pieces_from usage bits k l) end found) where
    pieces : (b : Bool) → eqb m.usage_type usage ≡ b → pieces_from usage bits k l ≡ with_piece b k (bits k) m.start_addr (pieces_from usage bits (k + 1) ms)
    unfolding pieces_from
    pieces b h = rw (e, h, add-one)

    pub laying-takes :
        {size next : ℕ} (here : std.Option Position) {both : std.Option Position} → m.usage_type ≡ usage → size ≡ bytes_of (bits k) → next ≡ end + size
        → found_of here ≡ spot_here end size k m.start_addr a → both ≡ option_or found here → Laying ps start a (pieces_from usage bits (k + 1) ms) next both
    laying-takes {size} {next} here {both} u s n h b =
        let is = pieces true (eq-eqb m.usage_type usage u) in
        takes here (subst (λ (qs : List Piece). Laying ps start a qs end found) is laying)
        (n ∙ ap (λ (x : ℕ). end + x) s) (h ∙ ap (λ (x : ℕ). spot_here end x k m.start_addr a) s) b

    pub laying-skips : {next : ℕ} {same : std.Option Position} → (m.usage_type ≡ usage → ⊥) → next ≡ end → same ≡ found → Laying ps start a (pieces_from usage bits (k + 1) ms) next same
    laying-skips u n s = transport (λ i. Laying ps start a (pieces false (ne_eqb m.usage_type usage u) i) (sym n i) (sym s i)) laying

  -- nothing is left
  pub laying-ends : (usage : ℕ) (bits : ℕ → ℕ) (k : ℕ) {l : List SyncManager} → l ≡ [] → Laying ps start a (pieces_from usage bits k l) end found → LaysOut ps start a end found
  unfolding pieces_from total own spot_in
  laying-ends usage bits k {l} e laying =
      let none_left : pieces_from usage bits k l ≡ [] = rw e in
      let all = subst (λ (qs : List Piece). Laying ps start a qs end found) none_left laying in
      let s : end + 0 ≡ start + total (own ps) = all.ends in
      record { ends = omega arith; finds = sym (next-none (found_of found)) ∙ all.leaves }

-- pieces of the same uses are reached alike
spots_of : ℕ → List Use → ℕ → Option Spot
spots_of start [] a = none
spots_of start (u ∷ us) a = cond (within start u.size a) (some (spot_at u.entry u.at (a - start))) (spots_of (start + u.size) us a)

spots-are : (start a : ℕ) (ps : List Piece) → spot_in start ps a ≡ spots_of start (own ps) a
unfolding spot_in own spots_of
spots-are start a [] = refl
spots-are start a (p ∷ ps) =
    ap (cond (within start (bytes_of p.bits) a) (some (spot_at p.number p.address (a - start)))) (spots-are (start + bytes_of p.bits) a ps)

-- the sizes that are handed on make the uses that the pieces make
module _ (d : Data) (ws : List ℕ) (r : PdoDirection) (few : length d.managers ≤ 16) where
  own_is : own (pieces_by (usage_of r) (sizes_of d ws r) d.managers) ≡ own (pieces_of d ws r)
  unfolding pieces_of
  own_is =
      uses-same true (λ k. k) (λ k. k) (usage_of r) (λ k. 8 * size_at (sizes_of d ws r) k) (λ k. bits_of (path_kind d r) k d.pdos ws) d.managers
      (λ j l e. bytes_back (size_at (sizes_of d ws r) j) ∙ size-alone d ws r j (omega arith) ∙ ap bytes_of (exact-at d ws r j l e)) (λ j l e. refl)

  handed-ends : (offset : ℕ) → offset + total (own (pieces_by (usage_of r) (sizes_of d ws r) d.managers)) ≡ offset + size_of d ws r
  unfolding size_of
  handed-ends offset = ap (λ (us : List Use). offset + total us) own_is

  handed-finds : (offset a : ℕ) → spot_in offset (pieces_by (usage_of r) (sizes_of d ws r) d.managers) a ≡ spot_in offset (pieces_of d ws r) a
  handed-finds offset a = spots-are offset a _ ∙ ap (λ (us : List Use). spots_of offset us a) own_is ∙ sym (spots-are offset a (pieces_of d ws r))

-- each way through the call
module _ (sheet ws : List ℕ) (r : PdoDirection) (offset a : ℕ) where
  abbrev d : Data
  d = sheet_data sheet

  pub unwanted-counts : (n : ℕ) → refused n ≡ decide (sheet_refusals sheet ++ wanted_refusals d ws r) (sizes_of d ws r) → refused n ≡ count r a sheet ws offset
  unfolding count
  unwanted-counts n e =
      stopped (sheet_refusals sheet ++ wanted_refusals d ws r) (sizes_of d ws r) n (decide (when 9 (past_end (offset + size_of d ws r)) ∷ []) (spot_in offset (pieces_of d ws r) a)) e

  module _ (x : List ByteLen) (e : accepted x ≡ decide (sheet_refusals sheet ++ wanted_refusals d ws r) (sizes_of d ws r)) {usage end : ℕ} {found : std.Option Position} (u : usage ≡ usage_of r)
      (lays : LaysOut (pieces_by usage x (managers_in sheet)) offset a end found) where
    lays_all : LaysOut (pieces_by (usage_of r) (sizes_of d ws r) d.managers) offset a end found
    lays_all =
        let w = sized-accepted sheet ws r x e in
        subst (λ (ps : List Piece). LaysOut ps offset a end found) (λ i. pieces_by (u i) (w.2 i) (w.0.few i)) lays

    few : length d.managers ≤ 16
    few = let w = (sized-accepted sheet ws r x e).0.managers in omega (arith, manager-count sheet)

    rest : count r a sheet ws offset ≡ decide (when 9 (past_end end) ∷ []) (spot_in offset (pieces_of d ws r) a)
    unfolding count
    rest =
        let t : offset + size_of d ws r ≡ end = sym (lays_all.ends ∙ handed-ends d ws r few offset) in
        passed (sheet_refusals sheet ++ wanted_refusals d ws r) (sizes_of d ws r) x (decide (when 9 (past_end (offset + size_of d ws r)) ∷ []) (spot_in offset (pieces_of d ws r) a)) e
        ∙ ap (λ (y : ℕ). decide (when 9 (past_end y) ∷ []) (spot_in offset (pieces_of d ws r) a)) t

    pub nine-counts : (n : ℕ) → refused n ≡ offset_at end → refused n ≡ count r a sheet ws offset
    nine-counts n m = stopped (when 9 (past_end end) ∷ []) end n (accepted (spot_in offset (pieces_of d ws r) a)) m ∙ sym rest

    pub found-counts : (o : ℕ) → accepted o ≡ offset_at end → accepted (found_of found) ≡ count r a sheet ws offset
    found-counts o m =
        ap accepted (lays_all.finds ∙ handed-finds d ws r few offset a)
        ∙ sym (rest ∙ passed (when 9 (past_end end) ∷ []) end o (accepted (spot_in offset (pieces_of d ws r) a)) m)
