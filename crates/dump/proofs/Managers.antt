-- SyncM records by number, each at eight times its number: how many there are, what is left behind them, and the loops over them.
-- Assumes nothing.
use mathlib.Core.Path.{◌≡◌, refl, sym, ◌∙◌, ap, subst₂}
use mathlib.Core.Bool.{Bool, true, false, not}
use mathlib.Core.List.{List, [], map}
use Prim.Native.Nat.{ℕ, zero, suc, ◌+◌, ◌*◌, ◌/◌, ◌%◌, ◌≤◌, ◌<◌}
use native.Mathlib.Nat.{add-zero}
use native.Mathlib.Numerals.{add-one}
use native.Mathlib.Omega.{arith}
use lib.ListN.{length, get_or, take, drop, length-drop, length-map, get_or-map}
use lib.Seq.{get_or-take, get_or-drop}
use lib.Dec.{eqb, ltb}
use borrow.Author.Tests.{le-leb, lt-leb, lt-ltb, le-ltb, eqb-true, eqb-false}
use Rattle.std.specs.List.{list_any, range_with_len}
use Rattle.wire.specs.Lists.{list_of, some_of}
use Rattle.wire.specs.Field.{flag_at}
use Rattle.channel_bytes.specs.Bytes.{control_at, unnamed}
use Rattle.sheet.specs.declared.SyncManager.{SyncManager}
use Rattle.sheet.specs.Sheet.{some_unnamed}
use Rattle.dump.specs.Parts.{parts_of, rest_of}
use Rattle.dump.specs.Records.{manager_long, manager_for, nonempty}
use Rattle.dump.proofs.Parts.{whole-fits, Walk, walk_start, walk_here, walk_turn, walk_end}
use Rattle.dump.proofs.Numbered.{list-numbered, some-numbered}

-- the bytes of a record say all of its sync manager
pub manager-front : (l : List ℕ) → manager_for (take 8 l) ≡ manager_for l
manager-front l =
    let at : (k : ℕ) → k < 8 → get_or (take 8 l) k 0 ≡ get_or l k 0 = λ k h. get_or-take 8 l k 0 h in
    λ i.
    record {
      start_addr = at 0 (omega arith) i + 256 * (at 1 (omega arith) i + 256 * 0);
      control = control_at (at 4 (omega arith) i);
      enable = flag_at (at 6 (omega arith) i) 0;
      usage_type = at 7 (omega arith) i;
    }

module _ (l : List ℕ) where
  -- a record stands at a place, or none does
  one-long : (at : ℕ) → at + 8 ≤ length l → manager_long (drop at l) ≡ 8
  one-long at h = let d = length-drop at l in rw (le-leb 8 (length (drop at l)) (omega arith))

  none-long : (at : ℕ) → length l < at + 8 → manager_long (drop at l) ≡ 0
  none-long at h = let d = length-drop at l in rw (lt-leb 8 (length (drop at l)) (omega arith))

  -- the walk has passed k records
  walked : (k : ℕ) → k ≤ length l / 8 → Walk manager_long (whole-fits 8) l k (8 * k)
  walked zero h = walk_start manager_long (whole-fits 8) l
  walked (suc k) h =
      let w = walked k (omega arith) in
      let next : 8 * k + 8 ≡ 8 * suc k = omega arith in
      subst₂ (Walk manager_long (whole-fits 8) l) (add-one k) next
      (walk_turn manager_long (whole-fits 8) w (sym (one-long (8 * k) (omega arith))) (omega arith))

  ended : (length l / 8 ≡ length (parts_of manager_long l)) × (drop (8 * (length l / 8)) l ≡ rest_of manager_long l)
  ended = walk_end manager_long (whole-fits 8) (walked (length l / 8) (omega arith)) (none-long (8 * (length l / 8)) (omega arith))

  pub managers-rest : length (rest_of manager_long l) ≡ length l % 8
  managers-rest = let d = length-drop (8 * (length l / 8)) l in ap length (sym ended.1) ∙ omega arith

  pub manager-at : (k : ℕ) → k < length l / 8 → get_or (parts_of manager_long l) k [] ≡ take 8 (drop (8 * k) l)
  manager-at k h =
      let one = one-long (8 * k) (omega arith) in
      let here = walk_here manager_long (whole-fits 8) (walked k (omega arith)) (omega arith) in
      ap (λ (i : ℕ). get_or (parts_of manager_long l) i []) (sym (add-zero k))
      ∙ sym (get_or-drop k (parts_of manager_long l) 0 [])
      ∙ ap (λ (x : List (List ℕ)). get_or x 0 []) here
      ∙ ap (λ (n : ℕ). take n (drop (8 * k) l)) one

  -- the sync managers
  abbrev pub nth_manager : ℕ → SyncManager
  nth_manager k = manager_for (drop (8 * k) l)

  manager-nth : (k : ℕ) → k < length l / 8 → get_or (map manager_for (parts_of manager_long l)) k (manager_for []) ≡ nth_manager k
  manager-nth k h =
      get_or-map manager_for (parts_of manager_long l) k [] ∙ ap manager_for (manager-at k h) ∙ manager-front (drop (8 * k) l)

  -- how many there are
  pub managers-many : length (map manager_for (parts_of manager_long l)) ≡ length l / 8
  managers-many = length-map (parts_of manager_long l) manager_for ∙ sym ended.0

  pub managers-numbered : map manager_for (parts_of manager_long l) ≡ list_of nth_manager (length l / 8)
  managers-numbered =
      list-numbered (map manager_for (parts_of manager_long l)) (manager_for []) (length l / 8) managers-many nth_manager manager-nth

  -- whether some has it, by the numbers
  some-manager : (f : SyncManager → Bool) (q : ℕ → Bool) → ((k : ℕ) → f (nth_manager k) ≡ q k) → some_of f (map manager_for (parts_of manager_long l)) ≡ list_any q (range_with_len 0 (length l / 8))
  some-manager f q is =
      some-numbered (map manager_for (parts_of manager_long l)) (manager_for []) (length l / 8) managers-many f q (λ k h. ap f (manager-nth k h) ∙ is k)

  -- a usage that has no name, and a control with an unnamed mode or direction
  abbrev pub usage_unnamed_at : ℕ → Bool
  usage_unnamed_at k = ltb 4 (get_or l (8 * k + 7) 0)

  abbrev pub control_unnamed_at : ℕ → Bool
  control_unnamed_at k = unnamed (control_at (get_or l (8 * k + 4) 0))

  pub some-usage-numbered : some_of (λ m. ltb 4 m.usage_type) (map manager_for (parts_of manager_long l)) ≡ list_any usage_unnamed_at (range_with_len 0 (length l / 8))
  some-usage-numbered = some-manager (λ m. ltb 4 m.usage_type) usage_unnamed_at (λ k. ap (ltb 4) (get_or-drop (8 * k) l 7 0))

  pub some-control-numbered : some_unnamed (map manager_for (parts_of manager_long l)) ≡ list_any control_unnamed_at (range_with_len 0 (length l / 8))
  unfolding some_unnamed
  some-control-numbered =
      some-manager (λ m. unnamed m.control) control_unnamed_at (λ k. ap (λ (b : ℕ). unnamed (control_at b)) (get_or-drop (8 * k) l 4 0))

-- whether something stands behind the last record, by the remainder
pub managers-cut : (l : List ℕ) → nonempty (rest_of manager_long l) ≡ not (eqb (length l % 8) 0)
managers-cut l = go (eqb (length l % 8) 0) refl
  where
    r : length (rest_of manager_long l) ≡ length l % 8
    r = managers-rest l

    go : (b : Bool) → eqb (length l % 8) 0 ≡ b → nonempty (rest_of manager_long l) ≡ not b
    go true e = let z = eqb-true (length l % 8) 0 e in le-ltb 0 (length (rest_of manager_long l)) (omega (arith, r))
    go false e = let z = eqb-false (length l % 8) 0 e in lt-ltb 0 (length (rest_of manager_long l)) (omega (arith, r))
