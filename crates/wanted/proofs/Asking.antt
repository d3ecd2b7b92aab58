-- 6 and 7 by number: what is asked of the wanted sync managers of a direction, or of both, is asked of the exact bits by number.
-- Assumes nothing.
use mathlib.Core.Path.{◌≡◌, refl, sym, ◌∙◌, ap}
use mathlib.Core.Bool.{Bool, true, false, cond, ◌&&◌, ◌||◌, or-false, and_comm}
use mathlib.Core.List.{List, [], ◌∷◌, ◌++◌, append-nil}
use Prim.Native.Nat.{ℕ, zero, suc, ◌+◌, ◌-◌, ◌≤◌, ◌<◌}
use native.Mathlib.Nat.{add-zero, zero-add}
use native.Mathlib.Omega.{arith}
use lib.ListN.{length, get_or, replicate}
use lib.Seq.{append_snoc}
use lib.Dec.{eqb, ltb}
use borrow.Author.Tests.{lt-ltb, eqb-true, ltb-true}
use Rattle.wire.specs.Lists.{list_of, some_below, some_of}
use Rattle.wire.specs.Outcome.{when, decide}
use Rattle.wire.proofs.Lists.{some_same, get_d-list_of, number_same}
use Rattle.pdi.specs.Unit.{bytes_of, too_many_bits}
use Rattle.pdi.specs.declared.BitLen.{BitLen}
use Rattle.pdi.specs.declared.ByteLen.{ByteLen}
use Rattle.grammar.specs.Grammar.{manager_count}
use Rattle.sheet.specs.Device.{Data}
use Rattle.sheet.specs.Sheet.{no_manager, sheet_data}
use Rattle.sheet.specs.declared.SyncManager.{SyncManager}
use Rattle.sheet.proofs.Managers.{manager-count}
use Rattle.channels.specs.Channels.{size_at}
use Rattle.pdo.specs.declared.PdoDirection.{PdoDirection}
use Rattle.pdo.specs.declared.PdoDirection.TheVariants.{MasterRead, MasterWrite}
use Rattle.pdo.specs.Direction.{usage_of}
use Rattle.pdo.specs.Bits.{Piece, by_coe, path_kind, bits_of, pieces_from, pieces_of}
use Rattle.passes.specs.Use.{coe_entry}
use Rattle.passes.specs.Start.{of_either}
use Rattle.passes.specs.Pass.{some_too_many, no_entry}
use Rattle.passes.specs.Handed.{has_usage, exact_bits, data_bits, sizes_of, sizes_of_both}
use Rattle.passes.proofs.Pieces.{some_bytes, data-at, size-handed}
use Rattle.wanted.specs.ByKind.{bit_at, bits_in, of_usage}
use Rattle.wanted.specs.Paths.{rounded_in, some_size, lacks_entry}
use Rattle.wanted.proofs.Managers.{both, usage-nowhere}
use Rattle.wanted.proofs.Surveying.{some_or, some_first}

-- a question of the bits of the wanted sync managers is one by number, if it doesn't hold of 0
module _ (t : ℕ → Bool) (none : t 0 ≡ false) (usage : ℕ) (bits : ℕ → ℕ) where
  abbrev ask : List Piece → Bool
  ask ps = some_of (λ (p : Piece). t p.bits) ps

  abbrev ask_at : ℕ → List SyncManager → ℕ → Bool
  ask_at k ms j = t (cond (eqb (get_or ms j no_manager).usage_type usage) (bits (k + j)) 0)

  ask-from : (k : ℕ) (ms : List SyncManager) → ask (pieces_from usage bits k ms) ≡ some_below (ask_at k ms) (length ms)
  unfolding pieces_from some_below
  ask-from k [] = refl
  ask-from k (m ∷ ms) =
      one (eqb m.usage_type usage)
      ∙ (λ i. t (cond (eqb m.usage_type usage) (bits (sym (add-zero k) i)) 0) || (ask-from (suc k) ms ∙ some_same (ask_at (suc k) ms) (λ j. ask_at k (m ∷ ms) (suc j)) (length ms) next) i)
      ∙ sym (some_first (ask_at k (m ∷ ms)) (length ms))
    where
      one : (b : Bool) → ask (cond b (record { number = k; bits = bits k; address = m.start_addr } ∷ pieces_from usage bits (suc k) ms) (pieces_from usage bits (suc k) ms))
          ≡ t (cond b (bits k) 0) || ask (pieces_from usage bits (suc k) ms)
      one true = refl
      one false = ap (λ (b : Bool). b || ask (pieces_from usage bits (suc k) ms)) (sym none)

      shift : (j : ℕ) → suc k + j ≡ k + suc j
      shift j = omega arith

      next : (j : ℕ) → j < length ms → ask_at (suc k) ms j ≡ ask_at k (m ∷ ms) (suc j)
      next j l = ap (λ (n : ℕ). t (cond (eqb (get_or ms j no_manager).usage_type usage) (bits n) 0)) (shift j)

  ask-below : (ms : List SyncManager) → ask (pieces_from usage bits 0 ms) ≡ some_below (λ k. t (cond (has_usage usage ms k) (bits k) 0)) (length ms)
  ask-below ms = ask-from 0 ms ∙ some_same (ask_at 0 ms) (λ k. t (cond (has_usage usage ms k) (bits k) 0)) (length ms) there
    where
      there : (k : ℕ) → k < length ms → ask_at 0 ms k ≡ t (cond (has_usage usage ms k) (bits k) 0)
      there k l =
          let u = eqb (get_or ms k no_manager).usage_type usage in
          (λ i. t (cond (sym (lt-ltb k (length ms) l) i && u) (bits (zero-add k i)) 0))

-- numbers past the n first hold d
past : {A : Type 0} (f : ℕ → A) (d : A) (n e : ℕ) → ((j : ℕ) → n ≤ j → f j ≡ d) → list_of f n ++ replicate e d ≡ list_of f (n + e)
unfolding list_of
past f d n zero h = append-nil (list_of f n) ∙ ap (list_of f) (sym (add-zero n))
past {A} f d n (suc e) h =
    sym (append_snoc (list_of f n) d (replicate e d))
    ∙ ap (λ (x : A). (list_of f n ++ (x ∷ [])) ++ replicate e d) (sym (h n (omega arith)))
    ∙ past f d (suc n) e (λ j l. h j (omega arith))
    ∙ ap (list_of f) (shift n e)
  where
    shift : (n e : ℕ) → suc n + e ≡ n + suc e
    shift n e = omega arith

-- the size of a number in a direction by itself
pub size-alone : (d : Data) (ws : List ℕ) (r : PdoDirection) (k : ℕ) → k < 16 → size_at (sizes_of d ws r) k ≡ bytes_of (exact_bits d ws r k)
size-alone d ws r k h = ap (λ (b : ByteLen). b.0) (get_d-list_of (λ j. record { 0 = bytes_of (exact_bits d ws r j) }) 16 k (record { 0 = 0 }) h)

-- rounding up the first n of exact bits that are 0 from n on
module _ (bits : List BitLen) (exact : ℕ → ℕ) (n : ℕ) (few : n ≤ 16) (is : (k : ℕ) → k < 16 → bit_at bits k ≡ exact k) (none : (k : ℕ) → n ≤ k → exact k ≡ 0) where
  abbrev size : ℕ → ByteLen
  size k = record { 0 = bytes_of (exact k) }

  rounds : (six : Bool) → six ≡ some_below (λ k. too_many_bits (exact k)) n → rounded_in n bits ≡ decide (when 6 six ∷ []) (list_of size 16)
  rounds six e =
      let wide = some_same (λ k. too_many_bits (bit_at bits k)) (λ k. too_many_bits (exact k)) n (λ k l. ap too_many_bits (is k (omega arith))) in
      let front = number_same (λ k. record { 0 = bytes_of (bit_at bits k) }) size n (λ k l. λ i. record { 0 = bytes_of (is k (omega arith) i) }) in
      let l : n + (16 - n) ≡ 16 = omega arith in
      let all =
      ap (λ (x : List ByteLen). x ++ replicate (16 - n) (record { 0 = 0 })) front
      ∙ past size (record { 0 = 0 }) n (16 - n) (λ j h. λ i. record { 0 = bytes_of (none j h i) }) ∙ ap (list_of size) l in
      λ i. decide (when 6 ((wide ∙ sym e) i) ∷ []) (all i)

module _ (s ws : List ℕ) where
  abbrev d : Data
  d = sheet_data s

  abbrev ms : List SyncManager
  ms = d.managers

  abbrev pub all_bits : List BitLen
  all_bits = bits_in s (by_coe d) ws

  -- one that is there and has the usage
  there : (r : PdoDirection) (k : ℕ) → has_usage (usage_of r) ms k ≡ true → (k < length ms) × (eqb (get_or ms k no_manager).usage_type (usage_of r) ≡ true)
  there r k h =
      let t = both (ltb k (length ms)) (eqb (get_or ms k no_manager).usage_type (usage_of r)) h in
      (ltb-true k (length ms) t.0, t.1)

  -- of both directions it has the direction's bits, rounded or not
  module _ (r : PdoDirection) (k : ℕ) (h : has_usage (usage_of r) ms k ≡ true) where
    data-exact : data_bits d ws k ≡ exact_bits d ws r k
    data-exact = let t = there r k h in data-at d ws r k t.0 t.1 ∙ ap (λ (b : Bool). cond b (bits_of (path_kind d r) k d.pdos ws) 0) (sym h)

  data-read : (k : ℕ) → k < 16 → bit_at all_bits k ≡ data_bits d ws k
  data-read k l = ap (λ (b : BitLen). b.0) (get_d-list_of (λ j. record { 0 = data_bits d ws j }) 16 k (record { 0 = 0 }) l)

  -- those of the usage alone are the direction's
  pub exact_read : (r : PdoDirection) (k : ℕ) → k < 16 → bit_at (of_usage ms (usage_of r) all_bits) k ≡ exact_bits d ws r k
  exact_read r k l =
      ap (λ (b : BitLen). b.0) (get_d-list_of (λ j. record { 0 = cond (has_usage (usage_of r) ms j) (bit_at all_bits j) 0 }) 16 k (record { 0 = 0 }) l)
      ∙ go (has_usage (usage_of r) ms k) refl
    where
      go : (b : Bool) → has_usage (usage_of r) ms k ≡ b → cond b (bit_at all_bits k) 0 ≡ cond b (bits_of (path_kind d r) k d.pdos ws) 0
      go true e = data-read k l ∙ data-exact r k e ∙ ap (λ (b : Bool). cond b (bits_of (path_kind d r) k d.pdos ws) 0) e
      go false e = refl

  -- a number without a sync manager has no bits
  exact_none : (r : PdoDirection) (k : ℕ) → manager_count s ≤ k → exact_bits d ws r k ≡ 0
  exact_none r k h = ap (λ (b : Bool). cond b (bits_of (path_kind d r) k d.pdos ws) 0) (usage-nowhere s (usage_of r) k h)

  -- 6 of a direction by number
  six-below : (r : PdoDirection) → some_too_many d ws r ≡ some_below (λ k. too_many_bits (exact_bits d ws r k)) (manager_count s)
  unfolding some_too_many pieces_of
  six-below r = ask-below too_many_bits refl (usage_of r) (λ k. bits_of (path_kind d r) k d.pdos ws) ms ∙ ap (some_below (λ k. too_many_bits (exact_bits d ws r k))) (manager-count s)

  -- of either: no number is of both
  six-either : of_either (some_too_many d ws) ≡ some_below (λ k. too_many_bits (data_bits d ws k)) (manager_count s)
  six-either =
      let reads : ℕ → Bool = λ k. too_many_bits (exact_bits d ws MasterRead k) in
      let writes : ℕ → Bool = λ k. too_many_bits (exact_bits d ws MasterWrite k) in
      (λ i. six-below MasterRead i || six-below MasterWrite i) ∙ sym (some_or reads writes (manager_count s))
      ∙ some_same (λ k. reads k || writes k) (λ k. too_many_bits (data_bits d ws k)) (manager_count s) (λ k l. one k)
    where
      one : (k : ℕ) → too_many_bits (exact_bits d ws MasterRead k) || too_many_bits (exact_bits d ws MasterWrite k) ≡ too_many_bits (data_bits d ws k)
      one k = go (ltb k (length ms)) (eqb u 4) refl
        where
          u : ℕ
          u = (get_or ms k no_manager).usage_type

          x : ℕ
          x = bits_of (path_kind d MasterRead) k d.pdos ws

          y : ℕ
          y = bits_of (path_kind d MasterWrite) k d.pdos ws

          go : (b c : Bool) → eqb u 4 ≡ c → too_many_bits (cond (b && c) x 0) || too_many_bits (cond (b && eqb u 3) y 0) ≡ too_many_bits (cond (b && c) x 0 + cond (b && eqb u 3) y 0)
          go false c e = refl
          go true true e =
              ap (λ (n : ℕ). too_many_bits x || too_many_bits (cond (eqb n 3) y 0)) (eqb-true u 4 e) ∙ or-false (too_many_bits x)
              ∙ ap too_many_bits (sym (add-zero x)) ∙ ap (λ (n : ℕ). too_many_bits (x + cond (eqb n 3) y 0)) (sym (eqb-true u 4 e))
          go true false e = ap too_many_bits (sym (zero-add (cond (eqb u 3) y 0)))

  -- so rounding up gives the sizes or 6, of a direction and of both
  module _ (few : manager_count s ≤ 16) where
    pub rounds-direction : (r : PdoDirection) → rounded_in (manager_count s) (of_usage ms (usage_of r) all_bits) ≡ decide (when 6 (some_too_many d ws r) ∷ []) (sizes_of d ws r)
    rounds-direction r = rounds (of_usage ms (usage_of r) all_bits) (exact_bits d ws r) (manager_count s) few (exact_read r) (exact_none r) (some_too_many d ws r) (six-below r)

    pub rounds-both : rounded_in (manager_count s) all_bits ≡ decide (when 6 (of_either (some_too_many d ws)) ∷ []) (sizes_of_both d ws)
    rounds-both =
        rounds all_bits (data_bits d ws) (manager_count s) few data-read (λ k h. λ i. exact_none MasterRead k h i + exact_none MasterWrite k h i)
        (of_either (some_too_many d ws)) six-either

    -- 7 of a direction by number, of sizes that are right for it
    module _ (r : PdoDirection) (sizes : List ByteLen) (right : (k : ℕ) → k < 16 → has_usage (usage_of r) ms k ≡ true → size_at sizes k ≡ bytes_of (exact_bits d ws r k)) where
      some_bits : some_size ms (usage_of r) sizes ≡ some_of (λ (p : Piece). ltb 0 p.bits) (pieces_of d ws r)
      unfolding some_size pieces_of
      some_bits =
          some_same (λ k. has_usage (usage_of r) ms k && ltb 0 (size_at sizes k)) (λ k. ltb 0 (exact_bits d ws r k)) (length ms)
          (λ k l. go k (omega (arith, manager-count s)) (has_usage (usage_of r) ms k) refl)
          ∙ sym (ask-below (ltb 0) refl (usage_of r) (λ k. bits_of (path_kind d r) k d.pdos ws) ms)
        where
          go : (k : ℕ) → k < 16 → (b : Bool) → has_usage (usage_of r) ms k ≡ b → b && ltb 0 (size_at sizes k) ≡ ltb 0 (cond b (bits_of (path_kind d r) k d.pdos ws) 0)
          go k l true e = ap (ltb 0) (right k l e) ∙ some_bytes (exact_bits d ws r k) ∙ ap (λ (b : Bool). ltb 0 (cond b (bits_of (path_kind d r) k d.pdos ws) 0)) e
          go k l false e = refl

      seven-lacks : by_coe d ≡ true → lacks_entry d sizes r ≡ no_entry d ws r
      unfolding no_entry
      seven-lacks e =
          let some = some_of (λ (p : Piece). ltb 0 p.bits) (pieces_of d ws r) in
          ap (λ (b : Bool). eqb (coe_entry d r) (length d.usages) && b) some_bits ∙ and_comm (eqb (coe_entry d r) (length d.usages)) some
          ∙ ap (λ (b : Bool). b && (some && eqb (coe_entry d r) (length d.usages))) (sym e)

    pub seven-direction : (r : PdoDirection) → by_coe d ≡ true → lacks_entry d (sizes_of d ws r) r ≡ no_entry d ws r
    seven-direction r e = seven-lacks r (sizes_of d ws r) (λ k l h. size-alone d ws r k l) e

    pub seven-either : by_coe d ≡ true → of_either (lacks_entry d (sizes_of_both d ws)) ≡ of_either (no_entry d ws)
    seven-either e =
        let one : (r : PdoDirection) → lacks_entry d (sizes_of_both d ws) r ≡ no_entry d ws r =
        λ r. seven-lacks r (sizes_of_both d ws) (λ k l h. size-handed d ws k l ∙ ap bytes_of (data-exact r k h)) e in
        λ i. one MasterRead i || one MasterWrite i
