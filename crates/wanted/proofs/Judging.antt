-- Pairs as code judges them are the pairs that 18 speaks of: the uses by number, both directions, and what each way through the judging answers.
-- Assumes nothing.
use mathlib.Core.Path.{◌≡◌, refl, sym, ◌∙◌, ap, subst}
use mathlib.Core.Bool.{Bool, true, false, cond, not, ◌&&◌, ◌||◌, or-true, or-false}
use mathlib.Core.List.{List, [], ◌∷◌, map}
use Prim.Native.Nat.{ℕ, zero, suc, ◌+◌, ◌≤◌, ◌<◌}
use native.Mathlib.Nat.{add-zero, zero-add, not-suc-le-zero, le_of_suc-le-suc}
use native.Mathlib.Omega.{arith}
use lib.ListN.{length, get_or}
use lib.Dec.{eqb, ltb, leb-suc-suc}
use borrow.Author.Tests.{lt-ltb, le-ltb}
use Rattle.wire.specs.Lists.{some_below}
use Rattle.wire.proofs.Lists.{some_same, get_d-list_of}
use Rattle.pdi.specs.declared.BitLen.{BitLen}
use Rattle.grammar.specs.Grammar.{manager_count}
use Rattle.sheet.specs.Device.{Data}
use Rattle.sheet.specs.Sheet.{no_manager, sheet_data}
use Rattle.sheet.specs.declared.SyncManager.{SyncManager}
use Rattle.sheet.proofs.Managers.{manager-count}
use Rattle.pdo.specs.declared.PdoDirection.{PdoDirection}
use Rattle.pdo.specs.declared.PdoDirection.TheVariants.{MasterRead, MasterWrite}
use Rattle.pdo.specs.Direction.{usage_of}
use Rattle.pdo.specs.Bits.{Piece, by_coe, path_kind, bits_of, pieces_from, pieces_of}
use Rattle.passes.specs.declared.FmmuMode.{FmmuMode}
use Rattle.passes.specs.declared.FmmuMode.TheVariants.{OwnNumber, Paired}
use Rattle.passes.specs.declared.Chosen.{Chosen}
use Rattle.passes.specs.Use.{Use, use_of, given, paired}
use Rattle.passes.specs.Pairs.{number_above, some_on, comes_back, interrupted, bad_entry, bad_pairs}
use Rattle.passes.specs.Handed.{has_usage}
use Rattle.wanted.specs.declared.Entered.{Entered}
use Rattle.wanted.specs.ByKind.{bit_at, of_usage}
use Rattle.wanted.specs.Paths.{pairs_read}
use Rattle.wanted.specs.Judged.{uses_from, Surveys, some_shared, judged_uses, bad_choice}
use Rattle.wanted.proofs.Surveying.{some_or}
use Rattle.wanted.proofs.Asking.{all_bits, exact_read}

-- a use without its size and address: which entries are used doesn't ask for them
abbrev bare : Use → Use
bare u = record { entry = u.entry; size = 0; at = 0 }

some-bare : (k : ℕ) (us : List Use) → some_on k (map bare us) ≡ some_on k us
some-bare k [] = refl
some-bare k (u ∷ us) = ap (λ (b : Bool). eqb u.entry k || b) (some-bare k us)

back-bare : (k : ℕ) (us : List Use) → comes_back k (map bare us) ≡ comes_back k us
back-bare k [] = refl
back-bare k (u ∷ us) = λ i. (not (eqb u.entry k) && some-bare k us i) || back-bare k us i

interrupted-bare : (k : ℕ) (us : List Use) → interrupted k (map bare us) ≡ interrupted k us
interrupted-bare k [] = refl
interrupted-bare k (u ∷ us) = λ i. (eqb u.entry k && back-bare k us i) || interrupted-bare k us i

bad-bare : (us vs : List Use) (k : ℕ) → bad_entry (map bare us) (map bare vs) k ≡ bad_entry us vs k
bad-bare us vs k = λ i. (some-bare k us i && some-bare k vs i) || (interrupted-bare k us i || interrupted-bare k vs i)

-- the uses of the wanted sync managers are those of the numbers that are flagged
module _ (entry : ℕ → ℕ) (usage : ℕ) (bits : ℕ → ℕ) (on : ℕ → Bool) where
  -- a number from k on is flagged if it is a sync manager of the usage that has bits
  abbrev Agree : ℕ → List SyncManager → ℕ → Type 0
  Agree k ms n = (j : ℕ) → j < n → on (k + j) ≡ ltb 0 (cond (has_usage usage ms j) (bits (k + j)) 0)

  next : (k j : ℕ) → suc k + j ≡ k + suc j
  next k j = omega arith

  first : (k : ℕ) (ms : List SyncManager) (n : ℕ) → Agree k ms (suc n) → on k ≡ ltb 0 (cond (has_usage usage ms 0) (bits k) 0)
  first k ms n h = subst (λ (m : ℕ). on m ≡ ltb 0 (cond (has_usage usage ms 0) (bits m) 0)) (add-zero k) (h 0 (omega arith))

  -- a number that isn't has no use
  skipped : (k n : ℕ) → on k ≡ false → uses_from on entry k (suc n) ≡ uses_from on entry (suc k) n
  unfolding uses_from
  skipped k n e = rw e

  none-used : (k n : ℕ) → ((j : ℕ) → j < n → on (k + j) ≡ false) → uses_from on entry k n ≡ []
  unfolding uses_from
  none-used k zero h = refl
  none-used k (suc n) h = skipped k n (ap on (sym (add-zero k)) ∙ h 0 (omega arith)) ∙ none-used (suc k) n (λ j l. ap on (next k j) ∙ h (suc j) (omega arith))

  -- one that is has the same, its size and address aside
  used :
      (k n at : ℕ) (ps : List Piece) → on k ≡ ltb 0 (bits k) → map bare (given entry ps) ≡ uses_from on entry (suc k) n
      → map bare (given entry (record { number = k; bits = bits k; address = at } ∷ ps)) ≡ uses_from on entry k (suc n)
  unfolding given uses_from
  used k n at ps e rest = go (ltb 0 (bits k)) ∙ ap (λ (b : Bool). cond b (record { entry = entry k; size = 0; at = 0 } ∷ others) others) (sym e)
    where
      others : List Use
      others = uses_from on entry (suc k) n

      go : (b : Bool) → map bare (cond b (use_of (entry k) (record { number = k; bits = bits k; address = at }) ∷ given entry ps) (given entry ps))
          ≡ cond b (record { entry = entry k; size = 0; at = 0 } ∷ others) others
      go true = ap (λ (us : List Use). record { entry = entry k; size = 0; at = 0 } ∷ us) rest
      go false = rest

  uses-bare : (k : ℕ) (ms : List SyncManager) (n : ℕ) → length ms ≤ n → Agree k ms n → map bare (given entry (pieces_from usage bits k ms)) ≡ uses_from on entry k n
  unfolding pieces_from given
  uses-bare k [] n l h = sym (none-used k n (λ j m. h j m ∙ ap (λ (b : Bool). ltb 0 (cond (b && eqb no_manager.usage_type usage) (bits (k + j)) 0)) (le-ltb j 0 (omega arith))))
  uses-bare k (m ∷ ms) zero l h = absurd (not-suc-le-zero l)
  uses-bare k (m ∷ ms) (suc n) l h = go (eqb m.usage_type usage) here (uses-bare (suc k) ms n (le_of_suc-le-suc l) others)
    where
      here : on k ≡ ltb 0 (cond (eqb m.usage_type usage) (bits k) 0)
      here = first k (m ∷ ms) n h ∙ ap (λ (b : Bool). ltb 0 (cond (b && eqb m.usage_type usage) (bits k) 0)) (lt-ltb 0 (suc (length ms)) (omega arith))

      others : Agree (suc k) ms n
      others j e =
          let u = eqb (get_or ms j no_manager).usage_type usage in
          ap on (next k j) ∙ h (suc j) (omega arith) ∙ (λ i. ltb 0 (cond (leb-suc-suc (suc j) (length ms) i && u) (bits (sym (next k j) i)) 0))

      go : (b : Bool) → on k ≡ ltb 0 (cond b (bits k) 0) → map bare (given entry (pieces_from usage bits (suc k) ms)) ≡ uses_from on entry (suc k) n
          → map bare (given entry (cond b (record { number = k; bits = bits k; address = m.start_addr } ∷ pieces_from usage bits (suc k) ms) (pieces_from usage bits (suc k) ms)))
          ≡ uses_from on entry k (suc n)
      go true e rest = used k n m.start_addr (pieces_from usage bits (suc k) ms) e rest
      go false e rest = rest ∙ sym (skipped k n e)

module _ (s ws : List ℕ) (c : Chosen) (few : manager_count s ≤ 16) where
  abbrev d : Data
  d = sheet_data s

  abbrev judged : PdoDirection → List Use
  judged r = judged_uses c d.managers (all_bits s ws) r

  uses-in : (r : PdoDirection) → map bare (paired c (pieces_of d ws r)) ≡ judged r
  unfolding pieces_of
  uses-in r =
      let mine = of_usage d.managers (usage_of r) (all_bits s ws) in
      let bits : ℕ → ℕ = λ k. bits_of (path_kind d r) k d.pdos ws in
      uses-bare (λ number. get_or c.entries number 0) (usage_of r) bits (λ k. ltb 0 (bit_at mine k)) 0 d.managers 16 (omega (arith, manager-count s))
      (λ j l. ap (ltb 0) (exact_read s ws r (0 + j) (omega arith)) ∙ ap (λ (k : ℕ). ltb 0 (cond (has_usage (usage_of r) d.managers k) (bits (0 + j)) 0)) (zero-add j))

  -- 18 by the exact bits of both directions
  both-directions : some_below (bad_entry (judged MasterRead) (judged MasterWrite)) 16 ≡ some_below (bad_entry (paired c (pieces_of d ws MasterRead)) (paired c (pieces_of d ws MasterWrite))) 16
  both-directions =
      let reads = paired c (pieces_of d ws MasterRead) in
      let writes = paired c (pieces_of d ws MasterWrite) in
      some_same (bad_entry (judged MasterRead) (judged MasterWrite)) (bad_entry reads writes) 16
      (λ k l. (λ i. bad_entry (sym (uses-in MasterRead) i) (sym (uses-in MasterWrite) i) k) ∙ bad-bare reads writes k)

  pub bad-pairs : (mode : FmmuMode) → pairs_read (by_coe d) mode && bad_choice c d.managers (all_bits s ws) ≡ bad_pairs mode c d ws
  unfolding bad_pairs bad_choice
  bad-pairs OwnNumber = refl
  bad-pairs Paired = ap (λ (b : Bool). not (by_coe d) && (number_above c || b)) both-directions

-- each way through the judging
module _ (c : Chosen) (ms : List SyncManager) (bits : List BitLen) where
  abbrev us : List Use
  us = judged_uses c ms bits MasterRead

  abbrev vs : List Use
  vs = judged_uses c ms bits MasterWrite

  abbrev one : Bool
  one = some_below (λ k. interrupted k us) 16

  abbrev two : Bool
  two = some_below (λ k. interrupted k vs) 16

  abbrev both : Bool
  both = some_below (λ k. some_on k us && some_on k vs) 16

  parts : bad_choice c ms bits ≡ number_above c || (both || (one || two))
  unfolding bad_choice
  parts =
      ap (λ (b : Bool). number_above c || b)
      (some_or (λ k. some_on k us && some_on k vs) (λ k. interrupted k us || interrupted k vs) 16
      ∙ ap (λ (b : Bool). both || b) (some_or (λ k. interrupted k us) (λ k. interrupted k vs) 16))

  pub above-bad : number_above c ≡ true → true ≡ bad_choice c ms bits
  above-bad e = sym (parts ∙ rw e)

  module _ (x : Entered) (h : Surveys us x) where
    pub one-bad : x.interrupted ≡ true → true ≡ bad_choice c ms bits
    one-bad e = let o : one ≡ true = sym h.breaks ∙ e in sym (parts ∙ rw (o, or-true, or-true))

    module _ (y : Entered) (g : Surveys vs y) where
      pub two-bad : y.interrupted ≡ true → true ≡ bad_choice c ms bits
      two-bad e = let t : two ≡ true = sym g.breaks ∙ e in sym (parts ∙ rw (t, or-true, or-true, or-true))

      pub shared-bad : (r : Bool) → number_above c ≡ false → x.interrupted ≡ false → y.interrupted ≡ false → r ≡ some_shared x.used y.used → r ≡ bad_choice c ms bits
      unfolding some_shared
      shared-bad r a e f q =
          let o : one ≡ false = sym h.breaks ∙ e in
          let t : two ≡ false = sym g.breaks ∙ f in
          q ∙ some_same (λ k. get_or x.used k false && get_or y.used k false) (λ k. some_on k us && some_on k vs) 16
          (λ k l. (λ i. (ap (λ (b : List Bool). get_or b k false) h.uses ∙ get_d-list_of (λ j. some_on j us) 16 k false l) i
          && (ap (λ (b : List Bool). get_or b k false) g.uses ∙ get_d-list_of (λ j. some_on j vs) 16 k false l) i))
          ∙ sym (parts ∙ rw (a, o, t) (or-false both))
