-- The uses of a direction, on both paths: their entries are entries, stand together, and are no entry of the other direction.
-- Assumes nothing.
use mathlib.Core.Path.{◌≡◌, refl, sym, ◌∙◌, ap, subst}
use mathlib.Core.Bool.{Bool, true, false, cond, not, ◌&&◌, ◌||◌, and-false, true≢false}
use mathlib.Core.List.{List, [], ◌∷◌}
use mathlib.Core.Logic.{◌≢◌, ◌⊎◌, inl, inr, ⊎_elim}
use mathlib.Core.Option.{some}
use Prim.Native.Nat.{ℕ, zero, suc, ◌+◌, ◌-◌, ◌≤◌, ◌<◌}
use native.Mathlib.Nat.{not-suc-le-zero, le_of_suc-le-suc}
use native.Mathlib.Omega.{arith}
use lib.Dec.{eqb, ltb}
use lib.ListN.{length, get_or}
use borrow.Author.Tests.{ltb-true, ltb-false, eqb-true, eqb-false, eq-eqb, ne_eqb}
use Rattle.pdi.specs.Unit.{bytes_of}
use Rattle.sheet.specs.declared.SyncManager.{SyncManager}
use Rattle.sheet.specs.Device.{Data}
use Rattle.wire.specs.Lists.{Each, list_of, some_of, some_below}
use Rattle.wire.proofs.Lists.{none_of, none_below, some-none, of_none, or-none, get_d-list_of}
use Rattle.pdo.specs.declared.PdoDirection.{PdoDirection}
use Rattle.pdo.specs.declared.PdoDirection.TheVariants.{MasterRead, MasterWrite}
use Rattle.pdo.specs.Direction.{usage_of, fmmu_usage_of, other}
use Rattle.pdo.specs.Bits.{Piece, by_coe, path_kind, bits_of, pieces_from, pieces_of}
use Rattle.passes.specs.declared.FmmuMode.{FmmuMode}
use Rattle.passes.specs.declared.FmmuMode.TheVariants.{OwnNumber, Paired}
use Rattle.passes.specs.declared.Chosen.{Chosen}
use Rattle.passes.specs.Use.{Use, use_of, own, given, first_with, coe_entry, entry_for, chosen_of, paired, by_mode, uses_of}
use Rattle.passes.specs.Pairs.{number_above, some_on, comes_back, interrupted, bad_entry, bad_pairs}
use Rattle.passes.specs.Pass.{no_entry}
use Rattle.translation.specs.Translate.{within, named, or_none}
use Rattle.counting.specs.Count.{spot_at, spot_in, device_in}
use Rattle.translation.proofs.Lies.{before, behind}
use Rattle.agreement.proofs.Basics.{either, same_or_not, each_map, each_of, where-is}
use Rattle.agreement.proofs.Straight.{lay, Fresh, Next, Grouped, Apart, apart-flip}

-- what the sheet's rules give of device data
pub record Bounded (d : Data) : Type 0 where
  pub managers : length d.managers ≤ 16
  pub usages : length d.usages ≤ 16
  pub addresses : Each (λ (m : SyncManager). m.start_addr < 65536) d.managers

-- a fact of every wanted sync manager, given of each at its number
module _ (w : ℕ) (bits : ℕ → ℕ) where
  pieces-each : (P : Piece → Type 0) (i : ℕ) (ms : List SyncManager) (A : SyncManager → Type 0) → Each A ms
      → ((k : ℕ) (m : SyncManager) → i ≤ k → k < i + length ms → A m → P (record { number = k; bits = bits k; address = m.start_addr }))
      → Each P (pieces_from w bits i ms)
  unfolding pieces_from
  pieces-each P i [] A e f = tt
  pieces-each P i (m ∷ ms) A e f = go (eqb m.usage_type w) (pieces-each P (suc i) ms A e.1 (λ k n h g. f k n (omega arith) (omega arith)))
    where
      go : (b : Bool) → Each P (pieces_from w bits (suc i) ms)
          → Each P (cond b (record { number = i; bits = bits i; address = m.start_addr } ∷ pieces_from w bits (suc i) ms) (pieces_from w bits (suc i) ms))
      go true g = (f i m (omega arith) (omega arith) e.0, g)
      go false g = g

own-each : (P : Piece → Type 0) (Q : Use → Type 0) → ((p : Piece) → P p → Q (use_of p.number p)) → (ps : List Piece) → Each P ps → Each Q (own ps)
unfolding own
own-each P Q f [] e = tt
own-each P Q f (p ∷ ps) e = (f p e.0, own-each P Q f ps e.1)

-- EEPROM: each on its own number
above : (w : ℕ) (bits : ℕ → ℕ) (i : ℕ) (ms : List SyncManager) → Fresh i (own (pieces_from w bits (suc i) ms))
above w bits i ms =
    own-each (λ (p : Piece). suc i ≤ p.number) (λ (u : Use). u.entry ≡ i → ⊥) (λ p h z. omega arith) (pieces_from w bits (suc i) ms)
    (pieces-each w bits (λ (p : Piece). suc i ≤ p.number) (suc i) ms (λ m. Unit {0}) (each_of (λ (m : SyncManager). Unit {0}) (λ m. tt) ms) (λ k m h g e. h))

own-grouped : (w : ℕ) (bits : ℕ → ℕ) (i : ℕ) (ms : List SyncManager) → Grouped (own (pieces_from w bits i ms))
unfolding pieces_from own
own-grouped w bits i [] = tt
own-grouped w bits i (m ∷ ms) = go (eqb m.usage_type w) (own-grouped w bits (suc i) ms)
  where
    go : (b : Bool) → Grouped (own (pieces_from w bits (suc i) ms))
        → Grouped (own (cond b (record { number = i; bits = bits i; address = m.start_addr } ∷ pieces_from w bits (suc i) ms) (pieces_from w bits (suc i) ms)))
    go true g = (inl (above w bits i ms), g)
    go false g = g

own-apart : (w v : ℕ) (bits cits : ℕ → ℕ) → (w ≡ v → ⊥) → (i : ℕ) (ms : List SyncManager) → Apart (own (pieces_from w bits i ms)) (own (pieces_from v cits i ms))
unfolding pieces_from own
own-apart w v bits cits n i [] = tt
own-apart w v bits cits n i (m ∷ ms) =
    go (eqb m.usage_type w) (eqb m.usage_type v) (λ e f. n (sym (eqb-true m.usage_type w e) ∙ eqb-true m.usage_type v f)) (own-apart w v bits cits n (suc i) ms)
  where
    us : List Use
    us = own (pieces_from w bits (suc i) ms)

    vs : List Use
    vs = own (pieces_from v cits (suc i) ms)

    go : (b c : Bool) → (b ≡ true → c ≡ true → ⊥) → Apart (own (pieces_from w bits (suc i) ms)) (own (pieces_from v cits (suc i) ms))
        → Apart (own (cond b (record { number = i; bits = bits i; address = m.start_addr } ∷ pieces_from w bits (suc i) ms) (pieces_from w bits (suc i) ms)))
        (own (cond c (record { number = i; bits = cits i; address = m.start_addr } ∷ pieces_from v cits (suc i) ms) (pieces_from v cits (suc i) ms)))
    go true true n a = absurd (n refl refl)
    go true false n a = (above v cits i ms, a)
    go false true n a = apart-flip (use_of i (record { number = i; bits = cits i; address = m.start_addr }) ∷ vs) us (above w bits i ms, apart-flip us vs a)
    go false false n a = a

-- entries given: each use is nonempty, and on the entry of its number
module _ (entry : ℕ → ℕ) where
  given-on : (P : Piece → Type 0) (ps : List Piece) → Each P ps → (Q : Use → Type 0) → ((p : Piece) → P p → 0 < bytes_of p.bits → Q (use_of (entry p.number) p)) → Each Q (given entry ps)
  unfolding given
  given-on P [] e Q f = tt
  given-on P (p ∷ ps) e Q f = go (either (ltb 0 p.bits)) (given-on P ps e.1 Q f)
    where
      go : (ltb 0 p.bits ≡ true) ⊎ (ltb 0 p.bits ≡ false) → Each Q (given entry ps) → Each Q (given entry (p ∷ ps))
      go (inl h) a = let l = ltb-true 0 p.bits h in rw h (f p e.0 (omega arith), a)
      go (inr h) a = rw h a

  given-none : (ps : List Piece) → Each (λ (p : Piece). ltb 0 p.bits ≡ false) ps → given entry ps ≡ []
  unfolding given
  given-none [] e = refl
  given-none (p ∷ ps) e = rw e.0 (given-none ps e.1)

  -- laying skips the empty ones, and asks no entry
  given-lay : (o a : ℕ) (ps : List Piece) → lay o (own ps) a ≡ lay o (given entry ps) a
  unfolding lay own given
  given-lay o a [] = refl
  given-lay o a (p ∷ ps) = go (either (ltb 0 p.bits)) (λ q. given-lay q a ps)
    where
      go : (ltb 0 p.bits ≡ true) ⊎ (ltb 0 p.bits ≡ false) → ((q : ℕ) → lay q (own ps) a ≡ lay q (given entry ps) a) → lay o (own (p ∷ ps)) a ≡ lay o (given entry (p ∷ ps)) a
      go (inl e) i = rw (e, i (o + bytes_of p.bits)) refl
      go (inr e) i =
          let h = ltb-false 0 p.bits e in
          let z : bytes_of p.bits ≡ 0 = omega arith in
          let n : within o 0 a ≡ false = ⊎_elim (λ s. before o 0 a s) (⊎_elim (λ s. absurd (omega arith)) (λ s. behind o 0 a s)) (where-is o 0 a) in
          let y : o + 0 ≡ o = omega arith in
          rw (e, z, n, y) (i o)

-- an entry that isn't come back to is that of the next, or of none
not_back : (k : ℕ) (us : List Use) → comes_back k us ≡ false → Each (λ (u : Use). 0 < u.size) us → Fresh k us ⊎ Next k us
not_back k [] e s = inl tt
not_back k (u ∷ us) e s = go (either (eqb u.entry k))
  where
    go : (eqb u.entry k ≡ true) ⊎ (eqb u.entry k ≡ false) → Fresh k (u ∷ us) ⊎ Next k (u ∷ us)
    go (inl h) = inr (eqb-true u.entry k h, s.0)
    go (inr h) =
        let f = or-none (some_on k us) (comes_back k us) (rw h at e) in
        inl (eqb-false u.entry k h, none_of (λ (v : Use). eqb v.entry k) (λ (v : Use). v.entry ≡ k → ⊥) (λ v z. eqb-false v.entry k z) us f.0)

-- so nonempty uses of which none is interrupted stand together
whole-runs : (us : List Use) → ((k : ℕ) → k < 16 → interrupted k us ≡ false) → Each (λ (u : Use). u.entry < 16) us → Each (λ (u : Use). 0 < u.size) us → Grouped us
whole-runs [] w p s = tt
whole-runs (u ∷ us) w p s =
    let f : (k : ℕ) → k < 16 → (eqb u.entry k && comes_back k us ≡ false) × (interrupted k us ≡ false) =
    λ k h. or-none (eqb u.entry k && comes_back k us) (interrupted k us) (w k h) in
    let at-mine = (f u.entry p.0).0 in
    let mine : comes_back u.entry us ≡ false = rw (eq-eqb u.entry u.entry refl) at at-mine in
    (⊎_elim (λ h. inl h) (λ n. inr (s.0, n)) (not_back u.entry us mine s.1), whole-runs us (λ k h. (f k h).1) p.1 s.1)

-- entries used by one list of two alone
unshared : (all vs : List Use) → ((k : ℕ) → k < 16 → some_on k all && some_on k vs ≡ false) → (us : List Use) → ((k : ℕ) → some_on k us ≡ true → some_on k all ≡ true)
    → Each (λ (u : Use). u.entry < 16) us → Apart us vs
unshared all vs n [] w p = tt
unshared all vs n (u ∷ us) w p =
    let here : some_on u.entry all ≡ true = w u.entry (rw (eq-eqb u.entry u.entry refl) refl) in
    let at-mine = n u.entry p.0 in
    let none : some_on u.entry vs ≡ false = rw here at at-mine in (
      none_of (λ (v : Use). eqb v.entry u.entry) (λ (v : Use). v.entry ≡ u.entry → ⊥) (λ v z. eqb-false v.entry u.entry z) vs none,
      unshared all vs n us (λ k h. w k (or_later (eqb u.entry k) (some_on k us) h)) p.1,
    )
  where
    or_later : (a b : Bool) → b ≡ true → a || b ≡ true
    or_later true b e = refl
    or_later false b e = e

-- one after another on one entry
one_entry : (k : ℕ) (us : List Use) → Each (λ (u : Use). (u.entry ≡ k) × (0 < u.size)) us → Grouped us
one_entry k [] e = tt
one_entry k (u ∷ []) e = (inl tt, tt)
one_entry k (u ∷ v ∷ us) e = (inr (e.0.1, (e.1.0.0 ∙ sym e.0.0, e.1.0.1)), one_entry k (v ∷ us) e.1)

shared-on : (k : ℕ) (ps : List Piece) → Each (λ (u : Use). (u.entry ≡ k) × (0 < u.size)) (given (λ n. k) ps)
shared-on k ps = given-on (λ n. k) (λ p. Unit {0}) ps (each_of (λ (p : Piece). Unit {0}) (λ p. tt) ps) (λ (u : Use). (u.entry ≡ k) × (0 < u.size)) (λ p h s. (refl, s))

first_with-le : (w : ℕ) (xs : List ℕ) → first_with w xs ≤ length xs
unfolding first_with
first_with-le w [] = omega arith
first_with-le w (x ∷ xs) = go (eqb x w) (first_with-le w xs)
  where
    go : (b : Bool) → first_with w xs ≤ length xs → cond b zero (suc (first_with w xs)) ≤ suc (length xs)
    go true h = omega arith
    go false h = omega arith

first_with-hit : (w : ℕ) (xs : List ℕ) → first_with w xs < length xs → get_or xs (first_with w xs) 0 ≡ w
unfolding first_with
first_with-hit w [] h = absurd (not-suc-le-zero h)
first_with-hit w (x ∷ xs) h = go (either (eqb x w)) (first_with-hit w xs) h
  where
    go : (eqb x w ≡ true) ⊎ (eqb x w ≡ false) → (first_with w xs < length xs → get_or xs (first_with w xs) 0 ≡ w)
        → first_with w (x ∷ xs) < suc (length xs) → get_or (x ∷ xs) (first_with w (x ∷ xs)) 0 ≡ w
    go (inl e) i g = rw e (eqb-true x w e)
    go (inr e) i g = rw e (i (le_of_suc-le-suc (rw e at g)))

-- counting is laying
pub spot-lay : (o a : ℕ) (ps : List Piece) → device_in (spot_in o ps a) ≡ or_none (lay o (own ps) a)
unfolding spot_in lay own
spot-lay o a [] = refl
spot-lay o a (p ∷ ps) = go (within o (bytes_of p.bits) a) (spot-lay (o + bytes_of p.bits) a ps)
  where
    go : (b : Bool) → device_in (spot_in (o + bytes_of p.bits) ps a) ≡ or_none (lay (o + bytes_of p.bits) (own ps) a)
        → device_in (cond b (some (spot_at p.number p.address (a - o))) (spot_in (o + bytes_of p.bits) ps a))
        ≡ or_none (cond b (some (named (p.address + (a - o)))) (lay (o + bytes_of p.bits) (own ps) a))
    go true i = refl
    go false i = i

-- both paths, with any multipliers

module _ (d : Data) where
  abbrev coe_uses : List ℕ → PdoDirection → List Use
  coe_uses ws r = given (λ number. coe_entry d r) (pieces_of d ws r)

  path : (P : List Use → Type 0) (mode : FmmuMode) (k : Chosen) (ws : List ℕ) (r : PdoDirection) → (by_coe d ≡ true → P (coe_uses ws r)) → (by_coe d ≡ false → P (by_mode mode k (pieces_of d ws r)))
      → P (uses_of mode k d ws r)
  unfolding uses_of
  path P mode k ws r f g = ⊎_elim (λ e. rw e (f e)) (λ e. rw e (g e)) (either (by_coe d))

  pub count-lay : (mode : FmmuMode) (k : Chosen) (ws : List ℕ) (r : PdoDirection) (o a : ℕ) → lay o (own (pieces_of d ws r)) a ≡ lay o (uses_of mode k d ws r) a
  count-lay mode k ws r o a =
      path (λ us. lay o (own (pieces_of d ws r)) a ≡ lay o us a) mode k ws r (λ c. given-lay (λ number. coe_entry d r) o a (pieces_of d ws r)) (λ c. go mode)
    where
      go : (m : FmmuMode) → lay o (own (pieces_of d ws r)) a ≡ lay o (by_mode m k (pieces_of d ws r)) a
      go OwnNumber = refl
      go Paired = given-lay (λ number. get_or k.entries number 0) o a (pieces_of d ws r)

  -- by refusal 7, an entry that CoE uses is there
  coe-place : (ws : List ℕ) (r : PdoDirection) → by_coe d ≡ true → no_entry d ws r ≡ false → (coe_entry d r < length d.usages) ⊎ (coe_uses ws r ≡ [])
  unfolding no_entry
  coe-place ws r c n = go (either (eqb (coe_entry d r) (length d.usages))) (either (some_of (λ (p : Piece). ltb 0 p.bits) (pieces_of d ws r)))
    where
      go : (eqb (coe_entry d r) (length d.usages) ≡ true) ⊎ (eqb (coe_entry d r) (length d.usages) ≡ false)
          → (some_of (λ (p : Piece). ltb 0 p.bits) (pieces_of d ws r) ≡ true) ⊎ (some_of (λ (p : Piece). ltb 0 p.bits) (pieces_of d ws r) ≡ false)
          → (coe_entry d r < length d.usages) ⊎ (coe_uses ws r ≡ [])
      go (inr e) s =
          let h = first_with-le (fmmu_usage_of r) d.usages in
          let z : first_with (fmmu_usage_of r) d.usages ≢ length d.usages = eqb-false (coe_entry d r) (length d.usages) e in
          inl (omega arith)
      go (inl e) (inl s) = absurd (true≢false (sym (rw (c, s, e) refl) ∙ n))
      go (inl e) (inr s) =
          inr (given-none (λ number. coe_entry d r) (pieces_of d ws r) (none_of (λ (p : Piece). ltb 0 p.bits) (λ (p : Piece). ltb 0 p.bits ≡ false) (λ p e. e) (pieces_of d ws r) s))

  -- the two directions want different sync managers, and different entries
  own-both : (ws : List ℕ) (r : PdoDirection) → Apart (own (pieces_of d ws r)) (own (pieces_of d ws (other r)))
  unfolding pieces_of
  own-both ws MasterRead = own-apart 4 3 _ _ (λ z. omega arith) 0 d.managers
  own-both ws MasterWrite = own-apart 3 4 _ _ (λ z. omega arith) 0 d.managers

  usages-differ : (r : PdoDirection) → fmmu_usage_of r ≡ fmmu_usage_of (other r) → ⊥
  usages-differ MasterRead e = omega arith
  usages-differ MasterWrite e = omega arith

  -- on the CoE path by refusal 7 of the one direction alone
  coe-both : (ws : List ℕ) (r : PdoDirection) → by_coe d ≡ true → no_entry d ws r ≡ false → Apart (coe_uses ws r) (coe_uses ws (other r))
  coe-both ws r c n = by-coe c (same_or_not (coe_entry d r) (coe_entry d (other r)))
    where
      clash : coe_entry d r ≡ coe_entry d (other r) → coe_entry d r < length d.usages → ⊥
      clash e h =
          let x = first_with-hit (fmmu_usage_of r) d.usages h in
          let y = first_with-hit (fmmu_usage_of (other r)) d.usages (subst (λ (k : ℕ). k < length d.usages) e h) in
          usages-differ r (sym x ∙ ap (λ (k : ℕ). get_or d.usages k 0) e ∙ y)

      by-coe : by_coe d ≡ true → (coe_entry d r ≡ coe_entry d (other r)) ⊎ (coe_entry d r ≡ coe_entry d (other r) → ⊥) → Apart (coe_uses ws r) (coe_uses ws (other r))
      by-coe c (inl e) = ⊎_elim (λ h. absurd (clash e h)) (λ z. subst (λ (l : List Use). Apart l (coe_uses ws (other r))) (sym z) tt) (coe-place ws r c n)
      by-coe c (inr e) =
          each_map (λ (u : Use). (u.entry ≡ coe_entry d r) × (0 < u.size)) (λ (u : Use). Fresh u.entry (coe_uses ws (other r)))
          (λ u f.
          each_map (λ (v : Use). (v.entry ≡ coe_entry d (other r)) × (0 < v.size)) (λ (v : Use). v.entry ≡ u.entry → ⊥)
          (λ v g z. e (sym f.0 ∙ sym z ∙ g.0))
          (coe_uses ws (other r)) (shared-on (coe_entry d (other r)) (pieces_of d ws (other r))))
          (coe_uses ws r) (shared-on (coe_entry d r) (pieces_of d ws r))

-- an empty list: each on its own number, so that no entry is interrupted or of both directions
none-below-it : (k : ℕ) (us : List Use) → Each (λ (u : Use). k < u.entry) us → some_on k us ≡ false
none-below-it k [] e = refl
none-below-it k (u ∷ us) e = let h = e.0 in rw (ne_eqb u.entry k (λ z. omega arith), none-below-it k us e.1) refl

never_back : (k : ℕ) (us : List Use) → Each (λ (u : Use). k < u.entry) us → comes_back k us ≡ false
never_back k [] e = refl
never_back k (u ∷ us) e =
    (λ i. (not (eqb u.entry k) && none-below-it k us e.1 i) || never_back k us e.1 i) ∙ ap (λ (b : Bool). b || false) (and-false (not (eqb u.entry k)))

one_more : (k : ℕ) (u : Use) (us : List Use) → Each (λ (v : Use). u.entry < v.entry) us → interrupted k us ≡ false → interrupted k (u ∷ us) ≡ false
one_more k u us e i = ⊎_elim here (λ h. rw h i) (either (eqb u.entry k))
  where
    here : eqb u.entry k ≡ true → interrupted k (u ∷ us) ≡ false
    here h =
        let back = never_back k us (subst (λ (n : ℕ). Each (λ (v : Use). n < v.entry) us) (eqb-true u.entry k h) e) in
        (λ j. (eqb u.entry k && back j) || i j) ∙ ap (λ (b : Bool). b || false) (and-false (eqb u.entry k))

abbrev own_number : ℕ → ℕ
own_number n = n

rising : (w : ℕ) (bits : ℕ → ℕ) (i : ℕ) (ms : List SyncManager) → Each (λ (u : Use). i < u.entry) (given own_number (pieces_from w bits (suc i) ms))
rising w bits i ms =
    given-on own_number (λ (p : Piece). suc i ≤ p.number) (pieces_from w bits (suc i) ms)
    (pieces-each w bits (λ (p : Piece). suc i ≤ p.number) (suc i) ms (λ m. Unit {0}) (each_of (λ (m : SyncManager). Unit {0}) (λ m. tt) ms) (λ k m h g e. h))
    (λ (u : Use). i < u.entry) (λ p h s. h)

with-piece : (k : ℕ) (p : Piece) (ps : List Piece) → Each (λ (u : Use). p.number < u.entry) (given own_number ps) → interrupted k (given own_number ps) ≡ false
    → interrupted k (given own_number (p ∷ ps)) ≡ false
unfolding given
with-piece k p ps e h = go (ltb 0 p.bits)
  where
    go : (b : Bool) → interrupted k (cond b (use_of p.number p ∷ given own_number ps) (given own_number ps)) ≡ false
    go true = one_more k (use_of p.number p) (given own_number ps) e h
    go false = h

never-interrupted : (w : ℕ) (bits : ℕ → ℕ) (k i : ℕ) (ms : List SyncManager) → interrupted k (given own_number (pieces_from w bits i ms)) ≡ false
unfolding pieces_from given
never-interrupted w bits k i [] = refl
never-interrupted w bits k i (m ∷ ms) = go (eqb m.usage_type w) (never-interrupted w bits k (suc i) ms)
  where
    go : (b : Bool) → interrupted k (given own_number (pieces_from w bits (suc i) ms)) ≡ false
        → interrupted k (given own_number (cond b (record { number = i; bits = bits i; address = m.start_addr } ∷ pieces_from w bits (suc i) ms) (pieces_from w bits (suc i) ms))) ≡ false
    go true h = with-piece k (record { number = i; bits = bits i; address = m.start_addr }) (pieces_from w bits (suc i) ms) (rising w bits i ms) h
    go false h = h

-- what every use by own numbers has, every nonempty one has
nonempty-too : (P : Use → Type 0) (ps : List Piece) → Each P (own ps) → Each P (given own_number ps)
unfolding own given
nonempty-too P [] e = tt
nonempty-too P (p ∷ ps) e = go (ltb 0 p.bits) (nonempty-too P ps e.1)
  where
    go : (b : Bool) → Each P (given own_number ps) → Each P (cond b (use_of p.number p ∷ given own_number ps) (given own_number ps))
    go true r = (e.0, r)
    go false r = r

never-shared : (k : ℕ) (us vs : List Use) → Apart us vs → some_on k us && some_on k vs ≡ false
never-shared k [] vs a = refl
never-shared k (u ∷ us) vs a = ⊎_elim (λ h. here h) (λ h. rw h (never-shared k us vs a.1)) (either (eqb u.entry k))
  where
    here : eqb u.entry k ≡ true → some_on k (u ∷ us) && some_on k vs ≡ false
    here h =
        let free = subst (λ (n : ℕ). Fresh n vs) (eqb-true u.entry k h) a.0 in
        ap (λ (b : Bool). some_on k (u ∷ us) && b) (of_none (λ (v : Use). eqb v.entry k) (λ (v : Use). v.entry ≡ k → ⊥) (λ v z. ne_eqb v.entry k z) vs free)
        ∙ and-false (some_on k (u ∷ us))

-- without 18, on the EEPROM path: no pair number is above 15, and no entry is bad
module _ (d : Data) (k : Chosen) (ws : List ℕ) (path : by_coe d ≡ false) (good : bad_pairs Paired k d ws ≡ false) where
  abbrev inputs : List Use
  inputs = paired k (pieces_of d ws MasterRead)

  abbrev outputs : List Use
  outputs = paired k (pieces_of d ws MasterWrite)

  parts : (number_above k ≡ false) × (some_below (bad_entry inputs outputs) 16 ≡ false)
  unfolding bad_pairs
  parts = or-none (number_above k) (some_below (bad_entry inputs outputs) 16) (rw path at good)

  entry-below : (n : ℕ) → n < 16 → get_or k.entries n 0 < 16
  entry-below n h =
      let past : ℕ → Bool = λ j. ltb 15 (get_or k.entries j 0) in
      let e = ltb-false 15 (get_or k.entries n 0) (none_below past 16 (or-none k.above (some_below past 16) parts.0).1 n h) in
      omega arith

  sound : (j : ℕ) → j < 16 → (some_on j inputs && some_on j outputs ≡ false) × ((interrupted j inputs ≡ false) × (interrupted j outputs ≡ false))
  sound j h =
      let f = or-none (some_on j inputs && some_on j outputs) (interrupted j inputs || interrupted j outputs) (none_below (bad_entry inputs outputs) 16 parts.1 j h) in
      (f.0, or-none (interrupted j inputs) (interrupted j outputs) f.1)

  -- an entry of each direction
  whole-at : (r : PdoDirection) (j : ℕ) → j < 16 → interrupted j (paired k (pieces_of d ws r)) ≡ false
  whole-at MasterRead j h = (sound j h).1.0
  whole-at MasterWrite j h = (sound j h).1.1

  pairs-both : Each (λ (u : Use). u.entry < 16) inputs → (r : PdoDirection) → Apart (paired k (pieces_of d ws r)) (paired k (pieces_of d ws (other r)))
  pairs-both p MasterRead = unshared inputs outputs (λ j h. (sound j h).0) inputs (λ j h. h) p
  pairs-both p MasterWrite = apart-flip inputs outputs (unshared inputs outputs (λ j h. (sound j h).0) inputs (λ j h. h) p)

-- so an empty list of pairs gives no 18
module _ (d : Data) (few : length d.managers ≤ 16) (ws : List ℕ) where
  numbers-below : (r : PdoDirection) → Each (λ (p : Piece). p.number < 16) (pieces_of d ws r)
  unfolding pieces_of
  numbers-below r =
      pieces-each (usage_of r) (λ k. bits_of (path_kind d r) k d.pdos ws) (λ (p : Piece). p.number < 16) 0 d.managers (λ m. Unit {0}) (each_of (λ (m : SyncManager). Unit {0}) (λ m. tt) d.managers)
      (λ k m h g e. omega arith)

  number_is : (n : ℕ) → n < 16 → get_or (chosen_of []).entries n 0 ≡ n
  unfolding entry_for
  number_is n h = get_d-list_of (entry_for []) 16 n 0 h

  -- no pair means the own number
  pub no_pairs : (r : PdoDirection) → paired (chosen_of []) (pieces_of d ws r) ≡ given own_number (pieces_of d ws r)
  unfolding given
  no_pairs r = go (pieces_of d ws r) (numbers-below r)
    where
      go : (ps : List Piece) → Each (λ (p : Piece). p.number < 16) ps → paired (chosen_of []) ps ≡ given own_number ps
      go [] e = refl
      go (p ∷ ps) e = λ i. cond (ltb 0 p.bits) (use_of (number_is p.number e.0 i) p ∷ go ps e.1 i) (go ps e.1 i)

  whole : (r : PdoDirection) (k : ℕ) → interrupted k (paired (chosen_of []) (pieces_of d ws r)) ≡ false
  unfolding pieces_of
  whole r k = ap (interrupted k) (no_pairs r) ∙ never-interrupted (usage_of r) (λ j. bits_of (path_kind d r) j d.pdos ws) k 0 d.managers

  unmet : (k : ℕ) → some_on k (paired (chosen_of []) (pieces_of d ws MasterRead)) && some_on k (paired (chosen_of []) (pieces_of d ws MasterWrite)) ≡ false
  unmet k =
      (λ i. some_on k (no_pairs MasterRead i) && some_on k (no_pairs MasterWrite i))
      ∙ never-shared k (given own_number (pieces_of d ws MasterRead)) (given own_number (pieces_of d ws MasterWrite))
      (nonempty-too (λ (u : Use). Fresh u.entry (given own_number (pieces_of d ws MasterWrite))) (pieces_of d ws MasterRead)
      (each_map (λ (u : Use). Fresh u.entry (own (pieces_of d ws MasterWrite))) (λ (u : Use). Fresh u.entry (given own_number (pieces_of d ws MasterWrite)))
      (λ u f. nonempty-too (λ (v : Use). v.entry ≡ u.entry → ⊥) (pieces_of d ws MasterWrite) f)
      (own (pieces_of d ws MasterRead)) (own-both d ws MasterRead)))

  none_above : number_above (chosen_of []) ≡ false
  unfolding some_below list_of entry_for
  none_above = refl

  pub none-bad : bad_pairs Paired (chosen_of []) d ws ≡ false
  unfolding bad_pairs
  none-bad =
      let us = paired (chosen_of []) (pieces_of d ws MasterRead) in
      let vs = paired (chosen_of []) (pieces_of d ws MasterWrite) in
      let fine = some-none (bad_entry us vs) 16 (λ k h. λ i. unmet k i || (whole MasterRead k i || whole MasterWrite k i)) in
      (λ i. not (by_coe d) && (none_above i || fine i)) ∙ and-false (not (by_coe d))

-- what the general law asks of a list of uses, before any refusal but 7 and 18
pub record Sane (us : List Use) : Type 0 where
  pub grouped : Grouped us
  pub places : Each (λ (u : Use). u.entry < 16) us
  pub addresses : Each (λ (u : Use). u.at < 65536) us

module _ (d : Data) (b : Bounded d) (ws : List ℕ) (r : PdoDirection) where
  pieces-bounded : Each (λ (p : Piece). (p.number < 16) × (p.address < 65536)) (pieces_of d ws r)
  unfolding pieces_of
  pieces-bounded =
      let m = b.managers in
      pieces-each (usage_of r) (λ k. bits_of (path_kind d r) k d.pdos ws) (λ (p : Piece). (p.number < 16) × (p.address < 65536)) 0 d.managers
      (λ (m : SyncManager). m.start_addr < 65536) b.addresses (λ k m h g a. (omega arith, a))

  own-sane : Sane (own (pieces_of d ws r))
  unfolding pieces_of
  own-sane =
      record {
        grouped = own-grouped (usage_of r) (λ k. bits_of (path_kind d r) k d.pdos ws) 0 d.managers;
        places = own-each (λ (p : Piece). (p.number < 16) × (p.address < 65536)) (λ (u : Use). u.entry < 16) (λ p h. h.0) (pieces_of d ws r) pieces-bounded;
        addresses = own-each (λ (p : Piece). (p.number < 16) × (p.address < 65536)) (λ (u : Use). u.at < 65536) (λ p h. h.1) (pieces_of d ws r) pieces-bounded;
      }

  coe-sane : by_coe d ≡ true → no_entry d ws r ≡ false → Sane (coe_uses d ws r)
  coe-sane c n =
      let on = shared-on (coe_entry d r) (pieces_of d ws r) in
      record {
        grouped = one_entry (coe_entry d r) (coe_uses d ws r) on;
        places =
            ⊎_elim
            (λ h. let m = b.usages in each_map (λ (u : Use). (u.entry ≡ coe_entry d r) × (0 < u.size)) (λ (u : Use). u.entry < 16) (λ u g. omega arith) (coe_uses d ws r) on)
            (λ e. subst (λ (l : List Use). Each (λ (u : Use). u.entry < 16) l) (sym e) tt)
            (coe-place d ws r c n);
        addresses = given-on (λ number. coe_entry d r) (λ (p : Piece). (p.number < 16) × (p.address < 65536)) (pieces_of d ws r) pieces-bounded (λ (u : Use). u.at < 65536) (λ p h s. h.1);
      }

  paired-sane : (k : Chosen) → by_coe d ≡ false → bad_pairs Paired k d ws ≡ false → Sane (paired k (pieces_of d ws r))
  paired-sane k c g =
      let entry : ℕ → ℕ = λ number. get_or k.entries number 0 in
      let places = given-on entry (λ (p : Piece). (p.number < 16) × (p.address < 65536)) (pieces_of d ws r) pieces-bounded (λ (u : Use). u.entry < 16)
      (λ p h s. entry-below d k ws c g p.number h.0) in
      record {
        grouped =
            whole-runs (paired k (pieces_of d ws r)) (whole-at d k ws c g r) places
            (given-on entry (λ (p : Piece). Unit {0}) (pieces_of d ws r) (each_of (λ (p : Piece). Unit {0}) (λ p. tt) (pieces_of d ws r)) (λ (u : Use). 0 < u.size) (λ p h s. s));
        places = places;
        addresses = given-on entry (λ (p : Piece). (p.number < 16) × (p.address < 65536)) (pieces_of d ws r) pieces-bounded (λ (u : Use). u.at < 65536) (λ p h s. h.1);
      }

  pub sane : (mode : FmmuMode) (k : Chosen) → bad_pairs mode k d ws ≡ false → no_entry d ws r ≡ false → Sane (uses_of mode k d ws r)
  sane mode k g n = path d Sane mode k ws r (λ c. coe-sane c n) (λ c. go mode c g)
    where
      go : (m : FmmuMode) → by_coe d ≡ false → bad_pairs m k d ws ≡ false → Sane (by_mode m k (pieces_of d ws r))
      go OwnNumber c g = own-sane
      go Paired c g = paired-sane k c g

-- so the two directions share no entry
module _ (d : Data) (b : Bounded d) (ws : List ℕ) (r : PdoDirection) where
  apart_in : (m : FmmuMode) (k : Chosen) → bad_pairs m k d ws ≡ false → by_coe d ≡ false → Apart (by_mode m k (pieces_of d ws r)) (by_mode m k (pieces_of d ws (other r)))
  apart_in OwnNumber k g c = own-both d ws r
  apart_in Paired k g c = pairs-both d k ws c g (paired-sane d b ws MasterRead k c g).places r

  pub apart : (m : FmmuMode) (k : Chosen) → bad_pairs m k d ws ≡ false → no_entry d ws r ≡ false → Apart (uses_of m k d ws r) (uses_of m k d ws (other r))
  unfolding uses_of
  apart m k g e = ⊎_elim (λ c. rw c (coe-both d ws r c e)) (λ c. rw c (apart_in m k g c)) (either (by_coe d))
