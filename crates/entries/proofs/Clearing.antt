-- Old entries cleared: what is asked of an image's bits, and what is left of it.
-- Assumes nothing.
use mathlib.Core.Path.{◌≡◌, refl, sym, ◌∙◌, ap, ap₂}
use mathlib.Core.Bool.{Bool, true, false, cond, ◌&&◌, ◌||◌}
use mathlib.Core.List.{List, [], ◌++◌, map, append-nil}
use Prim.Native.Nat.{ℕ, suc, ◌+◌, ◌<◌, ◌≤◌}
use native.Mathlib.Omega.{arith}
use lib.ListN.{length, get_or, replicate, take, drop, set, length-map, length-append, length-drop, drop_of_length-le}
use lib.Seq.{take_all, drop-cons, set-get_or, get_or_at, length-take-le}
use Rattle.std.proofs.lemmas.List.{get_or_default}
use Rattle.std.proofs.lemmas.List.Edits.{map_over_more}
use Rattle.wire.specs.Lists.{some_of}
use Rattle.wire.proofs.Lists.{or-false, some_next}
use Rattle.fmmu.specs.Image.{fields_of}
use Rattle.pdo.specs.declared.PdoDirection.{PdoDirection}
use Rattle.pdo.specs.declared.PdoDirection.TheVariants.{MasterRead, MasterWrite}
use Rattle.passes.specs.Old.{carries_alone, carries_both, is_old, cleared, cleared_of_both, both_bits}
use Rattle.passes.proofs.Cleared.{zeros-off, old-not-both, cleared-old, cleared-not, cleared-off, both-off, cleared_at}
use Rattle.entries.specs.Ready.{carries_one, on, old_one, Clears}
use Rattle.entries.specs.declared.ready.Left.{Left}

module _ (e : List ℕ) where
  neither-old : is_old MasterRead (fields_of e) ≡ false → is_old MasterWrite (fields_of e) ≡ false → cleared_of_both e ≡ e
  neither-old p q = ap (cleared MasterWrite) (cleared-not MasterRead e p) ∙ cleared-not MasterWrite e q

  -- of an enabled entry its bits decide whether it is old
  module _ (o : on e ≡ true) where
    by-alone : (r : PdoDirection) {b : Bool} → carries_alone r (fields_of e) ≡ b → is_old r (fields_of e) ≡ b
    by-alone r a = λ i. o i && a i

    cleared_by : {b : Bool} → carries_one (fields_of e) ≡ b → cleared_of_both e ≡ cond b (replicate 16 0) e
    cleared_by c = go (carries_alone MasterRead (fields_of e)) (carries_alone MasterWrite (fields_of e)) refl refl ∙ ap (λ (b : Bool). cond b (replicate 16 0) e) c
      where
        go : (x y : Bool) → carries_alone MasterRead (fields_of e) ≡ x → carries_alone MasterWrite (fields_of e) ≡ y → cleared_of_both e ≡ cond (x || y) (replicate 16 0) e
        go true y p q = ap (cleared MasterWrite) (cleared-old MasterRead e (by-alone MasterRead p)) ∙ cleared-off MasterWrite (replicate 16 0) zeros-off
        go false true p q = ap (cleared MasterWrite) (cleared-not MasterRead e (by-alone MasterRead p)) ∙ cleared-old MasterWrite e (by-alone MasterWrite q)
        go false false p q = neither-old (by-alone MasterRead p) (by-alone MasterWrite q)

  -- so an old one is set to zero, and any other stays
  pub cleared_if : {b : Bool} → b ≡ old_one e → cond b (replicate 16 0) e ≡ cleared_of_both e
  cleared_if {b} h = go (on e) refl
    where
      go : (x : Bool) → on e ≡ x → cond b (replicate 16 0) e ≡ cleared_of_both e
      go true o = ap (λ (c : Bool). cond c (replicate 16 0) e) (h ∙ ap (λ (x : Bool). x && carries_one (fields_of e)) o) ∙ sym (cleared_by o refl)
      go false o = ap (λ (c : Bool). cond c (replicate 16 0) e) (h ∙ ap (λ (x : Bool). x && carries_one (fields_of e)) o) ∙ sym (both-off e o)

  -- the clearing leaves those with both bits, and makes none
  both-kept : both_bits (cleared_of_both e) ≡ both_bits e
  both-kept = go (is_old MasterRead (fields_of e)) (is_old MasterWrite (fields_of e)) refl refl
    where
      zeroed : cleared_of_both e ≡ replicate 16 0 → both_bits e ≡ false → both_bits (cleared_of_both e) ≡ both_bits e
      zeroed z b = ap both_bits z ∙ ap (λ (o : Bool). o && carries_both (fields_of (replicate 16 0))) zeros-off ∙ sym b

      go : (x y : Bool) → is_old MasterRead (fields_of e) ≡ x → is_old MasterWrite (fields_of e) ≡ y → both_bits (cleared_of_both e) ≡ both_bits e
      go true y p q = zeroed (ap (cleared MasterWrite) (cleared-old MasterRead e p) ∙ cleared-off MasterWrite (replicate 16 0) zeros-off) (old-not-both MasterRead e p)
      go false true p q = zeroed (ap (cleared MasterWrite) (cleared-not MasterRead e p) ∙ cleared-old MasterWrite e q) (old-not-both MasterWrite e q)
      go false false p q = ap both_bits (neither-old p q)

  -- what is known of an old one, of one that is disabled, and of any other
  pub gone-off : old_one e ≡ true → (on (cleared_of_both e) ≡ false) × (both_bits e ≡ false)
  gone-off o =
      let zeroed : cleared_of_both e ≡ replicate 16 0 = sym (cleared_if (sym o)) in
      (ap on zeroed ∙ zeros-off, sym both-kept ∙ ap both_bits zeroed ∙ ap (λ (x : Bool). x && carries_both (fields_of (replicate 16 0))) zeros-off)

  pub others-stay : old_one e ≡ false → cleared_of_both e ≡ e
  others-stay o = sym (cleared_if (sym o))

  off-not-old : on e ≡ false → old_one e ≡ false
  off-not-old o = ap (λ (x : Bool). x && carries_one (fields_of e)) o

  pub off-not-both : on e ≡ false → both_bits e ≡ false
  off-not-both o = ap (λ (x : Bool). x && carries_both (fields_of e)) o

or-true : (b : Bool) → true ≡ b || true
or-true true = refl
or-true false = refl

or-swap : (a b : Bool) → a || b ≡ b || a
or-swap true b = or-true b
or-swap false b = sym (or-false b)

-- the first i entries are cleared, and what is still enabled of them
pub record Clearing (before : List (List ℕ)) (i : ℕ) (now : List (List ℕ)) (enabled both : Bool) : Type 0 where
  pub holds : now ≡ map cleared_of_both (take i before) ++ drop i before
  pub some : enabled ≡ some_of on (take i (map cleared_of_both before))
  pub twice : both ≡ some_of both_bits (take i before)

pub clearing-starts : (before : List (List ℕ)) → Clearing before 0 before false false
clearing-starts before = record { holds = refl; some = refl; twice = refl }

-- by another name
pub clearing-at :
    {before : List (List ℕ)} {i : ℕ} {now after : List (List ℕ)} {left then : Left} → Clearing before i now left.enabled left.both → after ≡ now → then ≡ left
    → Clearing before i after then.enabled then.both
clearing-at c a e = record { holds = a ∙ c.holds; some = ap (λ (l : Left). l.enabled) e ∙ c.some; twice = ap (λ (l : Left). l.both) e ∙ c.twice }

module _ {before : List (List ℕ)} {i : ℕ} {now : List (List ℕ)} {enabled both : Bool} (c : Clearing before i now enabled both) where
  -- all are cleared
  pub clearing-ends : length before ≤ i → Clears before now enabled both
  clearing-ends h =
      let n = length-map before cleared_of_both in
      record {
        holds = c.holds ∙ ap₂ (λ (x y : List (List ℕ)). map cleared_of_both x ++ y) (take_all i before h) (drop_of_length-le before h) ∙ append-nil (map cleared_of_both before);
        some = c.some ∙ ap (some_of on) (take_all i (map cleared_of_both before) (omega arith));
        twice = c.twice ∙ ap (some_of both_bits) (take_all i before h);
      }

  module _ (h : i < length before) where
    -- the next entry is still as it was
    untouched : get_or now i [] ≡ get_or before i []
    untouched =
        let front = map cleared_of_both (take i before) in
        let long : length front ≡ i = length-map (take i before) cleared_of_both ∙ length-take-le i before (omega arith) in
        ap (λ (l : List (List ℕ)). get_or l i []) (c.holds ∙ ap (λ (l : List (List ℕ)). front ++ l) (drop-cons before i [] h)) ∙ get_or_at front (get_or before i []) (drop (suc i) before) [] i long

    -- a turn, by what becomes of it
    turned :
        {after : List (List ℕ)} {en bo : Bool} → after ≡ set now i (cleared_of_both (get_or now i [])) → en ≡ enabled || on (cleared_of_both (get_or now i [])) → bo ≡ both || both_bits (get_or now i [])
        → Clearing before (i + 1) after en bo
    turned a e b =
        let n = length-map before cleared_of_both in
        let at : cleared_of_both (get_or now i []) ≡ get_or (map cleared_of_both before) i [] = ap cleared_of_both untouched ∙ sym (cleared_at before i) in
        record {
          holds = a ∙ map_over_more cleared_of_both before now i (get_or now i []) h c.holds (get_or_default now i [] (get_or now i []) (omega (arith, few)));
          some = e ∙ (λ i2. c.some i2 || on (at i2)) ∙ sym (some_next on (map cleared_of_both before) i [] (omega arith));
          twice = b ∙ (λ i2. c.twice i2 || both_bits (untouched i2)) ∙ sym (some_next both_bits before i [] h);
        }
      where
        few : i < length now
        few = let e = ap length c.holds ∙ length-append (map cleared_of_both (take i before)) (drop i before) in
            let f = length-map (take i before) cleared_of_both ∙ length-take-le i before (omega arith) in
            let g = length-drop i before in omega arith

    -- an old one is set to zero; one that is disabled, and any other, stays
    pub turned-old : old_one (get_or now i []) ≡ true → Clearing before (i + 1) (set now i (replicate 16 0)) enabled both
    turned-old o =
        let f = gone-off (get_or now i []) o in
        turned (ap (set now i) (cleared_if (get_or now i []) (sym o))) (sym (or-false enabled) ∙ ap (λ (x : Bool). enabled || x) (sym f.0)) (sym (or-false both) ∙ ap (λ (x : Bool). both || x) (sym f.1))

    same : old_one (get_or now i []) ≡ false → now ≡ set now i (cleared_of_both (get_or now i []))
    same o = sym (ap (set now i) (others-stay (get_or now i []) o) ∙ set-get_or now i [])

    pub turned-off : on (get_or now i []) ≡ false → Clearing before (i + 1) now enabled both
    turned-off f =
        let o = off-not-old (get_or now i []) f in
        turned (same o) (sym (or-false enabled) ∙ ap (λ (x : Bool). enabled || x) (sym (ap on (others-stay (get_or now i []) o) ∙ f)))
        (sym (or-false both) ∙ ap (λ (x : Bool). both || x) (sym (off-not-both (get_or now i []) f)))

    pub turned-left : old_one (get_or now i []) ≡ false → on (get_or now i []) ≡ true → {b : Bool} → both_bits (get_or now i []) ≡ b → Clearing before (i + 1) now true (b || both)
    turned-left o f {b} e =
        turned (same o) (or-true enabled ∙ ap (λ (x : Bool). enabled || x) (sym (ap on (others-stay (get_or now i []) o) ∙ f)))
        (or-swap b both ∙ ap (λ (x : Bool). both || x) (sym e))
