-- A survey of uses from the last to the first: one more in front, the numbers that have bits, and its two ends.
-- Assumes nothing.
use mathlib.Core.Path.{◌≡◌, refl, sym, ◌∙◌, ap, subst}
use mathlib.Core.Bool.{Bool, true, false, cond, not, ◌&&◌, ◌||◌, and-false, or-false, or_self_left, or_assoc, or_comm}
use mathlib.Core.List.{List, [], ◌∷◌}
use Prim.Native.Nat.{ℕ, zero, suc, ◌+◌, ◌-◌, ◌≤◌, ◌<◌}
use native.Mathlib.Omega.{arith}
use lib.ListN.{length, get_or, set, replicate, length-set, get_or-eq_default}
use lib.Seq.{ext_get_or, get_or-set_same, get_or-set_other}
use lib.Dec.{eqb, ltb}
use borrow.Author.Tests.{eq-eqb, ne_eqb, eqb-true, eqb-false, lt-ltb, le-ltb, ltb-true, ltb-false}
use Rattle.std.specs.List.{list_any, zip}
use Rattle.wire.specs.Lists.{list_of, some_below}
use Rattle.wire.proofs.Lists.{some-hit, some-none, some_same, length-list_of, get_d-list_of}
use Rattle.pdi.specs.declared.BitLen.{BitLen}
use Rattle.passes.specs.Use.{Use}
use Rattle.passes.specs.Pairs.{some_on, comes_back, interrupted}
use Rattle.wanted.specs.declared.Entered.{Entered}
use Rattle.wanted.specs.ByKind.{bit_at}
use Rattle.wanted.specs.Judged.{uses_from, uses_in, with_use, Surveys}

-- a question by number that is one of two
pub some_or : (f g : ℕ → Bool) (n : ℕ) → some_below (λ k. f k || g k) n ≡ some_below f n || some_below g n
unfolding some_below
some_or f g zero = refl
some_or f g (suc n) = ap (λ (b : Bool). b || (f n || g n)) (some_or f g n) ∙ swap (some_below f n) (some_below g n) (f n) (g n)
  where
    swap : (a b c d : Bool) → (a || b) || (c || d) ≡ (a || c) || (b || d)
    swap true b c d = refl
    swap false true true d = refl
    swap false true false d = refl
    swap false false c d = refl

-- a question by number: its first part
pub some_first : (f : ℕ → Bool) (n : ℕ) → some_below f (suc n) ≡ f 0 || some_below (λ j. f (suc j)) n
unfolding some_below
some_first f zero = sym (or-false (f 0))
some_first f (suc n) = ap (λ (b : Bool). b || f (suc n)) (some_first f n) ∙ or_assoc (f 0) (some_below (λ j. f (suc j)) n) (f (suc n))

-- it is asked of each element of a list; of each two of a pair of lists
pub some-element : {A : Type 0} (f : A → Bool) (d : A) (l : List A) → list_any f l ≡ some_below (λ k. f (get_or l k d)) (length l)
unfolding some_below
some-element f d [] = refl
some-element f d (x ∷ l) = ap (λ (b : Bool). f x || b) (some-element f d l) ∙ sym (some_first (λ k. f (get_or (x ∷ l) k d)) (length l))

pub some-pair : (one two : List Bool) → length one ≡ length two
    → list_any (λ (p : Bool × Bool). p.0 && p.1) (zip one two) ≡ some_below (λ k. get_or one k false && get_or two k false) (length one)
unfolding some_below
some-pair [] two e = refl
some-pair (x ∷ one) [] e = absurd (omega (arith, e))
some-pair (x ∷ one) (y ∷ two) e =
    ap (λ (b : Bool). (x && y) || b) (some-pair one two (omega (arith, e)))
    ∙ sym (some_first (λ k. get_or (x ∷ one) k false && get_or (y ∷ two) k false) (length one))

-- it is asked of one number alone; it is asked of one once more
some_at : (f : ℕ → Bool) (e n : ℕ) → e < n → some_below (λ k. eqb e k && f k) n ≡ f e
some_at f e n h = go (f e) refl
  where
    go : (b : Bool) → f e ≡ b → some_below (λ k. eqb e k && f k) n ≡ b
    go true t = some-hit (λ k. eqb e k && f k) e n h (λ i. eq-eqb e e refl i && t i)
    go false t = some-none (λ k. eqb e k && f k) n (λ k l. none k (eqb e k) refl)
      where
        none : (k : ℕ) (b : Bool) → eqb e k ≡ b → b && f k ≡ false
        none k true q = ap f (sym (eqb-true e k q)) ∙ t
        none k false q = refl

some-again : (f : ℕ → Bool) (e n : ℕ) → e < n → f e || some_below f n ≡ some_below f n
some-again f e n h = go (f e) refl
  where
    go : (b : Bool) → f e ≡ b → b || some_below f n ≡ some_below f n
    go true t = sym (some-hit f e n h t)
    go false t = refl

-- what is come back to is used
back-used : (k : ℕ) (us : List Use) → some_on k us || comes_back k us ≡ some_on k us
back-used k [] = refl
back-used k (u ∷ us) = go (eqb u.entry k) (some_on k us) (comes_back k us) (back-used k us)
  where
    go : (e s b : Bool) → s || b ≡ s → (e || s) || ((not e && s) || b) ≡ e || s
    go true s b h = refl
    go false s b h = or_self_left s b ∙ h

-- the entry of the first use, if there is one
abbrev pub First : List Use → ℕ → Type 0
First [] entry = Unit {0}
First (u ∷ us) entry = entry ≡ u.entry

-- where an entry is not interrupted already, it is come back to exactly if it is used, and not by the first
came-back : (k : ℕ) (us : List Use) (first : ℕ) → First us first → comes_back k us || interrupted k us ≡ (not (eqb first k) && some_on k us) || interrupted k us
came-back k [] first h = rw and-false refl
came-back k (u ∷ us) first h =
    go (eqb u.entry k) (some_on k us) (comes_back k us) (interrupted k us) (back-used k us)
    ∙ ap (λ (e : ℕ). (not (eqb e k) && some_on k (u ∷ us)) || interrupted k (u ∷ us)) (sym h)
  where
    go : (e s b t : Bool) → s || b ≡ s → ((not e && s) || b) || ((e && b) || t) ≡ (not e && (e || s)) || ((e && b) || t)
    go true s b t h = or_self_left b t
    go false s b t h = ap (λ (x : Bool). x || t) h

-- whether an entry among sixteen is interrupted, once a use of e is seen in front of the others
module _ (us : List Use) (e first : ℕ) (h : First us first) where
  abbrev some : Bool
  some = some_below (λ k. interrupted k us) 16

  abbrev back : Bool
  back = not (eqb first e) && some_on e us

  -- what it is then
  abbrev then : Bool
  then = some_below (λ k. (eqb e k && comes_back k us) || interrupted k us) 16

  -- what a survey says
  abbrev said : Bool
  said = some || (not (eqb first e) && get_or (list_of (λ k. some_on k us) 16) e false)

  again-here : e < 16 → said ≡ then
  again-here l =
      let once = some-again (λ k. interrupted k us) e 16 l in
      ap (λ (b : Bool). some || (not (eqb first e) && b)) (get_d-list_of (λ k. some_on k us) 16 e false l)
      ∙ or_comm some back
      ∙ ap (λ (b : Bool). back || b) (sym once)
      ∙ sym (or_assoc back (interrupted e us) some)
      ∙ ap (λ (b : Bool). b || some) (sym (came-back e us first h))
      ∙ or_assoc (comes_back e us) (interrupted e us) some
      ∙ ap (λ (b : Bool). comes_back e us || b) once
      ∙ ap (λ (b : Bool). b || some) (sym (some_at (λ k. comes_back k us) e 16 l))
      ∙ sym (some_or (λ k. eqb e k && comes_back k us) (λ k. interrupted k us) 16)

  -- a number past the last one is no entry
  again-nowhere : 16 ≤ e → said ≡ then
  again-nowhere l =
      ap (λ (b : Bool). some || (not (eqb first e) && b)) (get_or-eq_default (list_of (λ k. some_on k us) 16) false (omega (arith, length-list_of (λ k. some_on k us) 16)))
      ∙ ap (λ (b : Bool). some || b) (and-false (not (eqb first e)))
      ∙ or_comm some false
      ∙ some_same (λ k. interrupted k us) (λ k. (eqb e k && comes_back k us) || interrupted k us) 16
      (λ k m. ap (λ (b : Bool). (b && comes_back k us) || interrupted k us) (sym (ne_eqb e k (λ q. omega arith))))

  again : said ≡ then
  again = go (ltb e 16) refl
    where
      go : (b : Bool) → ltb e 16 ≡ b → said ≡ then
      go true t = again-here (ltb-true e 16 t)
      go false t = again-nowhere (ltb-false e 16 t)

-- of a list of answers one becomes yes
set-true : (f : ℕ → Bool) (e n : ℕ) → set (list_of f n) e true ≡ list_of (λ k. eqb e k || f k) n
set-true f e n =
    ext_get_or false (set (list_of f n) e true) (list_of (λ k. eqb e k || f k) n) (length-set (list_of f n) e true ∙ length-list_of f n ∙ sym (length-list_of (λ k. eqb e k || f k) n))
    (λ k l. let m : k < n = omega (arith, length-set (list_of f n) e true, length-list_of f n) in
    go k m (eqb e k) refl ∙ sym (get_d-list_of (λ j. eqb e j || f j) n k false m))
  where
    go : (k : ℕ) → k < n → (b : Bool) → eqb e k ≡ b → get_or (set (list_of f n) e true) k false ≡ b || f k
    go k m true q =
        let s = eqb-true e k q in
        ap (λ (j : ℕ). get_or (set (list_of f n) e true) j false) (sym s) ∙ get_or-set_same (list_of f n) e true false (omega (arith, length-list_of f n))
    go k m false q = get_or-set_other (list_of f n) e k true false (λ s. eqb-false e k q (sym s)) ∙ get_d-list_of f n k false m

-- what is known of uses on the way
pub record Seen (us : List Use) (x : Entered) : Type 0 where
  pub finds : Surveys us x
  pub first : First us x.first

pub seen_none : Seen [] (record { used = replicate 16 false; first = 0; interrupted = false })
unfolding list_of some_below
seen_none = record { finds = record { uses = refl; breaks = refl }; first = tt }

seen_next : (us : List Use) (u : Use) (x : Entered) → Seen us x → Seen (u ∷ us) (with_use x u.entry)
seen_next us u x s =
    let f = s.finds in
    record {
      finds =
          record {
            uses = ap (λ (l : List Bool). set l u.entry true) f.uses ∙ set-true (λ k. some_on k us) u.entry 16;
            breaks = (λ i. f.breaks i || (not (eqb x.first u.entry) && get_or (f.uses i) u.entry false)) ∙ again us u.entry x.first s.first;
          };
      first = refl;
    }

-- a turn: the number before those that are seen, with bits or without, and the end
module _ (bits : List BitLen) (entries : List ℕ) where
  abbrev on : ℕ → Bool
  on k = ltb 0 (bit_at bits k)

  abbrev entry_at : ℕ → ℕ
  entry_at k = get_or entries k 0

  abbrev pub uses_after : ℕ → List Use
  uses_after k = uses_from on entry_at k (16 - k)

  module _ (k next : ℕ) (x : Entered) (e : next ≡ k + 1) (h : k < 16) (s : Seen (uses_after next) x) where
    abbrev mine : Use
    mine = record { entry = entry_at k; size = 0; at = 0 }

    uses : (b : Bool) (n : ℕ) → on k ≡ b → n ≡ suc (16 - next) → uses_from on entry_at k n ≡ cond b (mine ∷ uses_after next) (uses_after next)
    unfolding uses_from
    uses b n t q =
        let p : suc k ≡ next = omega arith in
        ap (uses_from on entry_at k) q ∙ (λ i. cond (t i) (mine ∷ uses_from on entry_at (p i) (16 - next)) (uses_from on entry_at (p i) (16 - next)))

    pub seen-with : (y : Entered) → 0 < bit_at bits k → y ≡ with_use x (entry_at k) → Seen (uses_after k) y
    seen-with y t q =
        let more = seen_next (uses_after next) mine x s in
        subst (λ (us : List Use). Seen us y) (sym (uses true (16 - k) (lt-ltb 0 (bit_at bits k) t) (omega arith))) (subst (λ (z : Entered). Seen (mine ∷ uses_after next) z) (sym q) more)

    pub seen-without : bit_at bits k ≤ 0 → Seen (uses_after k) x
    seen-without t = subst (λ (us : List Use). Seen us x) (sym (uses false (16 - k) (le-ltb 0 (bit_at bits k) t) (omega arith))) s

  pub seen_start : Seen (uses_after 16) (record { used = replicate 16 false; first = 0; interrupted = false })
  unfolding uses_from
  seen_start = seen_none

  pub seen_end : (k : ℕ) (x : Entered) → k ≡ 0 → Seen (uses_after k) x → Surveys (uses_in entries bits) x
  seen_end k x e s = subst (λ (j : ℕ). Surveys (uses_after j) x) e s.finds
