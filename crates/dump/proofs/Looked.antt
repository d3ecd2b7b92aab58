-- What the code looks for is what is meant: the first of a type holds its content, where more are counted than types occur there are two of one, and
-- where there are not two of a type the first of each hold all records.
-- Assumes nothing.
use mathlib.Core.Path.{◌≡◌, refl, sym, ◌∙◌, ap, ap₂}
use mathlib.Core.Bool.{Bool, true, false, cond, ◌&&◌, ◌||◌}
use mathlib.Core.List.{List, [], ◌∷◌, ◌++◌, append-nil}
use Prim.Native.Nat.{ℕ, ◌+◌, ◌≤◌}
use native.Mathlib.Omega.{arith}
use lib.ListN.{length}
use lib.Dec.{eqb, ltb}
use borrow.Author.Tests.{lt-ltb, le-ltb, ltb-true, ltb-false, eqb-true}
use Rattle.wire.specs.Lists.{some_of}
use Rattle.wire.proofs.Lists.{or-none, or-false}
use Rattle.sheet.specs.Device.{Pdo}
use Rattle.dump.specs.Parts.{cut_in, rest_of}
use Rattle.dump.specs.Categories.{type_of, content_of, content_for, how_many}
use Rattle.dump.specs.Records.{manager_long, pdo_long, kind_for, pdos_for, pdos_in, nonempty, not_whole, second, not_records}
use Rattle.dump.proofs.Categories.{found_some}
use Rattle.dump.specs.Looked.{from_type, front_content, known_in, more_than, pdos_from}

module _ (t : ℕ) where
  -- of the first of a type: its content
  pub front-is : (cs : List (List ℕ)) → front_content (from_type t cs) ≡ content_for t cs
  front-is [] = refl
  front-is (c ∷ cs) = go (eqb (type_of c) t) (front-is cs)
    where
      go : (b : Bool) → front_content (from_type t cs) ≡ content_for t cs → front_content (cond b (c ∷ cs) (from_type t cs)) ≡ cond b (content_of c) (content_for t cs)
      go true h = refl
      go false h = h

  -- where there is none, there is no content
  none-for : (cs : List (List ℕ)) → how_many t cs ≡ 0 → content_for t cs ≡ []
  none-for [] e = refl
  none-for (c ∷ cs) e = go (eqb (type_of c) t) e (none-for cs)
    where
      go : (b : Bool) → cond b 1 0 + how_many t cs ≡ 0 → (how_many t cs ≡ 0 → content_for t cs ≡ []) → cond b (content_of c) (content_for t cs) ≡ []
      go true z h = absurd (omega arith)
      go false z h = h (omega arith)

  -- what is asked of the content of each of a type, where there are not two
  module _ (bad : List ℕ → Bool) (right : bad [] ≡ false) where
    abbrev asked : List ℕ → Bool
    asked c = eqb (type_of c) t && bad (content_of c)

    none-asked : (cs : List (List ℕ)) → how_many t cs ≡ 0 → some_of asked cs ≡ false
    none-asked [] e = refl
    none-asked (c ∷ cs) e = go (eqb (type_of c) t) e (none-asked cs)
      where
        go : (b : Bool) → cond b 1 0 + how_many t cs ≡ 0 → (how_many t cs ≡ 0 → some_of asked cs ≡ false) → (b && bad (content_of c)) || some_of asked cs ≡ false
        go true z h = absurd (omega arith)
        go false z h = h (omega arith)

    once : (cs : List (List ℕ)) → how_many t cs ≤ 1 → some_of asked cs ≡ bad (content_for t cs)
    once [] m = sym right
    once (c ∷ cs) m = go (eqb (type_of c) t) m (once cs) (none-asked cs)
      where
        go : (b : Bool) → cond b 1 0 + how_many t cs ≤ 1 → (how_many t cs ≤ 1 → some_of asked cs ≡ bad (content_for t cs)) → (how_many t cs ≡ 0 → some_of asked cs ≡ false)
            → (b && bad (content_of c)) || some_of asked cs ≡ bad (cond b (content_of c) (content_for t cs))
        go true z h n = ap (λ (x : Bool). bad (content_of c) || x) (n (omega arith)) ∙ or-false (bad (content_of c))
        go false z h n = h (omega arith)

-- two conditions of each, together or one after the other
some_or : {A : Type 0} (f g : A → Bool) (l : List A) → some_of (λ x. f x || g x) l ≡ some_of f l || some_of g l
some_or f g [] = refl
some_or f g (x ∷ l) = ap (λ (b : Bool). (f x || g x) || b) (some_or f g l) ∙ go (f x) (g x) (some_of f l) (some_of g l)
  where
    go : (a b c d : Bool) → (a || b) || (c || d) ≡ (a || c) || (b || d)
    go true b c d = refl
    go false true true d = refl
    go false true false d = refl
    go false false c d = refl

some_alike : {A : Type 0} (f g : A → Bool) → ((x : A) → f x ≡ g x) → (l : List A) → some_of f l ≡ some_of g l
some_alike f g e [] = refl
some_alike f g e (x ∷ l) = ap₂ ◌||◌ (e x) (some_alike f g e l)

-- what isn't whole, by type; nothing is whole
abbrev managers_cut : List ℕ → Bool
managers_cut l = nonempty (rest_of manager_long l)

abbrev pdos_cut : List ℕ → Bool
pdos_cut l = nonempty (rest_of pdo_long l)

managers-empty : managers_cut [] ≡ false
unfolding cut_in
managers-empty = refl

pdos-empty : pdos_cut [] ≡ false
unfolding cut_in
pdos-empty = refl

-- a category is asked by its type
module _ (c : List ℕ) where
  abbrev asked_managers : Bool
  asked_managers = eqb (type_of c) 41 && managers_cut (content_of c)

  abbrev asked_pdos : Bool
  asked_pdos = (eqb (type_of c) 50 && pdos_cut (content_of c)) || (eqb (type_of c) 51 && pdos_cut (content_of c))

  not-whole-is : not_whole c ≡ asked_managers || asked_pdos
  not-whole-is = go (eqb (type_of c) 41) (eqb (type_of c) 50) (eqb (type_of c) 51) (λ e f. apart 50 (omega arith) e f) (λ e f. apart 51 (omega arith) e f)
    where
      apart : (t : ℕ) → (t ≡ 41 → ⊥) → eqb (type_of c) 41 ≡ true → eqb (type_of c) t ≡ true → ⊥
      apart t n e f = n (sym (eqb-true (type_of c) t f) ∙ eqb-true (type_of c) 41 e)

      go :
          (x y z : Bool) → (x ≡ true → y ≡ true → ⊥) → (x ≡ true → z ≡ true → ⊥)
          → cond x (managers_cut (content_of c)) (cond (eqb (cond y 1 (cond z 2 0)) 0) false (pdos_cut (content_of c))) ≡ (x && managers_cut (content_of c)) || ((y && pdos_cut (content_of c)) || (z && pdos_cut (content_of c)))
      go true true z a b = absurd (a refl refl)
      go true false true a b = absurd (b refl refl)
      go true false false a b = sym (or-false (managers_cut (content_of c)))
      go false true true a b = sym (or_same (pdos_cut (content_of c)))
        where
          or_same : (b : Bool) → b || b ≡ b
          or_same true = refl
          or_same false = refl
      go false true false a b = sym (or-false (pdos_cut (content_of c)))
      go false false true a b = refl
      go false false false a b = refl

-- of four counts one is above 1 exactly if their sum is above the number of those above 0
abbrev one : Bool → ℕ
one b = cond b 1 0

one_more : (n x y : ℕ) {r : Bool} → x ≤ y → ltb x y ≡ r → (one (ltb 0 n) + x ≤ n + y) × (ltb (one (ltb 0 n) + x) (n + y) ≡ ltb 1 n || r)
one_more n x y {r} h e = go (ltb 0 n) (ltb 1 n) (ltb x y) refl refl refl
  where
    go : (p q z : Bool) → ltb 0 n ≡ p → ltb 1 n ≡ q → ltb x y ≡ z → (one p + x ≤ n + y) × (ltb (one p + x) (n + y) ≡ q || r)
    go true true z a b c = let k = ltb-true 1 n b in (omega arith, lt-ltb (1 + x) (n + y) (omega arith))
    go true false true a b c =
        let k = ltb-true 0 n a in
        let m = ltb-false 1 n b in
        let l = ltb-true x y c in
        (omega arith, lt-ltb (1 + x) (n + y) (omega arith) ∙ sym c ∙ e)
    go true false false a b c =
        let k = ltb-true 0 n a in
        let m = ltb-false 1 n b in
        let l = ltb-false x y c in
        (omega arith, le-ltb (1 + x) (n + y) (omega arith) ∙ sym c ∙ e)
    go false true z a b c = let k = ltb-false 0 n a in let m = ltb-true 1 n b in absurd (omega arith)
    go false false true a b c = let k = ltb-false 0 n a in let l = ltb-true x y c in (omega arith, lt-ltb (0 + x) (n + y) (omega arith) ∙ sym c ∙ e)
    go false false false a b c = let k = ltb-false 0 n a in let l = ltb-false x y c in (omega arith, le-ltb (0 + x) (n + y) (omega arith) ∙ sym c ∙ e)

some-twice :
    (a b c d : ℕ) → ltb (one (ltb 0 a) + one (ltb 0 b) + one (ltb 0 c) + one (ltb 0 d)) (a + (b + (c + d))) ≡ ltb 1 a || (ltb 1 b || (ltb 1 c || (ltb 1 d || false)))
some-twice a b c d =
    let s = one_more d 0 0 (omega arith) refl in
    let r = one_more c _ _ s.0 s.1 in
    let q = one_more b _ _ r.0 r.1 in
    let p = one_more a _ _ q.0 q.1 in
    ap₂ ltb
    (let z : one (ltb 0 a) + one (ltb 0 b) + one (ltb 0 c) + one (ltb 0 d) ≡ one (ltb 0 a) + (one (ltb 0 b) + (one (ltb 0 c) + (one (ltb 0 d) + 0))) = omega arith in z)
    (let z : a + (b + (c + d)) ≡ a + (b + (c + (d + 0))) = omega arith in z)
    ∙ p.1

-- 17: where there are not two of a type, the first of each say whether all are whole
module _ (cs : List (List ℕ)) where
  abbrev pub firsts_cut : Bool
  firsts_cut = managers_cut (content_for 41 cs) || (pdos_cut (content_for 50 cs) || pdos_cut (content_for 51 cs))

  some-cut : how_many 41 cs ≤ 1 → how_many 50 cs ≤ 1 → how_many 51 cs ≤ 1 → some_of not_whole cs ≡ firsts_cut
  some-cut a b c =
      some_alike not_whole (λ x. asked_managers x || asked_pdos x) not-whole-is cs
      ∙ some_or asked_managers asked_pdos cs
      ∙ ap₂ ◌||◌ (once 41 managers_cut managers-empty cs a)
      (some_or (λ x. eqb (type_of x) 50 && pdos_cut (content_of x)) (λ x. eqb (type_of x) 51 && pdos_cut (content_of x)) cs
      ∙ ap₂ ◌||◌ (once 50 pdos_cut pdos-empty cs b) (once 51 pdos_cut pdos-empty cs c))

  -- not two of a type
  pub record Single : Type 0 where
    pub managers : how_many 41 cs ≤ 1
    pub inputs : how_many 50 cs ≤ 1
    pub outputs : how_many 51 cs ≤ 1

  pub single : second cs ≡ false → Single
  single e =
      let a = or-none (ltb 1 (how_many 40 cs)) _ e in
      let b = or-none (ltb 1 (how_many 41 cs)) _ a.1 in
      let c = or-none (ltb 1 (how_many 50 cs)) _ b.1 in
      let d = or-none (ltb 1 (how_many 51 cs)) _ c.1 in
      record {
        managers = ltb-false 1 (how_many 41 cs) b.0;
        inputs = ltb-false 1 (how_many 50 cs) c.0;
        outputs = ltb-false 1 (how_many 51 cs) d.0;
      }

  -- as many types as there are, and more of their categories exactly if one has two
  types-counted : more_than (from_type 40 cs) (from_type 41 cs) (from_type 50 cs) (from_type 51 cs) (known_in cs) ≡ second cs
  types-counted =
      (λ i. ltb (one (found_some 40 cs i) + one (found_some 41 cs i) + one (found_some 50 cs i) + one (found_some 51 cs i)) (known_in cs))
      ∙ some-twice (how_many 40 cs) (how_many 41 cs) (how_many 50 cs) (how_many 51 cs)

  pub records-looked : more_than (from_type 40 cs) (from_type 41 cs) (from_type 50 cs) (from_type 51 cs) (known_in cs) || firsts_cut ≡ not_records cs
  unfolding not_records
  records-looked = ap (λ (b : Bool). b || firsts_cut) types-counted ∙ go (second cs) refl
    where
      go : (b : Bool) → second cs ≡ b → second cs || firsts_cut ≡ some_of not_whole cs || second cs
      go true e = rw e (always (some_of not_whole cs))
        where
          always : (b : Bool) → true ≡ b || true
          always true = refl
          always false = refl
      go false e = let o = single e in rw e (sym (some-cut o.managers o.inputs o.outputs) ∙ sym (or-false (some_of not_whole cs)))

-- nothing holds no PDOs
no-pdos : (kind : ℕ) → pdos_for kind [] ≡ []
unfolding cut_in
no-pdos kind = go (eqb kind 0)
  where
    go : (b : Bool) → cond {A = List Pdo} b [] [] ≡ []
    go true = refl
    go false = refl

-- PDOs of one type alone: t and u are the two types that hold PDOs
module _ (t u : ℕ) (other : (x : ℕ) → eqb x t ≡ false → eqb x u ≡ false → kind_for x ≡ 0) where
  abbrev held_by : List (List ℕ) → List Pdo
  held_by cs = pdos_for (kind_for t) (content_for t cs)

  pdos-alone : (cs : List (List ℕ)) → how_many u cs ≡ 0 → how_many t cs ≤ 1 → pdos_in cs ≡ held_by cs
  unfolding pdos_in
  pdos-alone [] n m = sym (no-pdos (kind_for t))
  pdos-alone (c ∷ cs) n m = go (eqb (type_of c) t) (eqb (type_of c) u) refl refl n m (pdos-alone cs)
    where
      go :
          (x y : Bool) → eqb (type_of c) t ≡ x → eqb (type_of c) u ≡ y → cond y 1 0 + how_many u cs ≡ 0 → cond x 1 0 + how_many t cs ≤ 1
          → (how_many u cs ≡ 0 → how_many t cs ≤ 1 → pdos_in cs ≡ held_by cs)
          → pdos_for (kind_for (type_of c)) (content_of c) ++ pdos_in cs ≡ pdos_for (kind_for t) (cond x (content_of c) (content_for t cs))
      go x true e f n m h = absurd (omega arith)
      go true false e f n m h =
          let rest = h (omega arith) (omega arith) ∙ ap (pdos_for (kind_for t)) (none-for t cs (omega arith)) ∙ no-pdos (kind_for t) in
          ap₂ (λ (k : ℕ) (ps : List Pdo). pdos_for (kind_for k) (content_of c) ++ ps) (eqb-true (type_of c) t e) rest ∙ append-nil (pdos_for (kind_for t) (content_of c))
      go false false e f n m h = ap (λ (k : ℕ). pdos_for k (content_of c) ++ pdos_in cs) (other (type_of c) e f) ∙ h (omega arith) (omega arith)

inputs-other : (x : ℕ) → eqb x 50 ≡ false → eqb x 51 ≡ false → kind_for x ≡ 0
inputs-other x e f = rw (e, f)

outputs-other : (x : ℕ) → eqb x 51 ≡ false → eqb x 50 ≡ false → kind_for x ≡ 0
outputs-other x e f = inputs-other x f e

-- from the first of a type on there are no more than in all
from-few : (t : ℕ) (cs : List (List ℕ)) → length (from_type t cs) ≤ length cs
from-few t [] = omega arith
from-few t (c ∷ cs) = go (eqb (type_of c) t) (from-few t cs)
  where
    go : (b : Bool) → length (from_type t cs) ≤ length cs → length (cond b (c ∷ cs) (from_type t cs)) ≤ length (c ∷ cs)
    go true h = omega arith
    go false h = omega arith

-- in dump order, where there are not two of a type: from the one that comes first on there are more
module _ where
  abbrev inputs_of : List (List ℕ) → List Pdo
  inputs_of cs = held_by 50 51 inputs-other cs

  abbrev outputs_of : List (List ℕ) → List Pdo
  outputs_of cs = held_by 51 50 outputs-other cs

  -- from the inputs on there are more than from the outputs on
  abbrev inputs_first : List (List ℕ) → Bool
  inputs_first cs = ltb (length (from_type 51 cs)) (length (from_type 50 cs))

  abbrev Ordered : List (List ℕ) → Type 0
  Ordered cs = cond (inputs_first cs) (inputs_of cs ++ outputs_of cs) (outputs_of cs ++ inputs_of cs) ≡ pdos_in cs

  ordered : (cs : List (List ℕ)) → how_many 50 cs ≤ 1 → how_many 51 cs ≤ 1 → Ordered cs
  unfolding pdos_in cut_in
  ordered [] m n = refl
  ordered (c ∷ cs) m n = go (eqb (type_of c) 50) (eqb (type_of c) 51) (λ e f. omega (arith, eqb-true (type_of c) 50 e, eqb-true (type_of c) 51 f)) m n (ordered cs)
    where
      go :
          (x y : Bool) → (x ≡ true → y ≡ true → ⊥) → cond x 1 0 + how_many 50 cs ≤ 1 → cond y 1 0 + how_many 51 cs ≤ 1
          → (how_many 50 cs ≤ 1 → how_many 51 cs ≤ 1 → Ordered cs)
          → cond (ltb (length (cond y (c ∷ cs) (from_type 51 cs))) (length (cond x (c ∷ cs) (from_type 50 cs))))
          (pdos_for 1 (cond x (content_of c) (content_for 50 cs)) ++ pdos_for 2 (cond y (content_of c) (content_for 51 cs)))
          (pdos_for 2 (cond y (content_of c) (content_for 51 cs)) ++ pdos_for 1 (cond x (content_of c) (content_for 50 cs)))
          ≡ pdos_for (cond x 1 (cond y 2 0)) (content_of c) ++ pdos_in cs
      go true true a m n h = absurd (a refl refl)
      go true false a m n h =
          ap (λ (b : Bool). cond b (pdos_for 1 (content_of c) ++ outputs_of cs) (outputs_of cs ++ pdos_for 1 (content_of c)))
          (lt-ltb (length (from_type 51 cs)) (length (c ∷ cs)) (omega (arith, from-few 51 cs)))
          ∙ ap (λ (ps : List Pdo). pdos_for 1 (content_of c) ++ ps) (sym (pdos-alone 51 50 outputs-other cs (omega arith) (omega arith)))
      go false true a m n h =
          ap (λ (b : Bool). cond b (inputs_of cs ++ pdos_for 2 (content_of c)) (pdos_for 2 (content_of c) ++ inputs_of cs))
          (le-ltb (length (c ∷ cs)) (length (from_type 50 cs)) (omega (arith, from-few 50 cs)))
          ∙ ap (λ (ps : List Pdo). pdos_for 2 (content_of c) ++ ps) (sym (pdos-alone 50 51 inputs-other cs (omega arith) (omega arith)))
      go false false a m n h = h (omega arith) (omega arith)

pub pdos-looked : (cs : List (List ℕ)) {b : Bool} → b ≡ inputs_first cs → Single cs → pdos_from b (from_type 50 cs) (from_type 51 cs) ≡ pdos_in cs
unfolding pdos_from
pdos-looked cs e s =
    (λ i. cond (e i) (pdos_for 1 (front-is 50 cs i) ++ pdos_for 2 (front-is 51 cs i)) (pdos_for 2 (front-is 51 cs i) ++ pdos_for 1 (front-is 50 cs i)))
    ∙ ordered cs s.inputs s.outputs
