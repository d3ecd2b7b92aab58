-- PDO records: what is read of one stands in its own bytes; each is seven bytes in a sheet; and they are put there one behind the other.
-- Assumes nothing.
use mathlib.Core.Path.{◌≡◌, refl, sym, ◌∙◌, ap, ap₂}
use mathlib.Core.Bool.{Bool, true, false, cond}
use mathlib.Core.List.{List, [], ◌∷◌, ◌++◌, map, append_assoc}
use Prim.Native.Nat.{ℕ, ◌+◌, ◌*◌, ◌≤◌, ◌<◌}
use native.Mathlib.Numerals.{add-one}
use native.Mathlib.Omega.{arith}
use lib.ListN.{length, get_or, take, drop, length-append, length-map}
use lib.Seq.{get_or-take, drop-drop}
use lib.Dec.{leb}
use borrow.Author.Tests.{ne_eqb}
use Rattle.wire.specs.Lists.{list_of, sum}
use Rattle.wire.specs.Number.{little_at, big_of}
use Rattle.wire.proofs.Lists.{number_same}
use Rattle.area.specs.Area.{flat, stored_at}
use Rattle.area.proofs.Entry.{length-stored}
use Rattle.sheet.specs.Device.{Pdo}
use Rattle.writer.specs.Form.{counted, pdo_bytes}
use Rattle.writer.proofs.Parts.{pdos_bytes}
use Rattle.writer.proofs.Stored.{stored-nothing, stored_next}
use Rattle.dump.specs.Parts.{parts_of}
use Rattle.dump.specs.Records.{pdo_long, bits_in, pdo_for, pdos_for}
use Rattle.dump.specs.declared.Kind.{Kind}
use Rattle.dump.specs.declared.Kind.TheVariants.{Input, Output}
use Rattle.dump.specs.Looked.{number_of}
use Rattle.dump.proofs.Parts.{whole-fits, parts_none, parts-on, Walk, walk_turn, walk_end}

-- a record that stands at the front is within the bytes
pub pdo-fits : (l : List ℕ) → pdo_long l ≤ length l
pdo-fits l = whole-fits (8 + 8 * get_or l 2 0) l

-- each kind has a number above 0
pub kind-some : (k : Kind) → 0 < number_of k
kind-some Input = omega arith
kind-some Output = omega arith

-- the sum of one more
pub sum-next : (f : ℕ → ℕ) (k : ℕ) → sum (list_of f (k + 1)) ≡ sum (list_of f k) + f k
unfolding list_of
sum-next f k = ap (λ (n : ℕ). sum (list_of f n)) (add-one k) ∙ go (list_of f k)
  where
    go : (l : List ℕ) → sum (l ++ (f k ∷ [])) ≡ sum l + f k
    go [] = omega arith
    go (x ∷ l) = omega (arith, go l)

-- what is read of a record stands in its own bytes
module _ (kind : ℕ) (l : List ℕ) where
  front_read : (m : ℕ) → m ≡ 8 + 8 * get_or l 2 0 → pdo_for kind (take m l) ≡ pdo_for kind l
  front_read m e = λ i. record { kind = kind; manager = at 3 (omega arith) i; index = at 0 (omega arith) i + 256 * (at 1 (omega arith) i + 256 * 0); lengths = bits i ∷ [] }
    where
      at : (k : ℕ) → k < m → get_or (take m l) k 0 ≡ get_or l k 0
      at k h = get_or-take m l k 0 h

      bits : bits_in (take m l) ≡ bits_in l
      bits =
          ap (λ (n : ℕ). sum (list_of (λ k. get_or (take m l) (8 + 8 * k + 5) 0) n)) (at 2 (omega arith))
          ∙ ap sum (number_same (λ k. get_or (take m l) (8 + 8 * k + 5) 0) (λ k. get_or l (8 + 8 * k + 5) 0) (get_or l 2 0) (λ k h. at (8 + 8 * k + 5) (omega arith)))

  pdo-front : 0 < pdo_long l → pdo_for kind (take (pdo_long l) l) ≡ pdo_for kind l
  pdo-front h = front_read (pdo_long l) (is (leb (8 + 8 * get_or l 2 0) (length l)) h)
    where
      is : (b : Bool) → 0 < cond b (8 + 8 * get_or l 2 0) 0 → cond b (8 + 8 * get_or l 2 0) 0 ≡ 8 + 8 * get_or l 2 0
      is true h = refl
      is false h = absurd (omega arith)

-- the bytes of two lists of PDOs, the second's behind the first's: a sheet has them one by one
pub pdos-append : (ps qs : List Pdo) → pdos_bytes (ps ++ qs) ≡ pdos_bytes ps ++ pdos_bytes qs
unfolding flat
pdos-append [] qs = refl
pdos-append (p ∷ ps) qs = ap (λ (l : List ℕ). pdo_bytes p ++ l) (pdos-append ps qs) ∙ sym (append_assoc (pdo_bytes p) (pdos_bytes ps) (pdos_bytes qs))

-- in a sheet each is seven bytes, where its kind isn't 0
pub pdo-bytes-are : (kind : ℕ) (r : List ℕ) → 0 < kind → pdo_bytes (pdo_for kind r) ≡ kind ∷ get_or r 3 0 ∷ (big_of 2 (little_at r 0 2) ++ (2 ∷ big_of 2 (bits_in r)))
pdo-bytes-are kind r h =
    ap (λ (b : Bool). kind ∷ get_or r 3 0 ∷ (big_of 2 (little_at r 0 2) ++ counted (cond b (bits_in r ∷ []) (big_of 2 (bits_in r))))) (ne_eqb kind 0 (λ e. omega arith))

-- the PDOs of records: how many they are, how many bytes, and none
module _ (kind : ℕ) (l : List ℕ) (h : 0 < kind) where
  pdos-are : pdos_for kind l ≡ map (pdo_for kind) (parts_of pdo_long l)
  pdos-are = ap (λ (b : Bool). cond b [] (map (pdo_for kind) (parts_of pdo_long l))) (ne_eqb kind 0 (λ e. omega arith))

  pub pdos-count : length (pdos_for kind l) ≡ length (parts_of pdo_long l)
  pdos-count = ap length pdos-are ∙ length-map (parts_of pdo_long l) (pdo_for kind)

  pub pdos-long : length (flat (map pdo_bytes (pdos_for kind l))) ≡ 7 * length (parts_of pdo_long l)
  unfolding flat
  pdos-long = ap (λ (ps : List Pdo). length (flat (map pdo_bytes ps))) pdos-are ∙ go (parts_of pdo_long l)
    where
      go : (rs : List (List ℕ)) → length (flat (map pdo_bytes (map (pdo_for kind) rs))) ≡ 7 * length rs
      go [] = refl
      go (r ∷ rs) =
          let seven = ap length (pdo-bytes-are kind r h) in
          length-append (pdo_bytes (pdo_for kind r)) (flat (map pdo_bytes (map (pdo_for kind) rs))) ∙ omega (arith, go rs)

  pdos-none : pdo_long l ≡ 0 → pdos_for kind l ≡ []
  pdos-none e = pdos-are ∙ ap (map (pdo_for kind)) (parts_none pdo_long pdo-fits l e)

-- the bytes of the one at the front, then those of the others
bytes_on_lem : (kind : ℕ) (l : List ℕ) → 0 < kind → 0 < pdo_long l
    → flat (map pdo_bytes (pdos_for kind l)) ≡ pdo_bytes (pdo_for kind l) ++ flat (map pdo_bytes (pdos_for kind (drop (pdo_long l) l)))
unfolding flat
bytes_on_lem kind l h g =
    ap (λ (ps : List Pdo). flat (map pdo_bytes ps)) (pdos-are kind l h ∙ ap (map (pdo_for kind)) (parts-on pdo_long pdo-fits l g))
    ∙ ap₂ (λ (p : Pdo) (ps : List Pdo). pdo_bytes p ++ flat (map pdo_bytes ps)) (pdo-front kind l g) (sym (pdos-are kind (drop (pdo_long l) l) h))

-- the same at a place
bytes-at : (kind at : ℕ) (l : List ℕ) {n : ℕ} {e : List ℕ} → 0 < kind → n ≡ pdo_long (drop at l) → 0 < n → e ≡ pdo_bytes (pdo_for kind (drop at l))
    → e ++ flat (map pdo_bytes (pdos_for kind (drop (at + n) l))) ≡ flat (map pdo_bytes (pdos_for kind (drop at l)))
bytes-at kind at l h q g is =
    let there = ap (λ (i : ℕ). drop (at + i) l) q ∙ sym (drop-drop (pdo_long (drop at l)) at l) in
    ap₂ (λ (x y : List ℕ). x ++ flat (map pdo_bytes (pdos_for kind y))) is there ∙ sym (bytes_on_lem kind (drop at l) h (omega arith))

-- a walk that has put what it passed: what is left, put from its place on, gives what all of them give
pub record Put (kind to : ℕ) (l room₀ : List ℕ) (at place : ℕ) (room : List ℕ) : Type 0 where
  pub k : ℕ
  pub walk : Walk pdo_long pdo-fits l k at
  pub there : place ≡ to + 7 * k
  pub long : length room ≡ length room₀
  pub gives : stored_at place (flat (map pdo_bytes (pdos_for kind (drop at l)))) room ≡ stored_at to (flat (map pdo_bytes (pdos_for kind l))) room₀

module _ {kind to : ℕ} {l room₀ : List ℕ} {at place : ℕ} {room : List ℕ} (p : Put kind to l room₀ at place room) (h : 0 < kind)
    (fits : to + 7 * length (parts_of pdo_long l) ≤ length room₀) where
  -- a turn
  pub put-turn : {n : ℕ} {e after : List ℕ} → n ≡ pdo_long (drop at l) → 0 < n → e ≡ pdo_bytes (pdo_for kind (drop at l)) → after ≡ stored_at place e room
      → Put kind to l room₀ (at + n) (place + 7) after
  put-turn {n} {e} {after} q g is put =
      let w = walk_turn pdo_long pdo-fits p.walk q g in
      record { k = p.k + 1; walk = w; there = omega (arith, p.there); long = ap length put ∙ length-stored place e room ∙ p.long; gives = behind w }
    where
      seven : length e ≡ 7
      seven = ap length (is ∙ pdo-bytes-are kind (drop at l) h)

      behind : Walk pdo_long pdo-fits l (p.k + 1) (at + n)
          → stored_at (place + 7) (flat (map pdo_bytes (pdos_for kind (drop (at + n) l)))) after ≡ stored_at to (flat (map pdo_bytes (pdos_for kind l))) room₀
      behind w =
          let left = flat (map pdo_bytes (pdos_for kind (drop (at + n) l))) in
          stored_next place e left room (omega (arith, seven, pdos-long kind (drop (at + n) l) h, w.count, p.there, p.long)) put (omega (arith, seven))
          ∙ ap (λ (x : List ℕ). stored_at place x room) (bytes-at kind at l h q g is)
          ∙ p.gives

  -- the end
  pub put-end : pdo_long (drop at l) ≡ 0 → (place ≡ to + 7 * length (parts_of pdo_long l)) × (room ≡ stored_at to (flat (map pdo_bytes (pdos_for kind l))) room₀)
  unfolding flat
  put-end e =
      let is : place ≡ to + 7 * length (parts_of pdo_long l) = omega (arith, p.there, (walk_end pdo_long pdo-fits p.walk e).0) in
      let none = ap (λ (ps : List Pdo). stored_at place (flat (map pdo_bytes ps)) room) (sym (pdos-none kind (drop at l) h e)) in
      (is, stored-nothing place room (omega (arith, p.long)) ∙ none ∙ p.gives)
