-- What the bytes of a dump bound: each part of bytes is bytes, and so start addresses, indices, sync manager numbers and bits are in range.
-- Assumes nothing.
use mathlib.Core.Path.{◌≡◌, refl, sym, ◌∙◌, ap, subst}
use mathlib.Core.Bool.{Bool, true, false, cond}
use mathlib.Core.List.{List, [], ◌∷◌, ◌++◌, map}
use Prim.Native.Nat.{ℕ, zero, suc, ◌+◌, ◌*◌, ◌≤◌, ◌<◌}
use native.Mathlib.Numerals.{add-one}
use native.Mathlib.Omega.{arith}
use lib.ListN.{length, get_or, drop}
use lib.Seq.{take-length}
use lib.Dec.{eqb}
use borrow.Author.Tests.{eqb-false}
use Rattle.wire.specs.Image.{Bytes}
use Rattle.wire.specs.Lists.{list_of, sum, Each}
use Rattle.wire.proofs.Bytes.{little-fits, no_bytes, part_bytes}
use Rattle.writer.proofs.Keeps.{KeepsPdo}
use Rattle.writer.proofs.Conditions.{StartInRange}
use Rattle.dump.specs.Parts.{Cut, cut_in, parts_of}
use Rattle.dump.specs.Categories.{type_of, category_long, categories, content_of, content_for}
use Rattle.dump.specs.Records.{manager_long, manager_for, pdo_long, bits_in, pdo_for, kind_for, pdos_for, pdos_in}
use Rattle.dump.specs.Dump.{manager_records}
use Rattle.dump.proofs.Pdos.{sum-next}

-- what holds on either side of a condition holds of what it picks
cond_has : {A : Type 0} (P : A → Type 0) (b : Bool) {x y : A} → (b ≡ true → P x) → (b ≡ false → P y) → P (cond b x y)
cond_has P true f g = f refl
cond_has P false f g = g refl

-- what holds of each of two lists, holds of each after one another
pub each_append : {A : Type 0} (P : A → Type 0) (l m : List A) → Each P l → Each P m → Each P (l ++ m)
each_append P [] m p q = q
each_append P (x ∷ l) m p q = (p.0, each_append P l m p.1 q)

-- what a function makes of each, by what each has
each_map : {A B : Type 0} (P : A → Type 0) (Q : B → Type 0) (f : A → B) → ((x : A) → P x → Q (f x)) → (l : List A) → Each P l → Each Q (map f l)
each_map P Q f h [] p = tt
each_map P Q f h (x ∷ l) p = (h x p.0, each_map P Q f h l p.1)

-- what stands behind a place of bytes is bytes
pub behind-bytes : (at : ℕ) (l : List ℕ) → Bytes l → Bytes (drop at l)
behind-bytes at l b = subst Bytes (take-length (drop at l)) (part_bytes l at (length (drop at l)) b)

-- each part of bytes is bytes
parts-bytes : (long : List ℕ → ℕ) (l : List ℕ) → Bytes l → Each Bytes (parts_of long l)
unfolding cut_in
parts-bytes long l b = go (length l) l b
  where
    go : (n : ℕ) (l : List ℕ) → Bytes l → Each Bytes (cut_in long n l).parts
    go zero l b = tt
    go (suc n) l b =
        cond_has (λ (c : Cut). Each Bytes c.parts) (eqb (long l) 0)
        (λ z. tt) (λ z. (part_bytes l 0 (long l) b, go n (drop (long l) l) (behind-bytes (long l) l b)))

-- so is each category, and the content of the first of a type
pub categories-bytes : (dump : List ℕ) → Bytes dump → Each Bytes (categories dump)
unfolding categories
categories-bytes dump b = parts-bytes category_long dump b

content-bytes : (t : ℕ) (cs : List (List ℕ)) → Each Bytes cs → Bytes (content_for t cs)
content-bytes t [] e = no_bytes
content-bytes t (c ∷ cs) e = cond_has Bytes (eqb (type_of c) t) (λ z. behind-bytes 4 c e.0) (λ z. content-bytes t cs e.1)

-- a start address is two bytes of its record
pub starts-in-range : (cs : List (List ℕ)) → Each Bytes cs → Each StartInRange (map manager_for (manager_records cs))
starts-in-range cs e =
    each_map Bytes StartInRange manager_for (λ r b. little-fits 2 0 b) (manager_records cs) (parts-bytes manager_long (content_for 41 cs) (content-bytes 41 cs e))

-- a PDO has at most 255 entries of at most 255 bits, so its bits have two bytes
sum-of-bytes : (f : ℕ → ℕ) → ((k : ℕ) → f k < 256) → (n : ℕ) → sum (list_of f n) ≤ 255 * n
unfolding list_of
sum-of-bytes f h zero = omega arith
sum-of-bytes f h (suc n) =
    let s : sum (list_of f (suc n)) ≡ sum (list_of f n) + f n = ap (λ (k : ℕ). sum (list_of f k)) (sym (add-one n)) ∙ sum-next f n in
    omega (arith, s, sum-of-bytes f h n, h n)

bits-in-range : (r : List ℕ) → Bytes r → bits_in r < 65536
bits-in-range r b = omega (arith, sum-of-bytes (λ k. get_or r (8 + 8 * k + 5) 0) (λ k. b.below (8 + 8 * k + 5)) (get_or r 2 0), b.below 2)

-- so a PDO of kind 1 or 2 has a sheet, and so has each of a category, and of all
pdo-keeps : (kind : ℕ) (r : List ℕ) → kind ≤ 2 → (kind ≡ 0 → ⊥) → Bytes r → KeepsPdo (pdo_for kind r)
pdo-keeps kind r h n b =
    record { kind = h; manager = b.below 3; index = little-fits 2 0 b; many = λ e. absurd (n e); one = λ z. (refl, bits-in-range r b) }

category-keeps : (kind : ℕ) (l : List ℕ) → kind ≤ 2 → Bytes l → Each KeepsPdo (pdos_for kind l)
category-keeps kind l h b =
    cond_has (Each KeepsPdo) (eqb kind 0) (λ z. tt)
    (λ z. each_map Bytes KeepsPdo (pdo_for kind) (λ r. pdo-keeps kind r h (eqb-false kind 0 z)) (parts_of pdo_long l) (parts-bytes pdo_long l b))

pub pdos-keep : (cs : List (List ℕ)) → Each Bytes cs → Each KeepsPdo (pdos_in cs)
unfolding pdos_in
pdos-keep [] e = tt
pdos-keep (c ∷ cs) e =
    let kind = kind_for (type_of c) in
    each_append KeepsPdo (pdos_for kind (content_of c)) (pdos_in cs) (category-keeps kind (content_of c) (kind_fits (type_of c)) (behind-bytes 4 c e.0)) (pdos-keep cs e.1)
  where
    kind_fits : (t : ℕ) → kind_for t ≤ 2
    kind_fits t =
        cond_has (λ (k : ℕ). k ≤ 2) (eqb t 50) (λ z. omega arith)
        (λ z. cond_has (λ (k : ℕ). k ≤ 2) (eqb t 51) (λ y. omega arith) (λ y. omega arith))
