-- Old entries cleared: one entry, and all that a call begins with; and 8, which counts from zero then.
-- Assumes nothing.
use mathlib.Core.Path.{◌≡◌, refl, sym, ◌∙◌, ap, subst}
use mathlib.Core.Bool.{Bool, true, false, cond, not, ◌&&◌, ◌||◌, true≢false}
use mathlib.Core.List.{List, [], ◌∷◌, map}
use mathlib.Core.Logic.{◌⊎◌, inl, inr, ⊎_elim}
use Prim.Native.Nat.{ℕ, zero, suc, ◌+◌, ◌<◌, ◌≤◌}
use native.Mathlib.Nat.{zero-add}
use native.Mathlib.Decide.{ℕ_discrete}
use native.Mathlib.Omega.{arith}
use lib.ListN.{length, get_or, replicate, length-map, get_or-map}
use lib.Dec.{ltb}
use borrow.Author.Tests.{le-ltb, ne_eqb}
use Rattle.wire.specs.Field.{flag_at}
use Rattle.wire.specs.Number.{little_at}
use Rattle.wire.specs.Image.{Bytes}
use Rattle.wire.specs.Lists.{some_of}
use Rattle.wire.proofs.Bytes.{little-fits}
use Rattle.wire.proofs.Lists.{or-none, some_same}
use Rattle.fmmu.specs.declared.Fmmu.{Fmmu}
use Rattle.fmmu.specs.Image.{fields_of}
use Rattle.area.proofs.Flat.{Rows, Sixteen}
use Rattle.pdo.specs.declared.PdoDirection.{PdoDirection}
use Rattle.pdo.specs.declared.PdoDirection.TheVariants.{MasterRead, MasterWrite}
use Rattle.pdo.specs.Direction.{other}
use Rattle.passes.specs.declared.OldEntries.{OldEntries}
use Rattle.passes.specs.declared.OldEntries.TheVariants.{Clear, Keep}
use Rattle.passes.specs.Use.{Use, total_on}
use Rattle.passes.specs.Old.{bit_of, is_old, cleared, cleared_of_both, beginning, both_bits, some_enabled, in_the_way}
use Rattle.passes.specs.Entries.{length_now, too_long}

-- a disabled entry
abbrev pub Off : List ℕ → Type 0
Off e = (fields_of e).enable ≡ false

pub zeros-off : Off (replicate 16 0)
unfolding fields_of
zeros-off = refl

pub nil-off : Off []
unfolding fields_of
nil-off = refl

pub zeros-all-off : (n k : ℕ) → Off (get_or (replicate n (replicate 16 0)) k [])
zeros-all-off zero k = nil-off
zeros-all-off (suc n) zero = zeros-off
zeros-all-off (suc n) (suc k) = zeros-all-off n k

-- where none is enabled, none that is used is
pub none-used : (us : List Use) (es : List (List ℕ)) → ((k : ℕ) → Off (get_or es k [])) → some_enabled us es ≡ false
none-used [] es off = refl
none-used (u ∷ us) es off = λ i. off u.entry i || none-used us es off i

-- what an old entry has: it is enabled, and of the two bits it has its direction's alone
pub old-bits : (r : PdoDirection) (f : Fmmu) → is_old r f ≡ true → (f.enable ≡ true) × ((bit_of r f ≡ true) × (bit_of (other r) f ≡ false))
old-bits r f h = go f.enable (bit_of r f) (bit_of (other r) f) h
  where
    go : (on a b : Bool) → on && (a && not b) ≡ true → (on ≡ true) × ((a ≡ true) × (b ≡ false))
    go true true true h = absurd (true≢false (sym h))
    go true true false h = (refl, (refl, refl))
    go true false b h = absurd (true≢false (sym h))
    go false a b h = absurd (true≢false (sym h))

pub old-not-both : (r : PdoDirection) (e : List ℕ) → is_old r (fields_of e) ≡ true → both_bits e ≡ false
old-not-both MasterRead e h = let b = old-bits MasterRead (fields_of e) h in rw (b.0, b.1.0, b.1.1) refl
old-not-both MasterWrite e h = let b = old-bits MasterWrite (fields_of e) h in rw (b.0, b.1.0, b.1.1) refl

-- an old entry is set to zero, any other stays
pub cleared-old : (r : PdoDirection) (e : List ℕ) → is_old r (fields_of e) ≡ true → cleared r e ≡ replicate 16 0
unfolding cleared
cleared-old r e h = ap (λ (b : Bool). cond b (replicate 16 0) e) h

pub cleared-not : (r : PdoDirection) (e : List ℕ) → is_old r (fields_of e) ≡ false → cleared r e ≡ e
unfolding cleared
cleared-not r e h = ap (λ (b : Bool). cond b (replicate 16 0) e) h

-- so does a disabled one
pub cleared-off : (r : PdoDirection) (e : List ℕ) → Off e → cleared r e ≡ e
cleared-off r e h = cleared-not r e (rw h refl)

-- a fact of an entry cleared, given of zeros, and of the entry where it is no old one
pub cleared-has : (r : PdoDirection) (e : List ℕ) (P : List ℕ → Type 0) → P (replicate 16 0) → (is_old r (fields_of e) ≡ false → P e) → P (cleared r e)
cleared-has r e P zeros same = go (is_old r (fields_of e)) refl
  where
    go : (b : Bool) → is_old r (fields_of e) ≡ b → P (cleared r e)
    go true h = subst P (sym (cleared-old r e h)) zeros
    go false h = subst P (sym (cleared-not r e h)) (same h)

-- so of both directions
pub both-off : (e : List ℕ) → Off e → cleared_of_both e ≡ e
both-off e h = ap (cleared MasterWrite) (cleared-off MasterRead e h) ∙ cleared-off MasterWrite e h

pub both-has :
    (e : List ℕ) (P : List ℕ → Type 0) → P (replicate 16 0) → (is_old MasterRead (fields_of e) ≡ false → is_old MasterWrite (fields_of e) ≡ false → P e)
    → P (cleared_of_both e)
both-has e P zeros same =
    cleared-has MasterWrite (cleared MasterRead e) P zeros
    (cleared-has MasterRead e (λ x. is_old MasterWrite (fields_of x) ≡ false → P x) (λ w. zeros) (λ n w. same n w))

-- what a call begins with: entry by entry, as many, each as long
pub cleared_at : (es : List (List ℕ)) (k : ℕ) → get_or (map cleared_of_both es) k [] ≡ cleared_of_both (get_or es k [])
cleared_at es k = ap (get_or (map cleared_of_both es) k) (sym (both-off [] nil-off)) ∙ get_or-map cleared_of_both es k []

pub begun-length : (old : OldEntries) (es : List (List ℕ)) → length (beginning old es) ≡ length es
begun-length Keep es = refl
begun-length Clear es = length-map es cleared_of_both

rows-begun : (old : OldEntries) (es : List (List ℕ)) → Rows 16 es → Rows 16 (beginning old es)
rows-begun Keep es h = h
rows-begun Clear [] h = tt
rows-begun Clear (e ∷ es) h = (both-has e (λ x. length x ≡ 16) refl (λ z w. h.0), rows-begun Clear es h.1)

pub sixteen-begun : (old : OldEntries) (es : List (List ℕ)) → Sixteen 16 es → Sixteen 16 (beginning old es)
sixteen-begun old es s = (begun-length old es ∙ s.0, rows-begun old es s.1)

-- a disabled entry has no length
pub length-off : (e : List ℕ) → Off e → length_now e ≡ 0
length-off e o = ap (λ (b : Bool). cond b (fields_of e).length_bytes.0 0) o

-- an entry's length is two of its bytes
pub length-bytes : (e : List ℕ) → Bytes e → length_now e ≤ 65535
unfolding fields_of
length-bytes e b = go (flag_at (get_or e 12 0) 0)
  where
    go : (on : Bool) → cond on (little_at e 4 2) 0 ≤ 65535
    go true = let h = little-fits 2 4 b in omega arith
    go false = omega arith

pub cleared-short : (e : List ℕ) → length_now e ≤ 65535 → length_now (cleared_of_both e) ≤ 65535
cleared-short e h = both-has e (λ x. length_now x ≤ 65535) (let z = length-off (replicate 16 0) zeros-off in omega arith) (λ n m. h)

-- where none that is used is enabled, an entry is disabled or no use is on it
off-or-unused : (us : List Use) (es : List (List ℕ)) (k : ℕ) → some_enabled us es ≡ false → Off (get_or es k []) ⊎ (total_on k us ≡ 0)
unfolding total_on
off-or-unused [] es k e = inr refl
off-or-unused (u ∷ us) es k e =
    let f = or-none (fields_of (get_or es u.entry [])).enable (some_enabled us es) e in
    go (ℕ_discrete u.entry k) f.0 (off-or-unused us es k f.1)
  where
    go : Dec (u.entry ≡ k) → Off (get_or es u.entry []) → Off (get_or es k []) ⊎ (total_on k us ≡ 0) → Off (get_or es k []) ⊎ (total_on k (u ∷ us) ≡ 0)
    go (yes i) o rest = inl (subst (λ (j : ℕ). Off (get_or es j [])) i o)
    go (no i) o rest = ⊎_elim (λ f. inl f) (λ t. inr (rw (ne_eqb u.entry k i) (zero-add (total_on k us) ∙ t))) rest

-- where each entry is disabled or unused, 8 counts from zero
pub from_zero :
    (us : List Use) (ls es : List (List ℕ)) → ((k : ℕ) → k < 16 → length_now (get_or ls k []) ≤ 65535) → ((k : ℕ) → Off (get_or ls k []) ⊎ (total_on k us ≡ 0))
    → too_long Keep us ls ≡ too_long Clear us es
unfolding too_long
from_zero us ls es short f =
    some_same (λ k. ltb 65535 (length_now (get_or ls k []) + total_on k us)) (λ k. ltb 65535 (0 + total_on k us)) 16
    (λ k h.
    ⊎_elim
    (λ o. ap (λ (n : ℕ). ltb 65535 (n + total_on k us)) (length-off (get_or ls k []) o))
    (λ z. let l = short k h in le-ltb 65535 (length_now (get_or ls k []) + total_on k us) (omega arith) ∙ sym (le-ltb 65535 (0 + total_on k us) (omega arith)))
    (f k))

-- where nothing is in the way, 8 on the entries cleared is 8 from zero
pub cleared-eight :
    (us : List Use) (es : List (List ℕ)) → ((k : ℕ) → k < 16 → length_now (get_or es k []) ≤ 65535) → in_the_way Clear us es ≡ false
    → too_long Keep us (map cleared_of_both es) ≡ too_long Clear us es
unfolding in_the_way
cleared-eight us es short free =
    from_zero us (map cleared_of_both es) es
    (λ k h. subst (λ (e : List ℕ). length_now e ≤ 65535) (sym (cleared_at es k)) (cleared-short (get_or es k []) (short k h)))
    (λ k. off-or-unused us (map cleared_of_both es) k (or-none (some_of both_bits es) (some_enabled us (map cleared_of_both es)) free).1)
