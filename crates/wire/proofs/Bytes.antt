-- Numbers that their bytes bound, and lists that hold nothing but bytes.
-- Assumes nothing.
use mathlib.Core.Path.{◌≡◌, refl, sym, ap, subst}
use mathlib.Core.List.{List, [], ◌∷◌, ◌++◌}
use Prim.Native.Nat.{ℕ, zero, suc, ◌+◌, ◌/◌, ◌^◌, ◌<◌}
use native.Mathlib.Nat.{pow-suc}
use native.Mathlib.Omega.{arith}
use lib.ListN.{length, get_or, take, drop}
use lib.Seq.{get_or-drop}
use Rattle.wire.specs.Number.{little_at, little_of, big_at, big_of}
use Rattle.wire.specs.Image.{Bytes}

-- n bytes are a number below 256 ^ n
pub little-fits : {l : List ℕ} (n at : ℕ) → Bytes l → little_at l at n < 256 ^ n
little-fits zero at h = omega arith
little-fits {l} (suc n) at h =
    let p = pow-suc 256 n in
    let b = h.below at in
    let r = little-fits n (at + 1) h in
    omega arith

-- two bytes, the high one first, are a number of 16 bits
pub big-fits : {l : List ℕ} (at : ℕ) → Bytes l → big_at l at 2 < 65536
big-fits at h =
    let a = h.below at in
    let b = h.below (at + 1) in
    omega arith

pub no_bytes : Bytes []
no_bytes = record { below = λ k. omega arith }

pub cons-bytes : {x : ℕ} {l : List ℕ} → x < 256 → Bytes l → Bytes (x ∷ l)
cons-bytes {x} {l} hx hl = record { below = go }
  where
    go : (k : ℕ) → get_or (x ∷ l) k 0 < 256
    go zero = hx
    go (suc k) = hl.below k

pub append-bytes : {l m : List ℕ} → Bytes l → Bytes m → Bytes (l ++ m)
append-bytes {l} {m} hl hm = go l hl
  where
    go : (l : List ℕ) → Bytes l → Bytes (l ++ m)
    go [] h = hm
    go (x ∷ l) h = cons-bytes (h.below 0) (go l (record { below = λ k. h.below (suc k) }))

-- n of a list's bytes from a place on
pub part_bytes : (s : List ℕ) (at n : ℕ) → Bytes s → Bytes (take n (drop at s))
part_bytes s at n b = front n (drop at s) (record { below = λ k. subst (λ (x : ℕ). x < 256) (sym (get_or-drop at s k 0)) (b.below (at + k)) })
  where
    front : (n : ℕ) (l : List ℕ) → Bytes l → Bytes (take n l)
    front zero l h = no_bytes
    front (suc n) [] h = no_bytes
    front (suc n) (x ∷ l) h = cons-bytes (h.below 0) (front n l (record { below = λ k. h.below (suc k) }))

-- the bytes of a number, the low one or the high one first, and how many they are
pub little-bytes : (n x : ℕ) → Bytes (little_of n x)
little-bytes zero x = no_bytes
little-bytes (suc n) x = cons-bytes (omega arith) (little-bytes n (x / 256))

pub big-bytes : (n x : ℕ) → Bytes (big_of n x)
big-bytes zero x = no_bytes
big-bytes (suc n) x = append-bytes (big-bytes n (x / 256)) (cons-bytes (omega arith) no_bytes)

pub little-length : (n x : ℕ) → length (little_of n x) ≡ n
little-length zero x = refl
little-length (suc n) x = ap suc (little-length n (x / 256))
