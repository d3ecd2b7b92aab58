-- So many bytes from a place on, gathered by number: how many they are, that they are bytes, and what stands after them.
-- Assumes nothing.
use mathlib.Core.Path.{◌≡◌, sym, ◌∙◌, ap}
use mathlib.Core.List.{List, ◌∷◌, ◌++◌}
use Prim.Native.Nat.{ℕ, zero, suc, ◌+◌, ◌≤◌}
use native.Mathlib.Nat.{add-zero}
use native.Mathlib.Omega.{arith}
use lib.ListN.{length, get_or, drop}
use lib.Seq.{append_snoc, drop-cons}
use Rattle.wire.specs.Image.{Bytes}
use Rattle.wire.specs.Lists.{list_of}
use Rattle.wire.proofs.Bytes.{no_bytes, cons-bytes, append-bytes}
use Rattle.wire.proofs.Lists.{length-list_of}

-- the n bytes from a place on, and how many they are
abbrev pub from : List ℕ → ℕ → ℕ → List ℕ
from l at n = list_of (λ k. get_or l (at + k) 0) n

pub from-length : (l : List ℕ) (at n : ℕ) → length (from l at n) ≡ n
from-length l at n = length-list_of (λ k. get_or l (at + k) 0) n

-- they are bytes, where the list's are
pub from_bytes : (l : List ℕ) (at n : ℕ) → Bytes l → Bytes (from l at n)
unfolding list_of
from_bytes l at zero h = no_bytes
from_bytes l at (suc n) h = append-bytes (from_bytes l at n h) (cons-bytes (h.below (at + n)) no_bytes)

-- what stands from a place on: n bytes, and what stands after them
pub stands : (l : List ℕ) (at n : ℕ) → at + n ≤ length l → from l at n ++ drop (at + n) l ≡ drop at l
unfolding list_of
stands l at zero h = rw add-zero
stands l at (suc n) h =
    let e : at + suc n ≡ suc (at + n) = omega arith in
    append_snoc (from l at n) (get_or l (at + n) 0) (drop (at + suc n) l)
    ∙ ap (λ (t : List ℕ). from l at n ++ t) (ap (λ (j : ℕ). get_or l (at + n) 0 ∷ drop j l) e ∙ sym (drop-cons l (at + n) 0 (omega arith)))
    ∙ stands l at n (omega arith)
