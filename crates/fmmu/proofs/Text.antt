-- How long an entry's text is.
-- Assumes nothing.
use mathlib.Core.Bool.{Bool, true, false, cond}
use mathlib.Core.List.{List, [], ◌∷◌}
use Prim.Native.Nat.{ℕ, ◌≤◌}
use native.Mathlib.Omega.{arith}
use lib.ListN.{length, length-append}
use Rattle.wire.specs.Text.{enabled_text}
use Rattle.wire.proofs.Digits.{digits-length, decimal-length}
use Rattle.fmmu.specs.declared.Fmmu.{Fmmu}
use Rattle.fmmu.specs.Text.{logical_text, access_text, physical_text, fmmu_text}

logical-length : (f : Fmmu) → length (logical_text f) ≤ 65
unfolding logical_text
logical-length f =
    let a = decimal-length f.logical_start_bit in
    let b = decimal-length f.length_bytes.0 in
    let c = decimal-length f.logical_end_bit in
    simp (length-append, digits-length 16 8) (omega arith)

either-length : (b : Bool) (x y : List ℕ) (n : ℕ) → length x ≤ n → length y ≤ n → length (cond b x y) ≤ n
either-length true x y n hx hy = hx
either-length false x y n hx hy = hy

access-length : (f : Fmmu) → length (access_text f) ≤ 14
unfolding access_text
access-length f =
    let r = either-length f.read_enable (44 ∷ 32 ∷ 82 ∷ []) (44 ∷ 32 ∷ []) 3 (omega arith) (omega arith) in
    let w = either-length f.write_enable (87 ∷ 44 ∷ 32 ∷ []) (79 ∷ 44 ∷ 32 ∷ []) 3 (omega arith) (omega arith) in
    let e : length (enabled_text f.enable) ≤ 8 = either-length f.enable _ _ 8 (omega arith) (omega arith) in
    simp length-append (omega arith)

physical-length : (f : Fmmu) → length (physical_text f) ≤ 43
unfolding physical_text
physical-length f =
    let a = decimal-length f.physical_start_bit in
    let s = access-length f in
    simp (length-append, digits-length 16 4) (omega arith)

-- the text of any entry fits 128 bytes
pub fmmu-length : (f : Fmmu) → length (fmmu_text f) ≤ 128
unfolding fmmu_text
fmmu-length f =
    let l = logical-length f in
    let p = physical-length f in
    simp length-append (omega arith)
