-- What a caller has: 255 places that hold 1, filled from a sheet, give the exact bits that the multipliers of its PDOs give.
-- Assumes nothing.
use mathlib.Core.Path.{◌∙◌, ap}
use mathlib.Core.List.{List}
use Prim.Native.Nat.{ℕ, ◌<◌}
use native.Mathlib.Omega.{arith}
use lib.ListN.{length, drop, replicate, length-replicate, length-map}
use Rattle.wire.specs.Room.{over}
use Rattle.wire.proofs.Copied.{over-front}
use Rattle.grammar.specs.Grammar.{pdo_count, pdos_place}
use Rattle.sheet.specs.Device.{Pdo, pdos_from}
use Rattle.sheet.specs.Sheet.{sheet_data}
use Rattle.pdo.specs.declared.Oversampling.{Oversampling}
use Rattle.pdo.specs.Bits.{multiplier_of, multipliers_of, bits_of}
use Rattle.pdo.proofs.Lacking.{SameBits, bits-front}
use Rattle.oversampling.proofs.Filled.{length-those}

pub made : (t : List Oversampling) (s : List ℕ) → pdo_count s < 256 → SameBits (sheet_data s).pdos (over (multipliers_of t (sheet_data s).pdos) (replicate 255 1)) (multipliers_of t (sheet_data s).pdos)
unfolding sheet_data
made t s h kind k =
    let ps = pdos_from s (pdo_count s) (pdos_place s) in
    let ws = multipliers_of t ps in
    let ones = replicate {A = ℕ} 255 1 in
    let l = length-those t s (pdo_count s) (pdos_place s) in
    let m = length-replicate {A = ℕ} 255 1 in
    ap (bits_of kind k ps) (over-front ws ones (omega arith))
    ∙ bits-front ps ws (drop (length ws) ones) (length-map ps (λ (p : Pdo). multiplier_of t p.index)) kind k
