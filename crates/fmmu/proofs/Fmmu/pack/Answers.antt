-- `fmmu::Fmmu::pack`: each byte is what the library and the masks give of its field.
-- Assumes nothing.
use mathlib.Core.Path.{◌≡◌, ◌∙◌}
use mathlib.Core.List.{[], ◌∷◌, ◌++◌}
use Prim.Native.Nat.{◌+◌, ◌*◌, ◌%◌}
use native.Mathlib.Omega.{arith}
use lib.Bits.{bit_or, and_mask}
use borrow.Author.Rules.{rules}
use Rattle.wire.specs.Field.{bit}
use Rattle.wire.specs.Number.{little_of}
use Rattle.wire.proofs.Fields.{above, bit-lt}
use Rattle.wire.proofs.Numbers.{spread}
use Rattle.fmmu.specs.Image.{image_of}
use Rattle.fmmu.proofs.Fmmu.pack.Goals as goal

pub returns : goal.returns
unfolding image_of
returns c =
    let f = c.args.self in
    let read : c.from.result ≡ bit f.read_enable = search rules in
    let write : c.from-2.result ≡ bit f.write_enable = search rules in
    let enable : c.from-3.result ≡ bit f.enable = search rules in
    let r = bit-lt f.read_enable in
    let w = bit-lt f.write_enable in
    let access : bit_or c.from.result ((c.from-2.result * 2) % 256) ≡ bit f.read_enable + 2 * bit f.write_enable =
    above 8 1 1 c.from-2.result read (omega arith) (omega arith) (omega arith) ∙ omega arith in
    let start : c.to_le_bytes-start.result ≡ little_of 4 f.logical_start_address = search rules in
    let size : c.to_le_bytes-length.result ≡ little_of 2 f.length_bytes.0 = search rules in
    let physical : c.to_le_bytes-physical.result ≡ little_of 2 f.physical_start_address = search rules in
    λ i.
    spread 4 0 (start i) ++ spread 2 0 (size i) ++ (and_mask f.logical_start_bit 3 i ∷ and_mask f.logical_end_bit 3 i ∷ [])
    ++ spread 2 0 (physical i) ++ (and_mask f.physical_start_bit 3 i ∷ access i ∷ enable i ∷ 0 ∷ 0 ∷ 0 ∷ [])
