-- How long a segment's text is.
-- Assumes nothing.
use mathlib.Core.Bool.{Bool, true, false, cond}
use mathlib.Core.List.{◌∷◌, ◌++◌}
use Prim.Native.Nat.{◌≤◌}
use native.Mathlib.Omega.{arith}
use lib.ListN.{length, length-append}
use lib.Dec.{ltb}
use Rattle.wire.specs.Text.{hex_of}
use Rattle.wire.proofs.Digits.{digits-length}
use Rattle.pdi.specs.declared.PdiSegment.{PdiSegment}
use Rattle.pdi.specs.Segment.{empty_text, segment_text}

pub segment-length : (s : PdiSegment) → length (segment_text s) ≤ 22
unfolding segment_text
segment-length s = go (ltb s.start s.end)
  where
    go : (t : Bool) → length (cond t (hex_of 8 s.start ++ (46 ∷ 46 ∷ hex_of 8 s.end)) empty_text) ≤ 22
    go true = simp (length-append, digits-length) (omega arith)
    go false = omega arith
