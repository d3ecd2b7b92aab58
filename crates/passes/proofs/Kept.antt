-- What planning keeps: sixteen entries, and sixteen bytes in each.
-- Assumes nothing.
use mathlib.Core.Path.{◌≡◌, refl, ◌∙◌}
use mathlib.Core.List.{List, [], ◌∷◌}
use Prim.Native.Nat.{ℕ, ◌+◌}
use lib.ListN.{length, get_or, length-set}
use Rattle.fmmu.specs.Image.{fields_of, image_of}
use Rattle.fmmu.proofs.RoundTrip.{image-length}
use Rattle.area.proofs.Flat.{Rows, rows-set, Sixteen}
use Rattle.pdo.specs.declared.PdoDirection.{PdoDirection}
use Rattle.passes.specs.Use.{Use}
use Rattle.passes.specs.Entries.{laid, with_use, plan}

pub plan-length : (r : PdoDirection) (offset : ℕ) (us : List Use) (area : List (List ℕ)) → length (plan r offset us area) ≡ length area
unfolding plan
plan-length r offset [] area = refl
plan-length r offset (u ∷ us) area =
    plan-length r (offset + u.size) us (with_use r offset u area) ∙ length-set area u.entry (image_of (laid r offset u (fields_of (get_or area u.entry []))))

rows-plan : (r : PdoDirection) (offset : ℕ) (us : List Use) (area : List (List ℕ)) → Rows 16 area → Rows 16 (plan r offset us area)
unfolding plan
rows-plan r offset [] area h = h
rows-plan r offset (u ∷ us) area h =
    let e = laid r offset u (fields_of (get_or area u.entry [])) in
    rows-plan r (offset + u.size) us (with_use r offset u area) (rows-set 16 area u.entry (image_of e) h (image-length e))

pub sixteen-planned : (r : PdoDirection) (offset : ℕ) (us : List Use) (area : List (List ℕ)) → Sixteen 16 area → Sixteen 16 (plan r offset us area)
sixteen-planned r offset us area s = (plan-length r offset us area ∙ s.0, rows-plan r offset us area s.1)
