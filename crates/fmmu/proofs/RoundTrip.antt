-- The layout both ways: an entry written and read, and bytes read and written. The laws are those of every layout (Images, in wire/proofs),
-- at the layout of an entry.
-- Assumes nothing.
use mathlib.Core.Path.{◌≡◌, refl, ◌∙◌}
use mathlib.Core.Logic.{◌↔◌}
use mathlib.Core.List.{List}
use Prim.Native.Nat.{ℕ}
use lib.ListN.{length}
use Rattle.wire.specs.Image.{Bytes, Image, Clear}
use Rattle.wire.specs.Outcome.{accepted}
use Rattle.wire.specs.Room.{InRoom}
use Rattle.std.specs.Prelude.{Result, Ok}
use Rattle.wire.specs.declared.Reason.{Reason}
use Rattle.wire.proofs.Pins.{same_result}
use Rattle.wire.proofs.Images as images
use Rattle.fmmu.specs.declared.Fmmu.{Fmmu}
use Rattle.fmmu.specs.Image.{fields_of, image_of, reserved, InRange, Fits, read_entry, write_entry, fmmu_read_of}
use Rattle.fmmu.proofs.Layouts.{layout, calls, fits-layout}

-- what is written is sixteen bytes, whatever the entry
pub image-is : (f : Fmmu) → Image 16 (image_of f)
unfolding image_of
image-is f = images.image-is layout f

pub image-length : (f : Fmmu) → length (image_of f) ≡ 16
image-length f = (image-is f).long

-- an entry that fits, written and read, comes back
pub read-write : (f : Fmmu) → Fits f → fields_of (image_of f) ≡ f
unfolding fields_of image_of
read-write f h = images.read-write layout f (fits-layout f h)

-- so reading what was written gives it back
pub read-written : (f : Fmmu) → Fits f → read_entry (image_of f) ≡ accepted f
unfolding fields_of image_of
read-written f h = images.read-written layout f (fits-layout f h)

-- what sixteen bytes say fits
pub fields_fit : (l : List ℕ) → Image 16 l → Fits (fields_of l)
unfolding fields_of
fields_fit l h =
    let p = layout.fit l 0 h.bytes in
    record { start = p.0.0; size = p.0.1.0; start_bit = p.0.1.1.0; end_bit = p.0.1.1.1; physical = p.1.0.0; physical_bit = p.1.0.1.0 }

-- reading drops the reserved bits: what was read, written and read again is what was read
pub reading-drops-reserved : (l : List ℕ) → Image 16 l → fields_of (image_of (fields_of l)) ≡ fields_of l
unfolding fields_of image_of
reading-drops-reserved l h = images.reading-drops-reserved layout l h

-- writing leaves every reserved bit 0, whatever the entry
pub writing-clears-reserved : (f : Fmmu) → Clear reserved (image_of f)
unfolding image_of
writing-clears-reserved f = images.writing-clears-reserved layout f

-- sixteen bytes, read and written, come back exactly if the reserved bits are 0
pub write_read : (l : List ℕ) → Image 16 l → (image_of (fields_of l) ≡ l) ↔ Clear reserved l
unfolding fields_of image_of
write_read l h = images.write_read layout l h

-- the same by what reading answers
pub accepted-comes-back : (l : List ℕ) (f : Fmmu) → Bytes l → accepted f ≡ read_entry l → (image_of f ≡ l) ↔ Clear reserved l
unfolding fields_of image_of
accepted-comes-back l f h e = images.accepted-comes-back layout l f h e

-- an entry that `pack_to_slice` has written, by its promise, comes back from that room by the promise of `unpack_from_slice`;
-- its numbers are in range at every call (`in-range`, beside the proof of `pack_to_slice`)
pub written-comes-back :
    (f : Fmmu) (k : ℕ) {room after : List ℕ} {w : Result ℕ Reason} {r : Result Fmmu Reason} → InRange f → InRoom (write_entry f room) (image_of f) room w after → w ≡ Ok k
    → fmmu_read_of r ≡ read_entry after → r ≡ Ok f
unfolding fields_of image_of
written-comes-back f k t x is e = same_result (λ g. g) (λ g. g) (λ g. refl) (e ∙ images.written-comes-back layout calls f k t x is) refl
