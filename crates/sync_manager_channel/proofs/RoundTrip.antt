-- The layout both ways: a channel written and read, and bytes read and written. The laws are those of every layout (Images, in wire/proofs),
-- at the layout of a channel.
-- Assumes nothing.
use mathlib.Core.Path.{◌≡◌, refl, sym, ◌∙◌, ap}
use mathlib.Core.Bool.{false}
use mathlib.Core.Logic.{◌↔◌}
use mathlib.Core.List.{List}
use Prim.Native.Nat.{ℕ}
use lib.ListN.{length, get_or}
use Rattle.wire.specs.Image.{Bytes, Image, Clear}
use Rattle.wire.specs.Outcome.{accepted}
use Rattle.wire.specs.Room.{InRoom}
use Rattle.std.specs.Prelude.{Result, Ok}
use Rattle.wire.specs.declared.Reason.{Reason}
use Rattle.wire.proofs.Pins.{same_result}
use Rattle.wire.proofs.Images as images
use Rattle.channel_bytes.specs.Bytes.{misnumbered}
use Rattle.channel_bytes.proofs.RoundTrip.{control-numbered}
use Rattle.sync_manager_channel.specs.declared.SyncManagerChannel.{SyncManagerChannel}
use Rattle.sync_manager_channel.specs.Image.{channel_of, image_of, reserved, InRange, Fits, read_channel, write_channel, channel_read_of}
use Rattle.sync_manager_channel.proofs.Layouts.{layout, calls, fits-layout}

-- what is written is eight bytes, whatever the channel
pub image-is : (s : SyncManagerChannel) → Image 8 (image_of s)
unfolding image_of
image-is s = images.image-is layout s

pub image-length : (s : SyncManagerChannel) → length (image_of s) ≡ 8
image-length s = (image-is s).long

-- a channel that fits, written and read, comes back
pub read-write : (s : SyncManagerChannel) → Fits s → channel_of (image_of s) ≡ s
unfolding channel_of image_of
read-write s h = images.read-write layout s (fits-layout s h)

-- and of those in range no other does: 13 is what wouldn't come back
pub comes-back-exactly : (s : SyncManagerChannel) → InRange s → (channel_of (image_of s) ≡ s) ↔ (misnumbered s.control ≡ false)
unfolding channel_of
comes-back-exactly s h = (
  λ e. ap (λ (x : SyncManagerChannel). misnumbered x.control) (sym e) ∙ control-numbered (get_or (image_of s) 4 0),
  λ n. read-write s (record { range = h; numbered = n }),
)

-- so reading what was written gives it back
pub read-written : (s : SyncManagerChannel) → Fits s → read_channel (image_of s) ≡ accepted s
unfolding channel_of image_of
read-written s h = images.read-written layout s (fits-layout s h)

-- what eight bytes say fits
pub fields_fit : (l : List ℕ) → Image 8 l → Fits (channel_of l)
unfolding channel_of
fields_fit l h =
    let p = layout.fit l 0 h.bytes in
    record { range = record { start = p.0; length = p.1.0 }; numbered = p.1.1.0 }

-- reading drops the reserved bits: what was read, written and read again is what was read
pub reading-drops-reserved : (l : List ℕ) → Image 8 l → channel_of (image_of (channel_of l)) ≡ channel_of l
unfolding channel_of image_of
reading-drops-reserved l h = images.reading-drops-reserved layout l h

-- writing leaves every reserved bit 0, whatever the channel
pub writing-clears-reserved : (s : SyncManagerChannel) → Clear reserved (image_of s)
unfolding image_of
writing-clears-reserved s = images.writing-clears-reserved layout s

-- eight bytes, read and written, come back exactly if their reserved bits are 0
pub write_read : (l : List ℕ) → Image 8 l → (image_of (channel_of l) ≡ l) ↔ Clear reserved l
unfolding channel_of image_of
write_read l h = images.write_read layout l h

-- the same by what reading answers
pub accepted-comes-back : (l : List ℕ) (s : SyncManagerChannel) → Bytes l → accepted s ≡ read_channel l → (image_of s ≡ l) ↔ Clear reserved l
unfolding channel_of image_of
accepted-comes-back l s h e = images.accepted-comes-back layout l s h e

-- a channel that `pack_to_slice` has written, by its promise, comes back from that room by the promise of `unpack_from_slice`;
-- its numbers are in range at every call (`in-range`, beside the proof of `pack_to_slice`)
pub written-comes-back :
    (s : SyncManagerChannel) (k : ℕ) {room after : List ℕ} {w : Result ℕ Reason} {r : Result SyncManagerChannel Reason} → InRange s → InRoom (write_channel s room) (image_of s) room w after → w ≡ Ok k
    → channel_read_of r ≡ read_channel after → r ≡ Ok s
unfolding channel_of image_of
written-comes-back s k t x is e = same_result (λ g. g) (λ g. g) (λ g. refl) (e ∙ images.written-comes-back layout calls s k t x is) refl
