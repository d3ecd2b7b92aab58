-- The images of sync managers: two lists of them, one after the other, as one; so written again they stand there already.
-- Assumes nothing.
use mathlib.Core.Path.{◌≡◌, refl, ◌∙◌, ap}
use mathlib.Core.List.{List}
use mathlib.Core.Option.{Option, none, some}
use Prim.Native.Nat.{ℕ}
use lib.ListN.{length}
use lib.Seq.{set-set}
use Rattle.sheet.specs.declared.SyncManager.{SyncManager}
use Rattle.area.specs.Area.{entries_of, flat}
use Rattle.area.proofs.Flat.{flat-bytes, Sixteen, sixteen-of, flat-entries}
use Rattle.sync_manager_channel.specs.Image.{image_of}
use Rattle.channels.specs.Channels.{channel_for, written, channels_after}
use Rattle.channels.proofs.After.{channels-kept, channels-merged}

module _ (ms : List SyncManager) (area : List ℕ) (long : length area ≡ 128) where
  -- an area of 128 bytes with images written in it is as long
  kept : (f : ℕ → SyncManager → Option ℕ) → Sixteen 8 (channels_after f 0 ms (entries_of 8 area))
  kept f = (channels-kept f 0 ms).kept (entries_of 8 area) (sixteen-of 8 area long)

  pub images-long : (f : ℕ → SyncManager → Option ℕ) → length (flat (channels_after f 0 ms (entries_of 8 area))) ≡ 128
  images-long f = flat-bytes 8 16 (channels_after f 0 ms (entries_of 8 area)) (kept f)

  -- those of g written after those of f
  pub images-merged :
      (f g h : ℕ → SyncManager → Option ℕ)
      → ((k : ℕ) (m : SyncManager) (es : List (List ℕ)) → written k m (g k m) (written k m (f k m) es) ≡ written k m (h k m) es)
      → flat (channels_after g 0 ms (entries_of 8 (flat (channels_after f 0 ms (entries_of 8 area))))) ≡ flat (channels_after h 0 ms (entries_of 8 area))
  images-merged f g h one =
      ap (λ (es : List (List ℕ)). flat (channels_after g 0 ms es)) (flat-entries 8 (channels_after f 0 ms (entries_of 8 area)) (kept f))
      ∙ ap flat (channels-merged f g h one 0 ms (entries_of 8 area))

written-again : (k : ℕ) (m : SyncManager) (o : Option ℕ) (es : List (List ℕ)) → written k m o (written k m o es) ≡ written k m o es
written-again k m none es = refl
written-again k m (some n) es = set-set es k (image_of (channel_for m n)) (image_of (channel_for m n))

pub images-stay :
    (f : ℕ → SyncManager → Option ℕ) (ms : List SyncManager) (area : List ℕ) → length area ≡ 128
    → flat (channels_after f 0 ms (entries_of 8 (flat (channels_after f 0 ms (entries_of 8 area))))) ≡ flat (channels_after f 0 ms (entries_of 8 area))
images-stay f ms area long = images-merged ms area long f f f (λ k m es. written-again k m (f k m) es)
