-- The area after some sync managers are written: one, one after the other, a turn of a loop over them; who gets which size said in two ways; two lists of images as one.
-- Assumes nothing.
use mathlib.Core.Path.{◌≡◌, refl, sym, ◌∙◌, ap, subst}
use mathlib.Core.Bool.{Bool, true, false}
use mathlib.Core.List.{List, [], ◌∷◌}
use mathlib.Core.Option.{Option, none, some}
use Prim.Native.Nat.{ℕ, suc, ◌+◌, ◌*◌, ◌<◌}
use native.Mathlib.Nat.{zero-add, add-zero, zero-lt-suc}
use native.Mathlib.Numerals.{add-one}
use native.Mathlib.Omega.{arith}
use lib.ListN.{length, get_or, set, length-set}
use lib.Seq.{set_out, set_comm}
use lib.Dec.{eqb, leb}
use borrow.Author.Tests.{eq-eqb, ne_eqb, eqb-true, eqb-false, leb-true, leb-false}
use Rattle.sheet.specs.declared.SyncManager.{SyncManager}
use Rattle.sync_manager_channel.specs.Image.{image_of}
use Rattle.sync_manager_channel.proofs.RoundTrip.{image-length}
use Rattle.area.specs.Area.{entries_of, stored_at, flat}
use Rattle.area.proofs.Entry.{stored-entry, stored-not, length-stored}
use Rattle.area.proofs.Flat.{rows-set, length-chunks, flat-chunks, flat-bytes, Sixteen, sixteen-of, flat-entries}
use Rattle.channels.specs.Channels.{channel_for, written, channels_after, channel_area}

-- an area of 128 bytes is all entries; any other stays
module _ (write : List (List ℕ) → List (List ℕ)) (area : List ℕ) where
  pub area-whole : length area ≡ 128 → channel_area write area ≡ flat (write (entries_of 8 area))
  unfolding channel_area
  area-whole h = rw (eq-eqb (length area) 128 h) refl

  pub area-other : (length area ≡ 128 → ⊥) → channel_area write area ≡ area
  unfolding channel_area
  area-other h = rw (ne_eqb (length area) 128 h) refl

-- nothing is written
pub area_same : (area : List ℕ) → channel_area (λ es. es) area ≡ area
area_same area = go (eqb (length area) 128) refl
  where
    go : (b : Bool) → eqb (length area) 128 ≡ b → channel_area (λ es. es) area ≡ area
    go true e = let long = eqb-true (length area) 128 e in area-whole (λ es. es) area long ∙ flat-chunks 8 16 area long
    go false e = area-other (λ es. es) area (eqb-false (length area) 128 e)

-- writing that leaves sixteen entries of eight bytes
pub record Keeps (write : List (List ℕ) → List (List ℕ)) : Type 0 where
  pub kept : (es : List (List ℕ)) → Sixteen 8 es → Sixteen 8 (write es)

-- one writing after another
pub area-then : (g h : List (List ℕ) → List (List ℕ)) → Keeps h → (area : List ℕ) → channel_area g (channel_area h area) ≡ channel_area (λ es. g (h es)) area
area-then g h k area = go (eqb (length area) 128) refl
  where
    go : (b : Bool) → eqb (length area) 128 ≡ b → channel_area g (channel_area h area) ≡ channel_area (λ es. g (h es)) area
    go true e =
        let long = eqb-true (length area) 128 e in
        let es = entries_of 8 area in
        let sixteen = k.kept es (sixteen-of 8 area long) in
        ap (channel_area g) (area-whole h area long)
        ∙ area-whole g (flat (h es)) (flat-bytes 8 16 (h es) sixteen)
        ∙ ap (λ (x : List (List ℕ)). flat (g x)) (flat-entries 8 (h es) sixteen)
        ∙ sym (area-whole (λ x. g (h x)) area long)
    go false e =
        let short = eqb-false (length area) 128 e in
        ap (channel_area g) (area-other h area short) ∙ area-other g area short ∙ sym (area-other (λ es. g (h es)) area short)

-- a sync manager's image leaves as many; so does a list of them
pub written-kept : (k : ℕ) (m : SyncManager) (o : Option ℕ) → Keeps (written k m o)
written-kept k m none = record { kept = λ es h. h }
written-kept k m (some size) =
    let image = image_of (channel_for m size) in
    record { kept = λ es h. (length-set es k image ∙ h.0, rows-set 8 es k image h.1 (image-length (channel_for m size))) }

pub channels-kept : (f : ℕ → SyncManager → Option ℕ) (k : ℕ) (ms : List SyncManager) → Keeps (channels_after f k ms)
unfolding channels_after
channels-kept f k [] = record { kept = λ es h. h }
channels-kept f k (m ∷ ms) = record { kept = λ es h. (channels-kept f (suc k) ms).kept (written k m (f k m) es) ((written-kept k m (f k m)).kept es h) }

-- an image stored at its place; a number past the last has none
pub image-stored :
    (k : ℕ) (m : SyncManager) (size at : ℕ) (image area after : List ℕ) → length area ≡ 128 → at ≡ k * 8 → image ≡ image_of (channel_for m size) → after ≡ stored_at at image area
    → after ≡ channel_area (written k m (some size)) area
image-stored k m size at image area after long q is e = go (leb 16 k) refl
  where
    eight : length image ≡ 8
    eight = ap length is ∙ image-length (channel_for m size)

    go : (b : Bool) → leb 16 k ≡ b → after ≡ channel_area (written k m (some size)) area
    go true h =
        let past = leb-true 16 k h in
        let many = length-chunks 8 16 area in
        e ∙ sym (stored-not at image area (let n = eight in omega arith))
        ∙ sym (flat-chunks 8 16 area long)
        ∙ ap flat (sym (set_out (entries_of 8 area) k (image_of (channel_for m size)) (omega arith)))
        ∙ sym (area-whole (written k m (some size)) area long)
    go false h =
        let below = leb-false 16 k h in
        sym (flat-chunks 8 16 after (ap length e ∙ length-stored at image area ∙ long))
        ∙ ap flat (ap (entries_of 8) e ∙ stored-entry 8 16 area image k at long eight below q (omega arith) ∙ ap (set (entries_of 8 area) k) is)
        ∙ sym (area-whole (written k m (some size)) area long)

-- a turn of a loop over sync managers: the next is written, or gets no image; and the end
module _ (f : ℕ → SyncManager → Option ℕ) (k : ℕ) (m : SyncManager) (ms rest : List SyncManager) (first : ms ≡ m ∷ rest) where
  pub area-turn : (area : List ℕ) (o : Option ℕ) → f k m ≡ o → channel_area (channels_after f (k + 1) rest) (channel_area (written k m o) area) ≡ channel_area (channels_after f k ms) area
  unfolding channels_after
  area-turn area o e =
      area-then (channels_after f (k + 1) rest) (written k m o) (written-kept k m o) area
      ∙ rw add-one (ap (λ (x : Option ℕ). channel_area (λ es. channels_after f (suc k) rest (written k m x es)) area) (sym e))
      ∙ ap (λ (l : List SyncManager). channel_area (channels_after f k l) area) (sym first)

pub area-end : (f : ℕ → SyncManager → Option ℕ) (k : ℕ) (ms : List SyncManager) (area : List ℕ) → ms ≡ [] → channel_area (channels_after f k ms) area ≡ area
unfolding channels_after
area-end f k ms area e = ap (λ (l : List SyncManager). channel_area (channels_after f k l) area) e ∙ area_same area

-- two ways to say who gets which size, which agree at each sync manager there is
next : (k i : ℕ) → k + suc i ≡ suc k + i
next k i = omega arith

module _ (d : SyncManager) (f g : ℕ → SyncManager → Option ℕ) where
  same_from :
      (k : ℕ) (ms : List SyncManager) (area : List (List ℕ)) → ((i : ℕ) → i < length ms → f (k + i) (get_or ms i d) ≡ g (k + i) (get_or ms i d))
      → channels_after f k ms area ≡ channels_after g k ms area
  unfolding channels_after
  same_from k [] area h = refl
  same_from k (m ∷ ms) area h =
      ap (λ (o : Option ℕ). channels_after f (suc k) ms (written k m o area)) (subst (λ (j : ℕ). f j m ≡ g j m) (add-zero k) (h 0 (zero-lt-suc (length ms))))
      ∙ same_from (suc k) ms (written k m (g k m) area) (λ i l. subst (λ (j : ℕ). f j (get_or ms i d) ≡ g j (get_or ms i d)) (next k i) (h (suc i) (omega arith)))

  pub channels-same : (ms : List SyncManager) (area : List (List ℕ)) → ((i : ℕ) → i < length ms → f i (get_or ms i d) ≡ g i (get_or ms i d)) → channels_after f 0 ms area ≡ channels_after g 0 ms area
  channels-same ms area h = same_from 0 ms area (λ i l. subst (λ (j : ℕ). f j (get_or ms i d) ≡ g j (get_or ms i d)) (sym (zero-add i)) (h i l))

-- an image below those that are written may be written before them or after
written-past :
    (f : ℕ → SyncManager → Option ℕ) (j : ℕ) (n : SyncManager) (o : Option ℕ) (k : ℕ) (ms : List SyncManager) (es : List (List ℕ)) → j < k
    → written j n o (channels_after f k ms es) ≡ channels_after f k ms (written j n o es)
unfolding channels_after
written-past f j n o k [] es h = refl
written-past f j n o k (m ∷ ms) es h = written-past f j n o (suc k) ms (written k m (f k m) es) (omega arith) ∙ ap (channels_after f (suc k) ms) (one o (f k m))
  where
    one : (x y : Option ℕ) → written j n x (written k m y es) ≡ written k m y (written j n x es)
    one none y = refl
    one (some a) none = refl
    one (some a) (some b) = set_comm es k j (image_of (channel_for m b)) (image_of (channel_for n a)) (λ e. omega arith)

-- all by g after all by f is one list by h, where that is so of each sync manager
pub channels-merged :
    (f g h : ℕ → SyncManager → Option ℕ)
    → ((k : ℕ) (m : SyncManager) (es : List (List ℕ)) → written k m (g k m) (written k m (f k m) es) ≡ written k m (h k m) es)
    → (k : ℕ) (ms : List SyncManager) (es : List (List ℕ)) → channels_after g k ms (channels_after f k ms es) ≡ channels_after h k ms es
unfolding channels_after
channels-merged f g h one k [] es = refl
channels-merged f g h one k (m ∷ ms) es =
    ap (channels_after g (suc k) ms) (written-past f k m (g k m) (suc k) ms (written k m (f k m) es) (omega arith) ∙ ap (channels_after f (suc k) ms) (one k m es))
    ∙ channels-merged f g h one (suc k) ms (written k m (h k m) es)
