-- The uses of the wanted sync managers: from sizes as from bits, their bytes whatever entries they use, and the images that those sizes give.
-- Assumes nothing.
use mathlib.Core.Path.{◌≡◌, refl, sym, ◌∙◌, ap, subst}
use mathlib.Core.Bool.{Bool, true, false, cond, ◌||◌}
use mathlib.Core.List.{List, [], ◌∷◌}
use mathlib.Core.Option.{none, some}
use Prim.Native.Nat.{ℕ, suc, ◌+◌, ◌*◌, ◌<◌, ◌≤◌}
use native.Mathlib.Nat.{add-zero, zero-add}
use native.Mathlib.Omega.{arith}
use lib.ListN.{length, get_or, replicate, get_or-replicate}
use lib.Dec.{eqb, ltb}
use borrow.Author.Tests.{lt-ltb, le-ltb, ltb-true, ltb-false, eqb-true}
use Rattle.wire.proofs.Lists.{get_d-list_of}
use Rattle.pdi.specs.Unit.{bytes_of}
use Rattle.pdi.specs.declared.ByteLen.{ByteLen}
use Rattle.sheet.specs.Device.{Data}
use Rattle.sheet.specs.Sheet.{no_manager}
use Rattle.sheet.specs.declared.SyncManager.{SyncManager}
use Rattle.channels.specs.Channels.{channels_after, size_at, size_by}
use Rattle.channels.proofs.After.{channels-same}
use Rattle.pdo.specs.declared.PdoDirection.{PdoDirection}
use Rattle.pdo.specs.declared.PdoDirection.TheVariants.{MasterRead, MasterWrite}
use Rattle.pdo.specs.Direction.{usage_of}
use Rattle.pdo.specs.Bits.{Piece, by_coe, path_kind, bits_of, pieces_from, pieces_of}
use Rattle.passes.specs.declared.FmmuMode.{FmmuMode}
use Rattle.passes.specs.declared.FmmuMode.TheVariants.{OwnNumber, Paired}
use Rattle.passes.specs.declared.Chosen.{Chosen}
use Rattle.passes.specs.declared.Route.TheVariants.{Given}
use Rattle.passes.specs.Use.{Use, use_of, own, given, coe_entry, by_mode, uses_of, total, size_of}
use Rattle.passes.specs.Call.{or_else, both_size}
use Rattle.passes.specs.Handed.{exact_bits, data_bits, sizes_of_both, route_by, wanted_from, route_of, pieces_by, uses_by, uses_by_both}

-- bits take bytes exactly if there are any
pub some_bytes : (bits : ℕ) → ltb 0 (bytes_of bits) ≡ ltb 0 bits
some_bytes bits = go (ltb 0 bits) refl
  where
    go : (b : Bool) → ltb 0 bits ≡ b → ltb 0 (bytes_of bits) ≡ b
    go true e = let h = ltb-true 0 bits e in lt-ltb 0 (bytes_of bits) (omega arith)
    go false e = let h = ltb-false 0 bits e in le-ltb 0 (bytes_of bits) (omega arith)

-- eight bits for each byte take as many bytes
pub bytes_back : (n : ℕ) → bytes_of (8 * n) ≡ n
bytes_back n = omega arith

-- without bits there are no bytes, so leaving such pieces out changes no total
pub given-total : (entry : ℕ → ℕ) (ps : List Piece) → total (given entry ps) ≡ total (own ps)
unfolding total given own
given-total entry [] = refl
given-total entry (p ∷ ps) = go (ltb 0 p.bits) refl (given-total entry ps)
  where
    go : (b : Bool) → ltb 0 p.bits ≡ b → total (given entry ps) ≡ total (own ps)
        → total (cond b (use_of (entry p.number) p ∷ given entry ps) (given entry ps)) ≡ bytes_of p.bits + total (own ps)
    go true e r = ap (λ (n : ℕ). bytes_of p.bits + n) r
    go false e r = let h = ltb-false 0 p.bits e in omega arith

-- what one sync manager adds to the pieces
abbrev pub with_piece : Bool → ℕ → ℕ → ℕ → List Piece → List Piece
with_piece b k bits at ps = cond b (record { number = k; bits = bits; address = at } ∷ ps) ps

-- on given entries, or each on its own number
abbrev pub on_entries : Bool → (ℕ → ℕ) → List Piece → List Use
on_entries mine entry ps = cond mine (own ps) (given entry ps)

-- bits that take the same bytes, with the same entry for their number, make the same uses
one-use :
    (mine : Bool) (e d : ℕ → ℕ) (k f g at : ℕ) (ps qs : List Piece) (b : Bool) → (b ≡ true → bytes_of f ≡ bytes_of g) → (mine ≡ false → e k ≡ d k)
    → on_entries mine e ps ≡ on_entries mine d qs
    → on_entries mine e (with_piece b k f at ps) ≡ on_entries mine d (with_piece b k g at qs)
unfolding given own
one-use mine e d k f g at ps qs false h en rest = rest
one-use true e d k f g at ps qs true h en rest = λ i. record { entry = k; size = h refl i; at = at } ∷ rest i
one-use false e d k f g at ps qs true h en rest =
    let some : ltb 0 f ≡ ltb 0 g = sym (some_bytes f) ∙ ap (ltb 0) (h refl) ∙ some_bytes g in
    λ i. cond (some i) (record { entry = en refl i; size = h refl i; at = at } ∷ rest i) (rest i)

module _ (mine : Bool) (e d : ℕ → ℕ) (usage : ℕ) (f g : ℕ → ℕ) where
  -- at each sync manager of the usage, from the number k on; and at each number the same entry
  abbrev Agree : ℕ → List SyncManager → Type 0
  Agree k ms = (j : ℕ) → j < length ms → eqb (get_or ms j no_manager).usage_type usage ≡ true → bytes_of (f (k + j)) ≡ bytes_of (g (k + j))

  abbrev Meet : ℕ → List SyncManager → Type 0
  Meet k ms = (j : ℕ) → j < length ms → mine ≡ false → e (k + j) ≡ d (k + j)

  uses-from : (k : ℕ) (ms : List SyncManager) → Agree k ms → Meet k ms → on_entries mine e (pieces_from usage f k ms) ≡ on_entries mine d (pieces_from usage g k ms)
  unfolding pieces_from own given
  uses-from k [] h en = go mine
    where
      go : (b : Bool) → on_entries b e [] ≡ on_entries b d []
      go true = refl
      go false = refl
  uses-from k (m ∷ ms) h en =
      one-use mine e d k (f k) (g k) m.start_addr (pieces_from usage f (suc k) ms) (pieces_from usage g (suc k) ms) (eqb m.usage_type usage)
      (λ z. subst (λ (n : ℕ). bytes_of (f n) ≡ bytes_of (g n)) (add-zero k) (h 0 (omega arith) z))
      (λ z. subst (λ (n : ℕ). e n ≡ d n) (add-zero k) (en 0 (omega arith) z))
      (uses-from (suc k) ms (λ j l z. subst (λ (n : ℕ). bytes_of (f n) ≡ bytes_of (g n)) (shift k j) (h (suc j) (omega arith) z))
      (λ j l z. subst (λ (n : ℕ). e n ≡ d n) (shift k j) (en (suc j) (omega arith) z)))
    where
      shift : (k j : ℕ) → k + suc j ≡ suc k + j
      shift k j = omega arith

  pub uses-same :
      (ms : List SyncManager) → ((j : ℕ) → j < length ms → eqb (get_or ms j no_manager).usage_type usage ≡ true → bytes_of (f j) ≡ bytes_of (g j))
      → ((j : ℕ) → j < length ms → mine ≡ false → e j ≡ d j)
      → on_entries mine e (pieces_from usage f 0 ms) ≡ on_entries mine d (pieces_from usage g 0 ms)
  uses-same ms h en =
      uses-from 0 ms (λ j l z. subst (λ (n : ℕ). bytes_of (f n) ≡ bytes_of (g n)) (sym (zero-add j)) (h j l z))
      (λ j l z. subst (λ (n : ℕ). e n ≡ d n) (sym (zero-add j)) (en j l z))

module _ (d : Data) (ws : List ℕ) (r : PdoDirection) where
  -- the exact bits of a sync manager of the usage, and the size handed on for it
  pub exact-at : (k : ℕ) → k < length d.managers → eqb (get_or d.managers k no_manager).usage_type (usage_of r) ≡ true → exact_bits d ws r k ≡ bits_of (path_kind d r) k d.pdos ws
  exact-at k h e = rw (lt-ltb k (length d.managers) h, e)

  -- leaving out those without bits changes no total
  pub uses-total : (mode : FmmuMode) (c : Chosen) → total (uses_of mode c d ws r) ≡ size_of d ws r
  unfolding uses_of size_of
  uses-total mode c = go mode (by_coe d)
    where
      go : (m : FmmuMode) (b : Bool) → total (cond b (given (λ number. coe_entry d r) (pieces_of d ws r)) (by_mode m c (pieces_of d ws r))) ≡ total (own (pieces_of d ws r))
      go m true = given-total (λ number. coe_entry d r) (pieces_of d ws r)
      go OwnNumber false = refl
      go Paired false = given-total (λ number. get_or c.entries number 0) (pieces_of d ws r)

  -- of both directions it is what the direction has: the other's is 0
  pub data-at :
      (k : ℕ) → k < length d.managers → eqb (get_or d.managers k no_manager).usage_type (usage_of r) ≡ true
      → data_bits d ws k ≡ bits_of (path_kind d r) k d.pdos ws
  data-at k h e = both r (eqb-true (get_or d.managers k no_manager).usage_type (usage_of r) e) ∙ exact-at k h e
    where
      both : (q : PdoDirection) → (get_or d.managers k no_manager).usage_type ≡ usage_of q → data_bits d ws k ≡ exact_bits d ws q k
      both MasterRead u = rw (lt-ltb k (length d.managers) h, u, add-zero) refl
      both MasterWrite u = rw (lt-ltb k (length d.managers) h, u, zero-add) refl

module _ (d : Data) (ws : List ℕ) where
  pub size-handed : (k : ℕ) → k < 16 → size_at (sizes_of_both d ws) k ≡ bytes_of (data_bits d ws k)
  size-handed k h = ap (λ (b : ByteLen). b.0) (get_d-list_of (λ j. record { 0 = bytes_of (data_bits d ws j) }) 16 k (record { 0 = 0 }) h)

  module _ (few : length d.managers ≤ 16) where
    size-at :
        (r : PdoDirection) (k : ℕ) → k < length d.managers → eqb (get_or d.managers k no_manager).usage_type (usage_of r) ≡ true
        → size_at (sizes_of_both d ws) k ≡ bytes_of (bits_of (path_kind d r) k d.pdos ws)
    size-at r k h e = size-handed k (omega arith) ∙ ap bytes_of (data-at d ws r k h e)

    module _ (r : PdoDirection) where
      -- the uses of what is handed on, on entries that are the same below sixteen
      handed : (mine : Bool) (e c : ℕ → ℕ) → ((j : ℕ) → j < 16 → mine ≡ false → e j ≡ c j) → on_entries mine e (pieces_by (usage_of r) (sizes_of_both d ws) d.managers) ≡ on_entries mine c (pieces_of d ws r)
      unfolding pieces_of
      handed mine e c meet =
          uses-same mine e c (usage_of r) (λ k. 8 * size_at (sizes_of_both d ws) k) (λ k. bits_of (path_kind d r) k d.pdos ws) d.managers
          (λ j l z. bytes_back (size_at (sizes_of_both d ws) j) ∙ size-at r j l z) (λ j l z. meet j (omega arith) z)

      -- are those of the call
      pub uses-are : (mode : FmmuMode) (c : Chosen) → uses_by (route_of mode c d r) (sizes_of_both d ws) r d.managers ≡ uses_of mode c d ws r
      unfolding uses_of
      uses-are mode c = go mode (by_coe d)
        where
          go : (m : FmmuMode) (b : Bool)
              → uses_by (cond b (Given (replicate 16 (coe_entry d r))) (route_by m c)) (sizes_of_both d ws) r d.managers
              ≡ cond b (given (λ number. coe_entry d r) (pieces_of d ws r)) (by_mode m c (pieces_of d ws r))
          go m true =
              handed false (λ number. get_or (replicate 16 (coe_entry d r)) number 0) (λ number. coe_entry d r)
              (λ j l z. get_or-replicate 16 j (coe_entry d r) 0 l)
          go OwnNumber false = handed true (λ number. number) (λ number. number) (λ j l z. refl)
          go Paired false = handed false (λ number. get_or c.entries number 0) (λ number. get_or c.entries number 0) (λ j l z. refl)

    -- of both directions at once
    pub both-are : (mode : FmmuMode) (c : Chosen) → uses_by_both (wanted_from mode c d ws) d.managers ≡ uses_of mode c d ws
    both-are mode c = λ i r. go r i
      where
        go : (r : PdoDirection) → uses_by_both (wanted_from mode c d ws) d.managers r ≡ uses_of mode c d ws r
        go MasterRead = uses-are MasterRead mode c
        go MasterWrite = uses-are MasterWrite mode c

    -- who gets which size is what the call says
    sizes-agree : (k : ℕ) → k < length d.managers → size_by (sizes_of_both d ws) k (get_or d.managers k no_manager) ≡ both_size d ws k (get_or d.managers k no_manager)
    sizes-agree k h =
        go (eqb (get_or d.managers k no_manager).usage_type 4) (eqb (get_or d.managers k no_manager).usage_type 3) (size-at MasterRead k h) (size-at MasterWrite k h)
      where
        go : (a b : Bool) → (a ≡ true → size_at (sizes_of_both d ws) k ≡ bytes_of (bits_of (path_kind d MasterRead) k d.pdos ws))
            → (b ≡ true → size_at (sizes_of_both d ws) k ≡ bytes_of (bits_of (path_kind d MasterWrite) k d.pdos ws))
            → cond (a || b) (some (size_at (sizes_of_both d ws) k)) none
            ≡ or_else (cond a (some (bytes_of (bits_of (path_kind d MasterRead) k d.pdos ws))) none) (cond b (some (bytes_of (bits_of (path_kind d MasterWrite) k d.pdos ws))) none)
        go true b e f = ap some (e refl)
        go false true e f = ap some (f refl)
        go false false e f = refl

    -- so the images are the same
    pub images-are : (area : List (List ℕ)) → channels_after (size_by (sizes_of_both d ws)) 0 d.managers area ≡ channels_after (both_size d ws) 0 d.managers area
    images-are area = channels-same no_manager (size_by (sizes_of_both d ws)) (both_size d ws) d.managers area sizes-agree
