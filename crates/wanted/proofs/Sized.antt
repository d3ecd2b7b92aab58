-- Sizes as loops meet them: rounding up one after another, and whether one of a usage is above 0.
-- Assumes nothing.
use mathlib.Core.Path.{◌≡◌, refl, sym, ◌∙◌, ap}
use mathlib.Core.Bool.{Bool, true, false, ◌&&◌, and-false}
use mathlib.Core.List.{List, [], ◌∷◌, ◌++◌}
use Prim.Native.Nat.{ℕ, ◌+◌, ◌-◌, ◌≤◌, ◌<◌}
use lib.ListN.{length, set, replicate}
use lib.Dec.{ltb}
use borrow.Author.Tests.{eq-eqb, ne_eqb, lt-ltb, le-ltb}
use native.Mathlib.Omega.{arith}
use Rattle.wire.specs.Lists.{list_of, some_below}
use Rattle.wire.specs.Outcome.{refused, accepted, when, decide}
use Rattle.wire.proofs.Lists.{some-hit, some-miss, none_yet, filled}
use Rattle.wire.proofs.Order.{never, passed_first, passed-answer}
use Rattle.pdi.specs.Unit.{bytes_of, too_many_bits, rounded_up}
use Rattle.pdi.specs.declared.BitLen.{BitLen}
use Rattle.pdi.specs.declared.ByteLen.{ByteLen}
use Rattle.grammar.specs.Grammar.{manager_count, manager_place}
use Rattle.sheet.specs.Sheet.{manager_at, sheet_data}
use Rattle.sheet.specs.declared.SyncManager.{SyncManager}
use Rattle.sheet.proofs.Managers.{manager-count}
use Rattle.channels.specs.Channels.{size_at}
use Rattle.passes.specs.Handed.{has_usage}
use Rattle.wanted.specs.ByKind.{bit_at}
use Rattle.wanted.specs.Paths.{rounded_in, some_size}
use Rattle.wanted.proofs.Managers.{usage-here}

-- what one refusal's number says of its condition
pub was-refused : {A : Type 0} (n m : ℕ) (t : Bool) (x : A) → refused m ≡ decide (when n t ∷ []) x → (t ≡ true) × (m ≡ n)
was-refused n m true x e = (refl, cc)
was-refused n m false x e = absurd (never e)

-- rounding up: what is rounded so far, and none of it too wide
module _ (bits : List BitLen) where
  abbrev no_size : ByteLen
  no_size = record { 0 = 0 }

  abbrev size : ℕ → ByteLen
  size k = record { 0 = bytes_of (bit_at bits k) }

  abbrev wide : ℕ → Bool
  wide k = too_many_bits (bit_at bits k)

  pub record Rounding (list : List ByteLen) (k : ℕ) : Type 0 where
    pub rounded : list ≡ list_of size k ++ replicate (16 - k) no_size
    pub narrow : some_below wide k ≡ false

  pub rounding-start : Rounding (replicate 16 no_size) 0
  unfolding some_below
  rounding-start = record { rounded = none_yet size no_size; narrow = refl }

  pub rounding-turn : (list : List ByteLen) (k : ℕ) (x : ByteLen) → k < 16 → accepted x.0 ≡ rounded_up (bit_at bits k) → Rounding list k → Rounding (set list k x) (k + 1)
  rounding-turn list k x h a t =
      let b = bit_at bits k in
      let is : x.0 ≡ bytes_of b = passed-answer (when 6 (too_many_bits b) ∷ []) (bytes_of b) x.0 a in
      record {
        rounded = ap (λ (y : ByteLen). set list k y) (λ i. record { 0 = is i }) ∙ filled size no_size 16 k list h t.rounded;
        narrow = some-miss wide k t.narrow (passed_first (when 6 (too_many_bits b)) [] (bytes_of b) x.0 a).0;
      }

  -- one that is too wide
  module _ (n : ℕ) where
    pub rounding-refused : (k m : ℕ) → k < n → refused m ≡ rounded_up (bit_at bits k) → refused m ≡ rounded_in n bits
    rounding-refused k m h a =
        let w = was-refused 6 m (wide k) (bytes_of (bit_at bits k)) a in
        let some = some-hit wide k n h w.0 in
        ap refused w.1 ∙ rw some

-- whether a size of a usage is above 0: none so far, one that is, one more that isn't or has another usage, none at all
module _ (s : List ℕ) (usage : ℕ) (sizes : List ByteLen) where
  abbrev ms : List SyncManager
  ms = (sheet_data s).managers

  abbrev above : ℕ → Bool
  above k = has_usage usage ms k && ltb 0 (size_at sizes k)

  pub no-size-start : some_below above 0 ≡ false
  unfolding some_below
  no-size-start = refl

  pub size-empty : (k : ℕ) → some_below above k ≡ false → size_at sizes k ≤ 0 → some_below above (k + 1) ≡ false
  size-empty k h l = some-miss above k h (ap (λ (b : Bool). has_usage usage ms k && b) (le-ltb 0 (size_at sizes k) l) ∙ and-false (has_usage usage ms k))

  pub size-nowhere : (k : ℕ) → k ≡ manager_count s → some_below above k ≡ false → false ≡ some_size ms usage sizes
  unfolding some_size
  size-nowhere k e h = sym h ∙ ap (some_below above) (e ∙ sym (manager-count s))

  module _ (k : ℕ) (here : k < manager_count s) where
    pub size-here : (manager_at s (manager_place k)).usage_type ≡ usage → 0 < size_at sizes k → true ≡ some_size ms usage sizes
    unfolding some_size
    size-here u l =
        let has = usage-here s usage k here ∙ eq-eqb (manager_at s (manager_place k)).usage_type usage u in
        sym (some-hit above k (length ms) (omega (arith, manager-count s)) (λ i. has i && lt-ltb 0 (size_at sizes k) l i))

    pub size-other : some_below above k ≡ false → ((manager_at s (manager_place k)).usage_type ≡ usage → ⊥) → some_below above (k + 1) ≡ false
    size-other h u =
        some-miss above k h (ap (λ (b : Bool). b && ltb 0 (size_at sizes k)) (usage-here s usage k here ∙ ne_eqb (manager_at s (manager_place k)).usage_type usage u))
