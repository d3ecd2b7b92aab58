-- The bits of one usage taken from those of all: number by number.
-- Assumes nothing.
use mathlib.Core.Path.{◌≡◌, refl, sym, ◌∙◌, ap, subst}
use mathlib.Core.Bool.{Bool, true, false, cond}
use mathlib.Core.List.{List}
use Prim.Native.Nat.{ℕ, ◌+◌, ◌≤◌, ◌<◌}
use native.Mathlib.Omega.{arith}
use lib.ListN.{length, get_or, set, replicate, length-set, get_or-replicate}
use lib.Seq.{ext_get_or, get_or-set_same, get_or-set_other}
use lib.Dec.{eqb, ltb}
use borrow.Author.Tests.{eq-eqb, ne_eqb, eqb-true, eqb-false, ltb-true, ltb-false}
use Rattle.wire.specs.Lists.{list_of}
use Rattle.wire.proofs.Lists.{length-list_of, get_d-list_of}
use Rattle.pdi.specs.declared.BitLen.{BitLen}
use Rattle.grammar.specs.Grammar.{manager_count, manager_place}
use Rattle.sheet.specs.Sheet.{sheet_data}
use Rattle.passes.specs.Handed.{has_usage}
use Rattle.wanted.specs.ByKind.{no_bits, bit_at, of_usage}
use Rattle.wanted.proofs.Managers.{usage-here, usage-nowhere}

module _ (s : List ℕ) (usage : ℕ) (bits : List BitLen) where
  abbrev has : ℕ → Bool
  has k = has_usage usage (sheet_data s).managers k

  abbrev own : ℕ → BitLen
  own k = record { 0 = cond (has k) (bit_at bits k) 0 }

  not_own : (k : ℕ) → has k ≡ false → no_bits ≡ own k
  not_own k h = sym (λ j. record { 0 = cond (h j) (bit_at bits k) 0 })

  -- below k each holds its own, from k on there is nothing yet
  pub record Picked (out : List BitLen) (k : ℕ) : Type 0 where
    pub long : length out ≡ 16
    pub met : (j : ℕ) → j < k → get_or out j no_bits ≡ own j
    pub ahead : (j : ℕ) → k ≤ j → j < 16 → get_or out j no_bits ≡ no_bits

  pub picked-start : Picked (replicate 16 no_bits) 0
  picked-start = record { long = refl; met = λ j l. absurd (omega arith); ahead = λ j l h. get_or-replicate 16 j no_bits no_bits h }

  -- one more is met
  next : (out : List BitLen) (k : ℕ) → get_or out k no_bits ≡ own k → ((j : ℕ) → j < k → get_or out j no_bits ≡ own j) → (j : ℕ) → j < k + 1 → get_or out j no_bits ≡ own j
  next out k here below j l = go (eqb k j) refl
    where
      go : (b : Bool) → eqb k j ≡ b → get_or out j no_bits ≡ own j
      go true e = subst (λ (i : ℕ). get_or out i no_bits ≡ own i) (eqb-true k j e) here
      go false e = below j (let q = eqb-false k j e in omega arith)

  -- the number's usage u decides
  module _ {out : List BitLen} {k : ℕ} (t : Picked out k) (u : ℕ) (h : k < 16) (l : k < manager_count s) (eu : u ≡ get_or s (manager_place k + 4) 0) where
    has-is : has k ≡ eqb u usage
    has-is = usage-here s usage k l ∙ ap (λ (x : ℕ). eqb x usage) (sym eu)

    pub picked-here : (slot from : ℕ) (then : List BitLen) → u ≡ usage → slot ≡ k → from ≡ k → then ≡ set out slot (get_or bits from no_bits) → Picked then (k + 1)
    picked-here slot from then same es ef e = subst (λ (l : List BitLen). Picked l (k + 1)) (sym (e ∙ (λ j. set out (es j) (get_or bits (ef j) no_bits)))) more
      where
        x : BitLen
        x = get_or bits k no_bits

        x-own : x ≡ own k
        x-own = sym (λ j. record { 0 = cond ((has-is ∙ eq-eqb u usage same) j) (bit_at bits k) 0 })

        more : Picked (set out k x) (k + 1)
        more =
            record {
              long = length-set out k x ∙ t.long;
              met =
                  next (set out k x) k (get_or-set_same out k x no_bits (omega (arith, t.long)) ∙ x-own)
                  (λ j l. get_or-set_other out k j x no_bits (λ q. absurd (omega (arith, q))) ∙ t.met j l);
              ahead = λ j l g. get_or-set_other out k j x no_bits (λ q. absurd (omega (arith, q))) ∙ t.ahead j (omega arith) g;
            }

    pub picked-on : (then : List BitLen) → (u ≡ usage → ⊥) → then ≡ out → Picked then (k + 1)
    picked-on then other e =
        subst (λ (l : List BitLen). Picked l (k + 1)) (sym e)
        (record {
          long = t.long;
          met = next out k (t.ahead k (omega arith) h ∙ not_own k (has-is ∙ ne_eqb u usage other)) t.met;
          ahead = λ j l g. t.ahead j (omega arith) g;
        })

  -- a number without a sync manager has no usage
  pub picked-end : {out : List BitLen} {k : ℕ} → Picked out k → manager_count s ≤ k → out ≡ of_usage (sheet_data s).managers usage bits
  picked-end {out} {k} t n =
      ext_get_or no_bits out (list_of own 16) (t.long ∙ sym (length-list_of own 16))
      (λ j l. let h : j < 16 = omega (arith, t.long) in all j h (ltb j k) refl ∙ sym (get_d-list_of own 16 j no_bits h))
    where
      all : (j : ℕ) → j < 16 → (b : Bool) → ltb j k ≡ b → get_or out j no_bits ≡ own j
      all j h true e = t.met j (ltb-true j k e)
      all j h false e = let l = ltb-false j k e in t.ahead j l h ∙ not_own j (usage-nowhere s usage j (omega arith))
