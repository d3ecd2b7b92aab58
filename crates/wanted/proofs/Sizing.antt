-- What counting wants: what each way through it answers.
-- Assumes nothing.
use mathlib.Core.Path.{◌≡◌, refl, sym, ◌∙◌, ap}
use mathlib.Core.Bool.{Bool, true, false}
use mathlib.Core.List.{List, [], ◌∷◌, ◌++◌}
use Prim.Native.Nat.{ℕ, ◌≤◌}
use Rattle.std.specs.Prelude.{Ok}
use Rattle.wire.specs.Outcome.{Outcome, refused, accepted, when, decide}
use Rattle.pdi.specs.declared.ByteLen.{ByteLen}
use Rattle.grammar.specs.Grammar.{manager_count}
use Rattle.wire.proofs.Order.{passed_first, passed-answer, stopped}
use Rattle.sheet.specs.Device.{Data}
use Rattle.sheet.specs.Sheet.{sheet_refusals, sheet_data}
use Rattle.sheet.proofs.Reading.{Checked, checked-accepts, checked-more}
use Rattle.pdo.specs.declared.PdoDirection.{PdoDirection}
use Rattle.pdo.specs.Direction.{usage_of}
use Rattle.pdo.specs.Bits.{by_coe}
use Rattle.passes.specs.Pass.{some_too_many, no_entry, wanted_refusals}
use Rattle.passes.specs.Handed.{sizes_of}
use Rattle.wanted.specs.ByKind.{bits_in, of_usage}
use Rattle.wanted.specs.Paths.{rounded_in, lacks_entry}
use Rattle.wanted.proofs.Asking.{rounds-direction, seven-direction}

module _ (s ws : List ℕ) (r : PdoDirection) where
  abbrev d : Data
  d = sheet_data s

  abbrev sizes : List ByteLen
  sizes = sizes_of d ws r

  abbrev whole : Outcome (List ByteLen)
  whole = decide (sheet_refusals s ++ wanted_refusals d ws r) sizes

  -- the sheet is sound: `path` is whether it goes by CoE, and `o` is what rounding up its direction's bits answers
  module _ (sound : Checked s (Ok tt)) (path : Bool) (ep : path ≡ by_coe d) (o : Outcome (List ByteLen))
      (h : o ≡ rounded_in (manager_count s) (of_usage d.managers (usage_of r) (bits_in s path ws))) where
    few : manager_count s ≤ 16
    few = (checked-accepts s sound).managers

    six : o ≡ decide (when 6 (some_too_many d ws r) ∷ []) sizes
    six = h ∙ (λ i. rounded_in (manager_count s) (of_usage d.managers (usage_of r) (bits_in s (ep i) ws))) ∙ rounds-direction s ws few r

    -- 6 is given whatever comes after it
    pub six-sizes : (n : ℕ) → o ≡ refused n → refused n ≡ whole
    six-sizes n e =
        stopped (when 6 (some_too_many d ws r) ∷ []) sizes n (decide (when 7 (no_entry d ws r) ∷ []) sizes) (sym e ∙ six)
        ∙ sym (checked-more s (wanted_refusals d ws r) sizes sound)

    -- else 7 after it, which goes by the sizes
    module _ (x : List ByteLen) (e : o ≡ accepted x) where
      fits : some_too_many d ws r ≡ false
      fits = (passed_first (when 6 (some_too_many d ws r)) [] sizes x (sym e ∙ six)).0

      all : x ≡ sizes
      all = passed-answer (when 6 (some_too_many d ws r) ∷ []) sizes x (sym e ∙ six)

      decides : (b : Bool) (y : Outcome (List ByteLen)) → no_entry d ws r ≡ b → y ≡ decide (when 7 b ∷ []) sizes → y ≡ whole
      decides b y n q = q ∙ (λ i. decide (when 6 (sym fits i) ∷ when 7 (sym n i) ∷ []) sizes) ∙ sym (checked-more s (wanted_refusals d ws r) sizes sound)

      pub eeprom-sizes : path ≡ false → accepted x ≡ whole
      unfolding no_entry
      eeprom-sizes by = decides false (accepted x) (rw (sym ep ∙ by) refl) (ap accepted all)

      seven : (b : Bool) → path ≡ true → lacks_entry d x r ≡ b → no_entry d ws r ≡ b
      seven b by l = sym (seven-direction s ws few r (sym ep ∙ by)) ∙ ap (λ (y : List ByteLen). lacks_entry d y r) (sym all) ∙ l

      pub seven-sizes : path ≡ true → lacks_entry d x r ≡ true → refused 7 ≡ whole
      seven-sizes by l = decides true (refused 7) (seven true by l) refl

      pub all-sizes : path ≡ true → lacks_entry d x r ≡ false → accepted x ≡ whole
      all-sizes by l = decides false (accepted x) (seven false by l) (ap accepted all)
