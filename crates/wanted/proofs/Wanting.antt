-- What a call wants: what each way through it answers.
-- Assumes nothing.
use mathlib.Core.Path.{◌≡◌, refl, sym, ◌∙◌, ap}
use mathlib.Core.Bool.{Bool, true, false, ◌&&◌, and-false}
use mathlib.Core.List.{List, [], ◌∷◌}
use Prim.Native.Nat.{ℕ, ◌≤◌}
use Rattle.std.specs.Prelude.{Ok}
use Rattle.wire.specs.Outcome.{Outcome, refused, accepted, Refusal, when, decide}
use Rattle.pdi.specs.declared.BitLen.{BitLen}
use Rattle.pdi.specs.declared.ByteLen.{ByteLen}
use Rattle.grammar.specs.Grammar.{manager_count}
use Rattle.wire.proofs.Order.{passed_first, passed-answer, stopped}
use Rattle.sheet.specs.Device.{Data}
use Rattle.sheet.specs.Sheet.{sheet_data}
use Rattle.sheet.proofs.Reading.{Checked, checked-accepts, checked-more}
use Rattle.pdo.specs.declared.PdoDirection.TheVariants.{MasterRead, MasterWrite}
use Rattle.pdo.specs.Bits.{by_coe}
use Rattle.passes.specs.declared.FmmuMode.{FmmuMode}
use Rattle.passes.specs.declared.Chosen.{Chosen}
use Rattle.passes.specs.declared.Wanted.{Wanted}
use Rattle.passes.specs.Pairs.{bad_pairs}
use Rattle.passes.specs.Start.{of_either}
use Rattle.passes.specs.Pass.{some_too_many, no_entry}
use Rattle.passes.specs.Call.{wanted_of_both}
use Rattle.passes.specs.Handed.{sizes_of_both, wanted_from}
use Rattle.wanted.specs.ByKind.{bits_in}
use Rattle.wanted.specs.Paths.{rounded_in, pairs_read, eeprom_wants, coe_route, coe_wants}
use Rattle.wanted.specs.Judged.{bad_choice}
use Rattle.wanted.specs.Wanted.{wanting_refusals}
use Rattle.wanted.proofs.Asking.{all_bits, rounds-both, seven-either}
use Rattle.wanted.proofs.Judging.{bad-pairs}

module _ (mode : FmmuMode) (c : Chosen) (s ws : List ℕ) where
  abbrev w : Wanted
  w = wanted_from mode c (sheet_data s) ws

  abbrev asked : List Refusal
  asked = when 18 (bad_pairs mode c (sheet_data s) ws) ∷ wanted_of_both (sheet_data s) ws

  abbrev whole : Outcome Wanted
  whole = decide (wanting_refusals mode c s ws) w

  -- the sheet is sound: `path` is whether it goes by CoE, and `bits` are the exact bits
  module _ (sound : Checked s (Ok tt)) (path : Bool) (ep : path ≡ by_coe (sheet_data s)) (bits : List BitLen) (eb : bits ≡ bits_in s path ws) where
    abbrev d : Data
    d = sheet_data s

    few : manager_count s ≤ 16
    few = (checked-accepts s sound).managers

    on : decide asked w ≡ whole
    on = sym (checked-more s asked w sound)

    all : bits ≡ all_bits s ws
    all = eb ∙ ap (λ (b : Bool). bits_in s b ws) ep

    -- 18 as it is asked
    bad : (b : Bool) → pairs_read path mode && bad_choice c d.managers bits ≡ b → bad_pairs mode c d ws ≡ b
    bad b e = sym (bad-pairs s ws c few mode) ∙ (λ i. pairs_read (sym ep i) mode && bad_choice c d.managers (sym all i)) ∙ e

    pub eighteen-wants : pairs_read path mode ≡ true → bad_choice c d.managers bits ≡ true → refused 18 ≡ whole
    eighteen-wants p q =
        let e : bad_pairs mode c d ws ≡ true = bad true (λ i. p i && q i) in
        (λ i. decide (when 18 (sym e i) ∷ wanted_of_both d ws) w) ∙ on

    pub good-pairs : bad_choice c d.managers bits ≡ false → bad_pairs mode c d ws ≡ false
    good-pairs q = bad false (ap (λ (b : Bool). pairs_read path mode && b) q ∙ and-false (pairs_read path mode))

    pub unread-pairs : pairs_read path mode ≡ false → bad_pairs mode c d ws ≡ false
    unread-pairs p = bad false (ap (λ (b : Bool). b && bad_choice c d.managers bits) p)

    -- it doesn't hold, and `o` is what rounding up the bits answers
    module _ (good : bad_pairs mode c d ws ≡ false) (o : Outcome (List ByteLen)) (h : o ≡ rounded_in (manager_count s) bits) where
      abbrev sizes : List ByteLen
      sizes = sizes_of_both d ws

      abbrev wide : Bool
      wide = of_either (some_too_many d ws)

      rounds : o ≡ decide (when 6 wide ∷ []) sizes
      rounds = h ∙ (λ i. rounded_in (manager_count s) (all i)) ∙ rounds-both s ws few

      -- 6 and 7 of either direction then decide
      decides : (a b : Bool) (x : Outcome Wanted) → wide ≡ a → of_either (no_entry d ws) ≡ b → x ≡ decide (when 6 a ∷ when 7 b ∷ []) w → x ≡ whole
      decides a b x ea e q = q ∙ (λ i. decide (when 18 (sym good i) ∷ when 6 (sym ea i) ∷ when 7 (sym e i) ∷ []) w) ∙ on

      pub six-wants : (n : ℕ) → o ≡ refused n → refused n ≡ whole
      six-wants n e =
          decides wide (of_either (no_entry d ws)) (refused n) refl refl
          (stopped (when 6 wide ∷ []) sizes n (decide (when 7 (of_either (no_entry d ws)) ∷ []) w) (sym e ∙ rounds))

      module _ (x : List ByteLen) (e : o ≡ accepted x) where
        fits : wide ≡ false
        fits = (passed_first (when 6 wide) [] sizes x (sym e ∙ rounds)).0

        list-is : x ≡ sizes
        list-is = passed-answer (when 6 wide ∷ []) sizes x (sym e ∙ rounds)

        pub coe-wants : (y : Outcome Wanted) → path ≡ true → y ≡ coe_wants d x → y ≡ whole
        coe-wants y p q =
            let by : by_coe d ≡ true = sym ep ∙ p in
            let is : record { sizes = sizes; routes = record { inputs = coe_route d MasterRead; outputs = coe_route d MasterWrite } } ≡ w = rw by refl in
            decides false (of_either (no_entry d ws)) y fits refl
            (q ∙ ap (coe_wants d) list-is ∙ (λ i. decide (when 7 (seven-either s ws few by i) ∷ []) (is i)))

        pub eeprom-wants : (y : Wanted) → path ≡ false → y ≡ eeprom_wants mode c x → accepted y ≡ whole
        unfolding no_entry
        eeprom-wants y p q =
            let by : by_coe d ≡ false = sym ep ∙ p in
            let is : eeprom_wants mode c sizes ≡ w = rw by refl in
            let none : of_either (no_entry d ws) ≡ false = rw by refl in
            decides false false (accepted y) fits none (ap accepted (q ∙ ap (eeprom_wants mode c) list-is ∙ is))
