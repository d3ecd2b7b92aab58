-- Pairs (document 02, 6/13) beside the rest: where they aren't read, what an empty list is, and what demand 3 needs: without either of 18's two rules on entries
-- it is false.
-- Assumes nothing.
use Rattle.std.specs.Prelude.{◌≡◌, Bool, true, List, [], ◌↔◌, ℕ, ◌≤◌, ◌<◌, length}
use Rattle.wire.specs.Image.{Bytes}
use Rattle.wire.specs.Lists.{Each}
use Rattle.wire.specs.Outcome.{Outcome, accepted, decide}
use Rattle.sheet.specs.Sheet.{sheet_data}
use Rattle.pdo.specs.declared.PdoDirection.{PdoDirection}
use Rattle.pdo.specs.Bits.{Piece, by_coe, pieces_of}
use Rattle.passes.specs.declared.OldEntries.{OldEntries}
use Rattle.passes.specs.declared.FmmuMode.{FmmuMode}
use Rattle.passes.specs.declared.FmmuMode.TheVariants.{OwnNumber, Paired}
use Rattle.passes.specs.declared.Chosen.{Chosen}
use Rattle.passes.specs.declared.Settings.{Settings}
use Rattle.passes.specs.Use.{Use, chosen_of}
use Rattle.passes.specs.Pairs.{shared_by_both, one_between, bad_by}
use Rattle.passes.specs.Start.{Offsets, Both}
use Rattle.passes.specs.Call.{refusals_if, both_of, call, entries_after}
use Rattle.agreement.specs.Agreement.{EveryDisabled, Lent, weights, choice, EndToEnd, laid_by, Agree}

-- settings of which the mode is another
abbrev pub in_mode : FmmuMode → Settings → Settings
in_mode mode settings = record { group = settings.group; old = settings.old; mode = mode; outputs = settings.outputs }

-- on the CoE path the pairs are unread, bad ones too: whatever the mode and whatever they hand on, the same answer and the same entries
abbrev pub CoeUnread : Type 0
CoeUnread =
    (sheet ws : List ℕ) (c e : Chosen) (m n : FmmuMode) (o : Offsets) (settings : Settings) (fmmus channels : List ℕ)
    → by_coe (sheet_data sheet) ≡ true
    → (call sheet ws c o (in_mode m settings) fmmus channels ≡ call sheet ws e o (in_mode n settings) fmmus channels)
    × ((x : Outcome Both) → entries_after x (sheet_data sheet) ws c o (in_mode m settings) fmmus ≡ entries_after x (sheet_data sheet) ws e o (in_mode n settings) fmmus)

-- an empty list is still the new mode, in which one of 0 bits writes no entry; where each wanted sync manager has bits it is the old one. At most 16 sync managers
-- are a rule of the sheet
abbrev pub EmptyList : Type 0
EmptyList =
    (sheet ws : List ℕ) (o : Offsets) (settings : Settings) (fmmus channels : List ℕ)
    → length (sheet_data sheet).managers ≤ 16
    → ((r : PdoDirection) → Each (λ (p : Piece). 0 < p.bits) (pieces_of (sheet_data sheet) ws r))
    → (call sheet ws (chosen_of []) o (in_mode Paired settings) fmmus channels ≡ call sheet ws (chosen_of []) o (in_mode OwnNumber settings) fmmus channels)
    × ((x : Outcome Both)
    → entries_after x (sheet_data sheet) ws (chosen_of []) o (in_mode Paired settings) fmmus ≡ entries_after x (sheet_data sheet) ws (chosen_of []) o (in_mode OwnNumber settings) fmmus)

-- a call that gives 18 on another condition; and that it is accepted
abbrev pub call_if : Bool → List ℕ → Lent → List ℕ → Outcome Both
call_if bad sheet l area =
    decide (refusals_if bad sheet (weights sheet l) (choice l) l.offsets l.settings area l.channels)
    (both_of (sheet_data sheet) (weights sheet l) l.offsets l.settings)

pub record AcceptedIf (bad : Bool) (sheet : List ℕ) (l : Lent) (area after : List ℕ) : Type 0 where
  pub both : Both
  pub says : call_if bad sheet l area ≡ accepted both
  pub leaves : after ≡ entries_after (call_if bad sheet l area) (sheet_data sheet) (weights sheet l) (choice l) l.offsets l.settings area

-- pairs that are bad by another test of entries
abbrev pub bad_for : (List Use → List Use → ℕ → Bool) → List ℕ → Lent → Bool
bad_for bad sheet l = bad_by bad l.settings.mode (choice l) (sheet_data sheet) (weights sheet l)

-- demand 3 of a call that doesn't ask whether an entry is left and used again: false, by default and keeping (`between-needed`)
abbrev pub WithoutBetween : OldEntries → Type 0
WithoutBetween old =
    (sheet : List ℕ) (l : Lent) (area after : List ℕ)
    → Bytes sheet
    → l.settings.old ≡ old
    → AcceptedIf (bad_for shared_by_both sheet l) sheet l area after
    → EveryDisabled area
    → (r : PdoDirection)
    → Agree sheet r l after ↔ EndToEnd (laid_by sheet r l)

-- demand 3 of a call that doesn't ask whether an entry is of both directions: false, by default and keeping (`both-needed`)
abbrev pub WithoutBoth : OldEntries → Type 0
WithoutBoth old =
    (sheet : List ℕ) (l : Lent) (area after : List ℕ)
    → Bytes sheet
    → l.settings.old ≡ old
    → AcceptedIf (bad_for one_between sheet l) sheet l area after
    → EveryDisabled area
    → (r : PdoDirection)
    → Agree sheet r l after ↔ EndToEnd (laid_by sheet r l)
