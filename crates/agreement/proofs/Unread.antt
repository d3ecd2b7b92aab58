-- Pairs that aren't read, and an empty list of them.
-- Assumes nothing.
use mathlib.Core.Path.{◌≡◌, refl, sym, ◌∙◌}
use mathlib.Core.Bool.{true, false}
use mathlib.Core.List.{List, [], ◌∷◌, ◌++◌}
use Prim.Native.Nat.{ℕ, ◌<◌}
use borrow.Author.Tests.{lt-ltb}
use Rattle.wire.specs.Lists.{Each}
use Rattle.wire.specs.Outcome.{Outcome, when, decide}
use Rattle.sheet.specs.Device.{Data}
use Rattle.sheet.specs.Sheet.{sheet_refusals, sheet_data}
use Rattle.pdo.specs.declared.PdoDirection.{PdoDirection}
use Rattle.pdo.specs.Bits.{Piece, by_coe, pieces_of}
use Rattle.area.specs.Area.{entries_of}
use Rattle.passes.specs.declared.FmmuMode.{FmmuMode}
use Rattle.passes.specs.declared.FmmuMode.TheVariants.{OwnNumber, Paired}
use Rattle.passes.specs.declared.Chosen.{Chosen}
use Rattle.passes.specs.declared.Settings.{Settings}
use Rattle.passes.specs.Use.{use_of, own, given, chosen_of, uses_of, size_of}
use Rattle.passes.specs.Pairs.{bad_pairs}
use Rattle.passes.specs.Entries.{entry_refusals, entry_area}
use Rattle.passes.specs.Start.{Offsets, Both}
use Rattle.passes.specs.Pass.{not_areas}
use Rattle.passes.specs.Call.{starts_at, wanted_of_both, both_of, call, entries_after}
use Rattle.agreement.specs.Paired.{in_mode, CoeUnread, EmptyList}
use Rattle.agreement.proofs.Uses.{no_pairs, none-bad}

-- two ways to choose entries that give 18 alike and make the same uses are the same to a call
same-call :
    (sheet ws : List ℕ) (c e : Chosen) (m n : FmmuMode) (o : Offsets) (settings : Settings) (fmmus channels : List ℕ)
    → bad_pairs m c (sheet_data sheet) ws ≡ bad_pairs n e (sheet_data sheet) ws
    → ((r : PdoDirection) → uses_of m c (sheet_data sheet) ws r ≡ uses_of n e (sheet_data sheet) ws r)
    → (call sheet ws c o (in_mode m settings) fmmus channels ≡ call sheet ws e o (in_mode n settings) fmmus channels)
    × ((x : Outcome Both) → entries_after x (sheet_data sheet) ws c o (in_mode m settings) fmmus ≡ entries_after x (sheet_data sheet) ws e o (in_mode n settings) fmmus)
unfolding call
same-call sheet ws c e m n o settings fmmus channels bad uses =
    let d = sheet_data sheet in (
      (λ i.
          decide
          (when 1 (not_areas fmmus channels) ∷ sheet_refusals sheet ++ (when 18 (bad i) ∷ wanted_of_both d ws
          ++ entry_refusals (λ r. uses r i) (size_of d ws) o settings (entries_of 16 fmmus)))
          (both_of d ws o settings)),
      (λ x i. entry_area x (starts_at settings o d ws) settings.old (λ r. uses r i) fmmus),
    )

-- CoE never gives 18, and its uses ask no pairs
never-bad : (d : Data) (ws : List ℕ) (c : Chosen) (m : FmmuMode) → by_coe d ≡ true → bad_pairs m c d ws ≡ false
unfolding bad_pairs
never-bad d ws c OwnNumber e = refl
never-bad d ws c Paired e = rw e refl

uses-unread : (d : Data) (ws : List ℕ) (c e : Chosen) (m n : FmmuMode) (r : PdoDirection) → by_coe d ≡ true → uses_of m c d ws r ≡ uses_of n e d ws r
unfolding uses_of
uses-unread d ws c e m n r path = rw path refl

pub coe-unread : CoeUnread
coe-unread sheet ws c e m n o settings fmmus channels path =
    let d = sheet_data sheet in
    same-call sheet ws c e m n o settings fmmus channels (never-bad d ws c m path ∙ sym (never-bad d ws e n path)) (λ r. uses-unread d ws c e m n r path)

-- with bits nothing is left out
all_there : (ps : List Piece) → Each (λ (p : Piece). 0 < p.bits) ps → given (λ number. number) ps ≡ own ps
unfolding given own
all_there [] e = refl
all_there (p ∷ ps) e = rw (lt-ltb 0 p.bits e.0) (λ i. use_of p.number p ∷ all_there ps e.1 i)

pub empty-list : EmptyList
unfolding uses_of bad_pairs
empty-list sheet ws o settings fmmus channels few full =
    same-call sheet ws (chosen_of []) (chosen_of []) Paired OwnNumber o settings fmmus channels (none-bad (sheet_data sheet) few ws) same
  where
    same : (r : PdoDirection) → uses_of Paired (chosen_of []) (sheet_data sheet) ws r ≡ uses_of OwnNumber (chosen_of []) (sheet_data sheet) ws r
    same r = let all = no_pairs (sheet_data sheet) few ws r ∙ all_there (pieces_of (sheet_data sheet) ws r) (full r) in rw all refl
