-- Demand 3 over definitions: what a call, translation and counting mean. Of the functions themselves it is stated in demand3/specs/Calls.antt.
-- By default it holds on every area; keeping old entries, it needs every entry disabled at the start.
-- Assumes nothing.
use Rattle.std.specs.Prelude.{◌≡◌, Bool, false, cond, ◌&&◌, List, [], ◌∷◌, ◌↔◌, ℕ, ◌+◌, ◌^◌, ◌≤◌, ◌<◌, get_or, eqb, ltb}
use Rattle.std.proofs.Math.Option.{Option}
use Rattle.wire.specs.Outcome.{Outcome, accepted}
use Rattle.wire.specs.Image.{Bytes}
use Rattle.fmmu.specs.Image.{fields_of}
use Rattle.wire.specs.Lists.{Each}
use Rattle.sheet.specs.Sheet.{sheet_data}
use Rattle.pdo.specs.declared.PdoDirection.{PdoDirection}
use Rattle.pdo.specs.declared.Oversampling.{Oversampling}
use Rattle.pdo.specs.Bits.{multipliers_of, pieces_of}
use Rattle.passes.specs.Use.{Use, own, chosen_by}
use Rattle.passes.specs.declared.FmmuPair.{FmmuPair}
use Rattle.passes.specs.declared.Chosen.{Chosen}
use Rattle.passes.specs.declared.OldEntries.{OldEntries}
use Rattle.passes.specs.declared.OldEntries.TheVariants.{Clear, Keep}
use Rattle.passes.specs.declared.Settings.{Settings}
use Rattle.area.specs.Area.{entries_of}
use Rattle.passes.specs.Start.{Offsets, Both}
use Rattle.passes.specs.Call.{uses_for, starts_at, call, entries_after}
use Rattle.translation.specs.Translate.{translate}
use Rattle.counting.specs.Count.{counted_address}

-- every FMMU entry disabled: all sixteen
abbrev pub EveryDisabled : List ℕ → Type 0
EveryDisabled area = (k : ℕ) → k < 16 → (fields_of (get_or (entries_of 16 area) k [])).enable ≡ false

-- what demand 3 needs of the area at the start: by default nothing; keeping, that every entry is disabled
abbrev pub Needs : OldEntries → List ℕ → Type 0
Needs Clear area = Unit {0}
Needs Keep area = EveryDisabled area

-- what a call is lent beside the sheet and the FMMU area; its settings are the group's start, what becomes of old entries, whether the pairs are read, and where the
-- outputs start
pub record Lent : Type 0 where
  pub table : List Oversampling
  pub pairs : List FmmuPair
  pub offsets : Offsets
  pub settings : Settings
  pub channels : List ℕ

-- one multiplier for each PDO of the sheet, by the table
abbrev pub weights : List ℕ → Lent → List ℕ
weights sheet l = multipliers_of l.table (sheet_data sheet).pdos

-- what its pairs hand on
abbrev pub choice : Lent → Chosen
choice l = chosen_by l.settings.mode l.pairs

-- a call for the sheet over the FMMU bytes `area`
abbrev pub call_of : List ℕ → Lent → List ℕ → Outcome Both
call_of sheet l area = call sheet (weights sheet l) (choice l) l.offsets l.settings area l.channels

-- it is accepted, and leaves `after`
pub record Accepted (sheet : List ℕ) (l : Lent) (area after : List ℕ) : Type 0 where
  pub both : Both
  pub says : call_of sheet l area ≡ accepted both
  pub leaves : after ≡ entries_after (call_of sheet l area) (sheet_data sheet) (weights sheet l) (choice l) l.offsets l.settings area

-- a sync manager with more than 0 bytes
abbrev pub nonempty : Use → Bool
nonempty u = ltb 0 u.size

-- the nonempty ones that share the entry k, in number order
unfoldable pub sharing : ℕ → List Use → List Use
sharing k [] = []
sharing k (u ∷ us) = cond (nonempty u && eqb u.entry k) (u ∷ sharing k us) (sharing k us)

-- each begins where the one before it ends
abbrev pub Chained : List Use → Type 0
Chained [] = Unit {0}
Chained (u ∷ []) = Unit {0}
Chained (u ∷ v ∷ us) = (v.at ≡ u.at + u.size) × Chained (v ∷ us)

-- the nonempty sync managers that share an entry lie end to end, in number order
abbrev pub EndToEnd : List Use → Type 0
EndToEnd us = (k : ℕ) → Chained (sharing k us)

-- the sync managers of a direction, each with its size, its device address and the entry that it uses
abbrev pub laid_by : List ℕ → PdoDirection → Lent → List Use
laid_by sheet r l = uses_for l.settings (choice l) (sheet_data sheet) (weights sheet l) r

-- the direction's start: its offset, or for outputs straight after the inputs the inputs' end
abbrev pub started_at : List ℕ → PdoDirection → Lent → ℕ
started_at sheet r l = starts_at l.settings l.offsets (sheet_data sheet) (weights sheet l) r

-- the device address by counting from the direction's own start
abbrev pub counted : List ℕ → PdoDirection → Lent → ℕ → Outcome (Option ℕ)
counted sheet r l a = counted_address r a sheet (weights sheet l) (started_at sheet r l)

-- translating and counting name the same device address, or both none, at all 2^32 logical addresses
abbrev pub Agree : List ℕ → PdoDirection → Lent → List ℕ → Type 0
Agree sheet r l area = (a : ℕ) → a < 2 ^ 32 → translate r area a ≡ counted sheet r l a

-- one call, for either direction
abbrev pub Demand3 : Type 0
Demand3 =
    (sheet : List ℕ) (l : Lent) (area after : List ℕ)
    → Bytes sheet
    → Accepted sheet l area after
    → Needs l.settings.old area
    → (r : PdoDirection)
    → Agree sheet r l after ↔ EndToEnd (laid_by sheet r l)

-- in the default: every area
abbrev pub Demand3Clean : Type 0
Demand3Clean =
    (sheet : List ℕ) (l : Lent) (area after : List ℕ)
    → Bytes sheet
    → Accepted sheet l area after
    → l.settings.old ≡ Clear
    → (r : PdoDirection)
    → Agree sheet r l after ↔ EndToEnd (laid_by sheet r l)

-- from an area with every entry disabled, whatever the settings: so, keeping, document 01's demand
abbrev pub Demand3FromDisabled : Type 0
Demand3FromDisabled =
    (sheet : List ℕ) (l : Lent) (area after : List ℕ)
    → Bytes sheet
    → Accepted sheet l area after
    → EveryDisabled area
    → (r : PdoDirection)
    → Agree sheet r l after ↔ EndToEnd (laid_by sheet r l)

-- the direction's nonempty sync manager areas all end at or below 65,536
abbrev pub InReach : List ℕ → PdoDirection → Lent → Type 0
InReach sheet r l = Each (λ (u : Use). 0 < u.size → u.at + u.size ≤ 65536) (own (pieces_of (sheet_data sheet) (weights sheet l) r))

-- as the request has it, with that premise, which `Demand3` does without
abbrev pub Demand3InReach : Type 0
Demand3InReach =
    (sheet : List ℕ) (l : Lent) (area after : List ℕ)
    → Bytes sheet
    → Accepted sheet l area after
    → Needs l.settings.old area
    → (r : PdoDirection)
    → InReach sheet r l
    → Agree sheet r l after ↔ EndToEnd (laid_by sheet r l)
