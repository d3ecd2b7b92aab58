-- Translation through the FMMU bytes (document 01, 'Translation').
-- Assumes nothing.
use Rattle.std.specs.Prelude.{Bool, cond, not, ◌&&◌, List, [], ◌∷◌, map, ℕ, ◌+◌, ◌-◌, eqb, ltb, leb}
use Rattle.std.specs.Prelude as std
use Rattle.std.proofs.Math.Option.{Option, none, some}
use Rattle.wire.specs.Outcome.{Outcome, when, decide, outcome_by}
use Rattle.wire.specs.declared.Reason.{Reason}
use Rattle.fmmu.specs.declared.Fmmu.{Fmmu}
use Rattle.fmmu.specs.Image.{fields_of}
use Rattle.pdo.specs.declared.PdoDirection.{PdoDirection}
use Rattle.pdo.specs.declared.PdoDirection.TheVariants.{MasterRead, MasterWrite}
use Rattle.wire.specs.Lists.{some_of}
use Rattle.area.specs.Area.{entries_of, not_entries}

-- start ≤ a < start + length, unbounded
abbrev pub within : ℕ → ℕ → ℕ → Bool
within start size a = leb start a && ltb a (start + size)

-- a device address, or none if it is over 65,535
abbrev pub named : ℕ → Option ℕ
named x = cond (leb x 65535) (some x) none

-- an entry that is enabled and has the direction's bit
unfoldable pub carries : PdoDirection → Fmmu → Bool
carries MasterRead f = f.enable && f.read_enable
carries MasterWrite f = f.enable && f.write_enable

-- bits 0, 7, 0: whole bytes
abbrev pub whole_bytes : Fmmu → Bool
whole_bytes f = eqb f.logical_start_bit 0 && (eqb f.logical_end_bit 7 && eqb f.physical_start_bit 0)

-- 11: an enabled entry of the direction isn't bits 0, 7, 0
unfoldable pub odd : PdoDirection → List ℕ → Bool
odd r e = carries r (fields_of e) && not (whole_bytes (fields_of e))

-- what one entry says of the address a: nothing, or, where it holds a, physical start + (a − start)
unfoldable pub says : PdoDirection → ℕ → List ℕ → Option (Option ℕ)
says r a e =
    cond
    (carries r (fields_of e) && within (fields_of e).logical_start_address (fields_of e).length_bytes.0 a)
    (some (named ((fields_of e).physical_start_address + (a - (fields_of e).logical_start_address))))
    none

-- what is there, else x
abbrev pub or_else : {A : Type 0} → A → Option A → A
or_else x none = x
or_else x (some y) = y

-- the first that says something
unfoldable pub first_said : {A : Type 0} → List (Option A) → Option A
first_said [] = none
first_said (none ∷ xs) = first_said xs
first_said (some x ∷ xs) = some x

-- none where nothing is said
abbrev pub or_none : Option (Option ℕ) → Option ℕ
or_none x = or_else none x

-- 1 and 11 over all sixteen entries; else what the first entry that holds the address says
unfoldable pub translate : PdoDirection → List ℕ → ℕ → Outcome (Option ℕ)
translate r area a =
    decide
    (when 1 (not_entries area) ∷ when 11 (some_of (odd r) (entries_of 16 area)) ∷ [])
    (or_none (first_said (map (says r a) (entries_of 16 area))))

-- what an answer says: a device address, what an entry says of one, and what translation does
abbrev pub reached_of : std.Option ℕ → Option ℕ
reached_of std.None = none
reached_of (std.Some x) = some x

abbrev pub said_of : std.Option (std.Option ℕ) → Option (Option ℕ)
said_of std.None = none
said_of (std.Some x) = some (reached_of x)

abbrev pub translated_of : std.Result (std.Option ℕ) Reason → Outcome (Option ℕ)
translated_of r = outcome_by reached_of r
