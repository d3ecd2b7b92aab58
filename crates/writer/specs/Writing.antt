-- Writing a sheet (document 02, 2/13): the refusals in their order, and what a call promises. Device data comes in the form that the reader gives
-- it, the record and lent bytes in which its PDO records stand.
-- Assumes nothing.
use Rattle.std.specs.Prelude.{Bool, not, ◌||◌, List, [], ◌∷◌, ℕ, ◌+◌, ◌*◌, take, drop, ltb, Result}
use Rattle.wire.specs.Lists.{some_of}
use Rattle.wire.specs.Outcome.{Outcome, Refusal, when, first}
use Rattle.wire.specs.Room.{InRoom, text_in}
use Rattle.wire.specs.declared.Reason.{Reason}
pub use Rattle.grammar.specs.Grammar.{pdos_end, pdos_fit}
use Rattle.sheet.specs.declared.Device.{Device}
use Rattle.sheet.specs.Device.{data_of}
use Rattle.sheet.specs.Sheet.{some_unnamed}
use Rattle.writer.specs.Form.{sheet_of}

-- the PDO records stand from `pdos` on: how many bytes they say that they have, Σ(5 + m), m being 0 past the bytes; and those bytes
abbrev pub records_long : Device → List ℕ → ℕ
records_long d s = pdos_end (drop d.pdos s) d.p 0

abbrev pub records_of : Device → List ℕ → List ℕ
records_of d s = take (records_long d s) (drop d.pdos s)

-- 2: the exact L is above 16,384, with n and f as the record says
unfoldable pub too_long : Device → List ℕ → Bool
too_long d s = ltb 16384 (9 + 5 * d.n + d.f + records_long d s)

-- 4: another sheet rule is broken: n or f above 16; a usage that has no name (a sync manager's is 0 to 4, an FMMU's 0 to 3); a PDO record that
-- runs past its bytes, or whose kind doesn't go with its count
unfoldable pub rule_broken : Device → List ℕ → Bool
rule_broken d records =
    ltb 16 d.n
    || (ltb 16 d.f
    || (some_of (λ m. ltb 4 m.usage_type) (take d.n d.managers)
    || (some_of (ltb 3) (take d.f d.usages) || not (pdos_fit records d.p 0))))

-- the refusals in their order, 5 being the sheet's own: an unnamed mode or direction among the first n, whatever its number; then the rule for texts, with 12 last
abbrev pub data_refusals : Device → List ℕ → List Refusal
data_refusals d s = when 2 (too_long d s) ∷ when 4 (rule_broken d (records_of d s)) ∷ when 5 (some_unnamed (take d.n d.managers)) ∷ []

unfoldable pub writing : Device → List ℕ → List ℕ → Outcome ℕ
writing d s room = first (data_refusals d s) (text_in (sheet_of (data_of d s)) room)

-- the promise of `write`: its answer, and what the room holds then
abbrev pub Writes : Device → List ℕ → List ℕ → Result ℕ Reason → List ℕ → Type 0
Writes d s room r after = InRoom (writing d s room) (sheet_of (data_of d s)) room r after
