-- What counting and a call want of a sheet: the size of each wanted sync manager, and for a call the routes; or the first of the refusals.
-- Assumes nothing.
use Rattle.std.specs.Prelude.{◌≡◌, List, ◌∷◌, ◌++◌, ℕ, Result}
use Rattle.wire.specs.Outcome.{Outcome, Refusal, when, decide, outcome_by}
use Rattle.wire.specs.declared.Reason.{Reason}
use Rattle.pdi.specs.declared.ByteLen.{ByteLen}
use Rattle.sheet.specs.Sheet.{sheet_refusals, sheet_data}
use Rattle.pdo.specs.declared.PdoDirection.{PdoDirection}
use Rattle.passes.specs.declared.FmmuMode.{FmmuMode}
use Rattle.passes.specs.declared.Chosen.{Chosen}
use Rattle.passes.specs.declared.Wanted.{Wanted}
use Rattle.passes.specs.Pairs.{bad_pairs}
use Rattle.passes.specs.Pass.{wanted_refusals}
use Rattle.passes.specs.Call.{wanted_of_both}
use Rattle.passes.specs.Handed.{sizes_of, wanted_from}

-- what the answer of each says
abbrev pub sized_of : Result (List ByteLen) Reason → Outcome (List ByteLen)
sized_of r = outcome_by (λ sizes. sizes) r

abbrev pub wants_of : Result Wanted Reason → Outcome Wanted
wants_of r = outcome_by (λ w. w) r

-- the promise for counting: 2 to 7 of a direction
abbrev pub Sized : List ℕ → List ℕ → PdoDirection → Result (List ByteLen) Reason → Type 0
Sized sheet ws r x = sized_of x ≡ decide (sheet_refusals sheet ++ wanted_refusals (sheet_data sheet) ws r) (sizes_of (sheet_data sheet) ws r)

-- 2 to 5, 18, then 6 and 7 of either direction, in their order
abbrev pub wanting_refusals : FmmuMode → Chosen → List ℕ → List ℕ → List Refusal
wanting_refusals mode c sheet ws = sheet_refusals sheet ++ (when 18 (bad_pairs mode c (sheet_data sheet) ws) ∷ wanted_of_both (sheet_data sheet) ws)

-- the promise for a call
abbrev pub Wants : FmmuMode → Chosen → List ℕ → List ℕ → Result Wanted Reason → Type 0
Wants mode c sheet ws x = wants_of x ≡ decide (wanting_refusals mode c sheet ws) (wanted_from mode c (sheet_data sheet) ws)
