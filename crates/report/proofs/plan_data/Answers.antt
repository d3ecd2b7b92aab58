-- `report::plan_data`: a call by default that is lent no multiplier counts each PDO once.
-- Assumes nothing.
use mathlib.Core.Path.{◌≡◌, subst}
use mathlib.Core.List.{List, []}
use Prim.Native.Nat.{ℕ}
use Rattle.sheet.specs.Sheet.{sheet_data}
use Rattle.pdo.proofs.Lacking.{bits_none}
use Rattle.passes.specs.declared.Chosen.{Chosen}
use Rattle.passes.specs.declared.Settings.{Settings}
use Rattle.passes.specs.Start.{Offsets, Configured}
use Rattle.passes.specs.Call.{Configures}
use Rattle.passes.proofs.Same.{configures-same}
use Rattle.report.specs.Plan.{once}
use Rattle.report.proofs.plan_data.Goals as goal

-- the settings that it makes are the default, and what it hands on is that of no pairs
default-are : {sheet ws : List ℕ} {k none : Chosen} {o : Offsets} {made meant : Settings} {fmmus channels : List ℕ} {answer : Configured} {fmmus_then channels_then : List ℕ} → k ≡ none → made ≡ meant → Configures sheet ws k o made fmmus channels answer fmmus_then channels_then → Configures sheet ws none o meant fmmus channels answer fmmus_then channels_then
default-are {sheet} {ws} {k} {none} {o} {made} {meant} {fmmus} {channels} {answer} {fmmus_then} {channels_then} n e h =
    subst (λ (settings : Settings). Configures sheet ws none o settings fmmus channels answer fmmus_then channels_then) e
    (subst (λ (chosen : Chosen). Configures sheet ws chosen o made fmmus channels answer fmmus_then channels_then) n h)

pub returns : goal.returns
returns c =
    let s = c.args.sheet.now in
    default-are c.none.ensures c.clean.ensures (configures-same s [] (once s) (bits_none (sheet_data s).pdos) c.configure.ensures)
