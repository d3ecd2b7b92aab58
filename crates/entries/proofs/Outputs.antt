-- Both directions laid, the outputs after the inputs: 8 of either is 8 of both, and what is there in the end.
-- Assumes nothing.
use mathlib.Core.Path.{◌≡◌, refl, sym, ◌∙◌, ap, subst}
use mathlib.Core.Bool.{Bool, true, false, cond, ◌||◌}
use mathlib.Core.List.{List, [], ◌∷◌}
use Prim.Native.Nat.{ℕ, ◌+◌, ◌<◌}
use Rattle.wire.specs.Outcome.{Outcome, refused, accepted, Refusal, when, first, number_of}
use Rattle.wire.proofs.Order.{passed_first, passed, passed-answer, stopped}
use Rattle.std.specs.Prelude.{Result, Ok, Err}
use Rattle.wire.specs.declared.Reason.{Reason}
use Rattle.pdo.specs.declared.PdoDirection.{PdoDirection}
use Rattle.pdo.specs.declared.PdoDirection.TheVariants.{MasterRead, MasterWrite}
use Rattle.passes.specs.declared.OldEntries.TheVariants.{Keep}
use Rattle.passes.specs.declared.OutputStart.{OutputStart}
use Rattle.passes.specs.declared.OutputStart.TheVariants.{Given, AfterInputs}
use Rattle.passes.specs.Use.{Use, total}
use Rattle.passes.specs.Handed.{Short}
use Rattle.passes.specs.Start.{offset_of, outputs_from, start_of, end_of, Offsets}
use Rattle.passes.specs.Entries.{plan, too_long, totals, plan_both}
use Rattle.passes.proofs.Lengths.{too-long-both, short-planned}
use Rattle.entries.specs.Lay.{Run, Lays, Runs, laid_both}

-- the outputs start no further than what bounds both
pub starts-near : (how : OutputStart) (given end bound : ℕ) → given < bound → end < bound → outputs_from how given end < bound
starts-near Given given end bound g e = g
starts-near AfterInputs given end bound g e = e

-- by another name
pub lays-as :
    {q r : PdoDirection} {start : ℕ} {us vs : List Use} {before after : List (List ℕ)} {said : Result ℕ Reason} → q ≡ r → us ≡ vs → Lays q start us before said after
    → Lays r start vs before said after
lays-as {q} {r} {start} {us} {vs} {before} {after} {said} d e l =
    subst (λ (x : PdoDirection). Lays x start vs before said after) d (subst (λ (x : List Use). Lays q start x before said after) e l)

-- a direction that was found too long
pub laid-stops :
    {A : Type 0} {r : PdoDirection} {start : ℕ} {us : List Use} {before after : List (List ℕ)} {n : Reason} (o : Outcome A) → Lays r start us before (Err n) after
    → refused (number_of n) ≡ first (when 8 (too_long Keep us before) ∷ []) o
laid-stops {A} {r} {start} {us} {before} {after} {n} o l =
    stopped (when 8 (too_long Keep us before) ∷ []) (record { end = start + total us; entries = plan r start us before }) (number_of n) o l.says

-- a direction that was laid
module _ {r : PdoDirection} {start end : ℕ} {us : List Use} {before after : List (List ℕ)} (l : Lays r start us before (Ok end) after) where
  abbrev eight : List Refusal
  eight = when 8 (too_long Keep us before) ∷ []

  abbrev run : Run
  run = record { end = start + total us; entries = plan r start us before }

  abbrev there : Run
  there = record { end = end; entries = after }

  pub laid-there : there ≡ run
  laid-there = passed-answer eight run there l.says

  pub laid-passed : {A : Type 0} (o : Outcome A) → first eight o ≡ o
  laid-passed o = passed eight run there o l.says

  pub laid-short : Short before → Short after
  laid-short s =
      subst (λ (x : Run). Short x.entries) (sym laid-there)
      (short-planned r start us before s (passed_first (when 8 (too_long Keep us before)) [] run there l.says).0)

-- the outputs after the inputs
module _ (how : OutputStart) (o : Offsets) (uses : PdoDirection → List Use) {before : List (List ℕ)} (short : Short before) {from : ℕ} (given : from ≡ offset_of MasterRead o) where
  abbrev eight_of_inputs : List Refusal
  eight_of_inputs = when 8 (too_long Keep (uses MasterRead) before) ∷ []

  abbrev left : List (List ℕ)
  left = plan MasterRead (offset_of MasterRead o) (uses MasterRead) before

  abbrev both : Runs
  both =
      record { middle = end_of how o (totals uses) MasterRead; end = end_of how o (totals uses) MasterWrite; entries = plan_both (start_of how o (totals uses)) uses before }

  -- what the inputs leave to decide
  abbrev rest : Outcome Runs
  rest = first (when 8 (too_long Keep (uses MasterWrite) left) ∷ []) (accepted both)

  -- 8 of both, one direction after the other
  in-turn : first eight_of_inputs rest ≡ laid_both how o uses before
  in-turn =
      sym
      (ap (λ (b : Bool). cond b (refused 8) (accepted both)) (too-long-both MasterRead (offset_of MasterRead o) (uses MasterRead) (uses MasterWrite) before short)
      ∙ go (too_long Keep (uses MasterRead) before) (too_long Keep (uses MasterWrite) left))
    where
      go : (a b : Bool) → cond (a || b) (refused 8) (accepted both) ≡ cond a (refused 8) (cond b (refused 8) (accepted both))
      go true b = refl
      go false b = refl

  -- the inputs from their offset
  from-offset : {said : Result ℕ Reason} {after : List (List ℕ)} → Lays MasterRead from (uses MasterRead) before said after → Lays MasterRead (offset_of MasterRead o) (uses MasterRead) before said after
  from-offset {said} {after} l = subst (λ (n : ℕ). Lays MasterRead n (uses MasterRead) before said after) given l

  pub inputs-refused : {n : Reason} {after : List (List ℕ)} → Lays MasterRead from (uses MasterRead) before (Err n) after → refused (number_of n) ≡ laid_both how o uses before
  inputs-refused l = laid-stops rest (from-offset l) ∙ in-turn

  module _ {middle start : ℕ} {between : List (List ℕ)} (l : Lays MasterRead from (uses MasterRead) before (Ok middle) between)
      (s : start ≡ outputs_from how (offset_of MasterWrite o) middle) where
    -- what the outputs decide
    abbrev after_inputs : ℕ → ℕ → List (List ℕ) → Outcome Runs
    after_inputs m from es =
        first (when 8 (too_long Keep (uses MasterWrite) es) ∷ [])
        (accepted (record { middle = m; end = from + total (uses MasterWrite); entries = plan MasterWrite from (uses MasterWrite) es }))

    decided : after_inputs middle start between ≡ laid_both how o uses before
    decided =
        ap (λ (n : ℕ). after_inputs middle n between) s
        ∙ ap (λ (y : Run). after_inputs y.end (outputs_from how (offset_of MasterWrite o) y.end) y.entries) (laid-there (from-offset l))
        ∙ sym (laid-passed (from-offset l) rest)
        ∙ in-turn

    pub outputs-refused : {n : Reason} {after : List (List ℕ)} → Lays MasterWrite start (uses MasterWrite) between (Err n) after → refused (number_of n) ≡ laid_both how o uses before
    outputs-refused k = laid-stops _ k ∙ decided

    pub both-laid : {end : ℕ} {after : List (List ℕ)} → Lays MasterWrite start (uses MasterWrite) between (Ok end) after
        → accepted (record { middle = middle; end = end; entries = after }) ≡ laid_both how o uses before
    both-laid k =
        ap (λ (x : Run). accepted (record { middle = middle; end = x.end; entries = x.entries })) (laid-there k)
        ∙ sym (laid-passed k (accepted (record { middle = middle; end = start + total (uses MasterWrite); entries = plan MasterWrite start (uses MasterWrite) between })))
        ∙ decided
