-- What an accepted answer tells: no refusal holds, the sheet is sound, and all is there.
-- Assumes nothing.
use mathlib.Core.Path.{◌≡◌, refl, sym, ◌∙◌, ap, subst}
use mathlib.Core.Bool.{Bool, true, false, cond}
use mathlib.Core.List.{List, [], ◌∷◌, ◌++◌}
use Prim.Native.Nat.{ℕ}
use Rattle.std.specs.Prelude.{Ok}
use Rattle.wire.specs.Outcome.{Outcome, refused, accepted, Refusal, when, first, decide}
use Rattle.wire.proofs.Order.{never, passed, passed-answer}
use Rattle.pdi.specs.declared.ByteLen.{ByteLen}
use Rattle.sheet.specs.Sheet.{sheet_refusals, sheet_data}
use Rattle.sheet.proofs.Kept.{Accepts, accepted-accepts}
use Rattle.sheet.proofs.Reading.{Checked}
use Rattle.pdo.specs.declared.PdoDirection.{PdoDirection}
use Rattle.passes.specs.declared.FmmuMode.{FmmuMode}
use Rattle.passes.specs.declared.Chosen.{Chosen}
use Rattle.passes.specs.declared.Wanted.{Wanted}
use Rattle.passes.specs.Pairs.{bad_pairs}
use Rattle.passes.specs.Pass.{wanted_refusals}
use Rattle.passes.specs.Call.{wanted_of_both}
use Rattle.passes.specs.Handed.{sizes_of, wanted_from}
use Rattle.wanted.specs.Wanted.{wanting_refusals}

-- the bytes that are kept of a sheet are its own, and keep the rules
pub sound-bytes : (s t : List ℕ) → accepted t ≡ decide (sheet_refusals s) s → (t ≡ s) × Checked t (Ok tt)
sound-bytes s t e =
    let is = passed-answer (sheet_refusals s) s t e in
    (is, subst (λ (x : List ℕ). Checked x (Ok tt)) (sym is) (sym (passed (sheet_refusals s) s t (accepted tt) e)))

-- none of the first refusals holds where none of all does
front : {A : Type 0} (rs : List Refusal) (o : Outcome A) (b : A) → accepted b ≡ first rs o → accepted tt ≡ decide {A = Unit {0}} rs tt
front [] o b e = refl
front {A} (r ∷ rs) o b e = go r.holds (front rs o b) e
  where
    go : (t : Bool) → (accepted b ≡ first rs o → accepted tt ≡ decide {A = Unit {0}} rs tt) → accepted b ≡ cond t (refused r.number) (first rs o)
        → accepted tt ≡ cond t (refused r.number) (decide {A = Unit {0}} rs tt)
    go true rest q = absurd (never (sym q))
    go false rest q = rest q

-- so the sheet is sound, and the answer is what was asked for
told : {A : Type 0} (sheet : List ℕ) (more : List Refusal) (a b : A) → accepted b ≡ decide (sheet_refusals sheet ++ more) a
    → Accepts sheet × (accepted a ≡ decide (sheet_refusals sheet ++ more) a) × (b ≡ a)
told sheet more a b e =
    let is = passed-answer (sheet_refusals sheet ++ more) a b e in
    (accepted-accepts {A = Unit {0}} sheet tt tt (front (sheet_refusals sheet) (decide more a) b e), ap accepted (sym is) ∙ e, is)

-- what counting wants
pub sized-accepted :
    (sheet ws : List ℕ) (r : PdoDirection) (x : List ByteLen) → accepted x ≡ decide (sheet_refusals sheet ++ wanted_refusals (sheet_data sheet) ws r) (sizes_of (sheet_data sheet) ws r)
    → Accepts sheet × (accepted (sizes_of (sheet_data sheet) ws r) ≡ decide (sheet_refusals sheet ++ wanted_refusals (sheet_data sheet) ws r) (sizes_of (sheet_data sheet) ws r)) × (x ≡ sizes_of (sheet_data sheet) ws r)
sized-accepted sheet ws r x e = told sheet (wanted_refusals (sheet_data sheet) ws r) (sizes_of (sheet_data sheet) ws r) x e

-- what a call wants
pub wanted-accepted :
    (mode : FmmuMode) (c : Chosen) (sheet ws : List ℕ) (x : Wanted) → accepted x ≡ decide (wanting_refusals mode c sheet ws) (wanted_from mode c (sheet_data sheet) ws)
    → Accepts sheet × (accepted (wanted_from mode c (sheet_data sheet) ws) ≡ decide (wanting_refusals mode c sheet ws) (wanted_from mode c (sheet_data sheet) ws)) × (x ≡ wanted_from mode c (sheet_data sheet) ws)
wanted-accepted mode c sheet ws x e =
    told sheet (when 18 (bad_pairs mode c (sheet_data sheet) ws) ∷ wanted_of_both (sheet_data sheet) ws) (wanted_from mode c (sheet_data sheet) ws) x e
