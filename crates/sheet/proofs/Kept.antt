-- What an accepted sheet is known to keep.
-- Assumes nothing.
use mathlib.Core.Path.{◌≡◌, refl, sym}
use mathlib.Core.Bool.{Bool, true, false}
use mathlib.Core.List.{List, [], ◌∷◌}
use Prim.Native.Nat.{ℕ, ◌≤◌}
use lib.ListN.{length}
use Rattle.wire.specs.Outcome.{accepted, when, decide}
use Rattle.wire.proofs.Order.{never}
use Rattle.grammar.proofs.Length.{long}
use Rattle.grammar.proofs.Broken.{kept}
use Rattle.sheet.specs.Sheet.{manager_count, usage_count, pdo_count, pdos_place, wrong_length, wrong_version, pdos_fit, broken, some_unnamed, sheet_refusals, sheet_data, managers_in}
use Rattle.sheet.proofs.Managers.{front-all}

-- none of the refusals holds: its counts, its length, its walk
pub record Accepts (s : List ℕ) : Type 0 where
  pub right : wrong_length s ≡ false
  pub version : wrong_version s ≡ false
  pub whole : broken s ≡ false
  pub named : some_unnamed (sheet_data s).managers ≡ false
  pub managers : manager_count s ≤ 16
  pub usages : usage_count s ≤ 16
  pub places : pdos_place s ≤ length s
  pub low : 11 ≤ length s
  pub high : length s ≤ 16386
  pub walk : pdos_fit s (pdo_count s) (pdos_place s) ≡ true
  pub few : managers_in s ≡ (sheet_data s).managers

-- from the conditions
pub accepts : (s : List ℕ) → wrong_length s ≡ false → wrong_version s ≡ false → broken s ≡ false → some_unnamed (sheet_data s).managers ≡ false → Accepts s
accepts s a b c d =
    let l = long s a in
    let k = kept s c in
    record {
      right = a;
      version = b;
      whole = c;
      named = d;
      managers = k.managers;
      usages = k.usages;
      places = k.places;
      low = l.0;
      high = l.1;
      walk = k.walk;
      few = front-all s k.managers;
    }

-- none of four refusals held
four : {A : Type 0} (a b c d : Bool) (x y : A) → accepted y ≡ decide (when 2 a ∷ when 3 b ∷ when 4 c ∷ when 5 d ∷ []) x → (a ≡ false) × (b ≡ false) × (c ≡ false) × (d ≡ false)
four true b c d x y e = absurd (never (sym e))
four false true c d x y e = absurd (never (sym e))
four false false true d x y e = absurd (never (sym e))
four false false false true x y e = absurd (never (sym e))
four false false false false x y e = (refl, refl, refl, refl)

-- from the answer
pub accepted-accepts : {A : Type 0} (s : List ℕ) (x y : A) → accepted y ≡ decide (sheet_refusals s) x → Accepts s
accepted-accepts s x y e =
    let h = four (wrong_length s) (wrong_version s) (broken s) (some_unnamed (sheet_data s).managers) x y e in
    accepts s h.0 h.1 h.2 h.3
