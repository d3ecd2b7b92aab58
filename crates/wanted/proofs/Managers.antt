-- The sync managers of a sheet by usage, the PDO records that count, and the first entry with a usage.
-- Assumes nothing.
use mathlib.Core.Path.{◌≡◌, refl, sym, ◌∙◌, ap}
use mathlib.Core.Bool.{Bool, true, false, cond, ◌&&◌, false≢true}
use mathlib.Core.List.{List, [], ◌∷◌}
use Prim.Native.Nat.{ℕ, suc, ◌+◌, ◌≤◌, ◌<◌}
use native.Mathlib.Omega.{arith}
use lib.ListN.{length, get_or, drop}
use lib.Dec.{eqb, ltb}
use borrow.Author.Tests.{eq-eqb, ne_eqb, lt-ltb, le-ltb, ltb-true, ltb-false}
use Rattle.grammar.specs.Grammar.{manager_count, usage_count, manager_place, usages_place}
use Rattle.sheet.specs.Sheet.{no_manager, sheet_data}
use Rattle.sheet.specs.declared.SyncManager.{SyncManager}
use Rattle.sheet.proofs.Managers.{manager-count, manager-number, usage-count, usage-turn, usage-end}
use Rattle.pdo.specs.declared.PdoDirection.TheVariants.{MasterRead, MasterWrite}
use Rattle.pdo.specs.Direction.{usage_of, kind_of, is_data}
use Rattle.passes.specs.Handed.{has_usage}
use Rattle.passes.specs.Use.{first_with}
use Rattle.std.specs.Prelude.{Some, None, is_some, unwrap_or}
use Rattle.wanted.specs.Paths.{first_place}
use Rattle.wanted.specs.ByKind.{kind_for, usage_at, has_data, counted}

-- of two that hold, either holds
pub both : (a b : Bool) → a && b ≡ true → (a ≡ true) × (b ≡ true)
both true b e = (refl, e)
both false b e = absurd (false≢true e)

-- which kind counts where the path is by EEPROM: the inputs' for their usage, the outputs' for another
module _ (path : Bool) (usage kind : ℕ) (by : path ≡ false) where
  pub kind-inputs : usage ≡ usage_of MasterRead → kind ≡ kind_of MasterRead → kind ≡ kind_for path usage
  kind-inputs u k = k ∙ rw (by, eq-eqb usage 4 u)

  pub kind-outputs : (usage ≡ usage_of MasterRead → ⊥) → kind ≡ kind_of MasterWrite → kind ≡ kind_for path usage
  kind-outputs u k = k ∙ rw (by, ne_eqb usage 4 u)

module _ (s : List ℕ) where
  -- one that is there has the usage by its byte; one that isn't has none
  pub usage-here : (usage k : ℕ) → k < manager_count s → has_usage usage (sheet_data s).managers k ≡ eqb (get_or s (manager_place k + 4) 0) usage
  usage-here usage k h = rw (manager-number s k no_manager h, manager-count s, lt-ltb k (manager_count s) h)

  pub usage-nowhere : (usage k : ℕ) → manager_count s ≤ k → has_usage usage (sheet_data s).managers k ≡ false
  usage-nowhere usage k h = rw (manager-count s, le-ltb k (manager_count s) h)

  -- and so whether a PDO of a kind that names number k counts: k isn't there, has no process data, or the kind decides
  module _ (path : Bool) (kind k : ℕ) where
    abbrev counting : Bool
    counting = counted (sheet_data s).managers path kind k

    module _ (u : ℕ) (l : k < manager_count s) (e : u ≡ get_or s (manager_place k + 4) 0) where
      usage-read : usage_at (sheet_data s).managers k ≡ u
      usage-read = ap (λ (m : SyncManager). m.usage_type) (manager-number s k no_manager l) ∙ sym e

      counting-here : counting ≡ is_data u && eqb kind (kind_for path u)
      counting-here = rw (usage-read, manager-count s, lt-ltb k (manager_count s) l)

      pub counts-no-data : is_data u ≡ false → false ≡ counting
      counts-no-data h = sym (counting-here ∙ rw h)

      pub counts-data : is_data u ≡ true → eqb kind (kind_for path u) ≡ counting
      counts-data h = sym (counting-here ∙ rw h)

    pub counts-nowhere : manager_count s ≤ k → false ≡ counting
    counts-nowhere l = rw (manager-count s, le-ltb k (manager_count s) l)

    -- one that counts names a sync manager that is there
    pub counts-there : counting ≡ true → k < manager_count s
    counts-there h =
        let ms = (sheet_data s).managers in
        let d = (both (has_data ms k) (eqb kind (kind_for path (usage_at ms k))) h).0 in
        let l = ltb-true k (length ms) (both (ltb k (length ms)) (is_data (usage_at ms k)) d).0 in
        omega (arith, manager-count s)

  -- the first with the usage, b being the byte at the place of number k: one that has it, one more that hasn't, and none left
  module _ (usage k : ℕ) where
    abbrev first_from : ℕ → ℕ
    first_from j = first_with usage (drop j (sheet_data s).usages)

    byte-is : (b from : ℕ) → from ≡ usages_place s + k → b ≡ get_or s from 0 → b ≡ get_or s (usages_place s + k) 0
    byte-is b from e h = h ∙ ap (λ (x : ℕ). get_or s x 0) e

    pub first-here : (b from : ℕ) → k < usage_count s → from ≡ usages_place s + k → b ≡ get_or s from 0 → b ≡ usage → k ≡ k + first_from k
    unfolding first_with
    first-here b from l e h u = rw (usage-turn s k l, eq-eqb (get_or s (usages_place s + k) 0) usage (sym (byte-is b from e h) ∙ u)) (omega arith)

    pub first-not-here : (b from : ℕ) → k < usage_count s → from ≡ usages_place s + k → b ≡ get_or s from 0 → (b ≡ usage → ⊥) → k + 1 + first_from (k + 1) ≡ k + first_from k
    unfolding first_with
    first-not-here b from l e h u = rw (usage-turn s k l, ne_eqb (get_or s (usages_place s + k) 0) usage (λ y. u (byte-is b from e h ∙ y))) (omega arith)

    pub first-nowhere : usage_count s ≤ k → k ≡ k + first_from k
    unfolding first_with
    first-nowhere l = rw (usage-end s k l) (omega arith)

    -- the first place that it is then, or none
    pub first-some : k < usage_count s → k ≡ first_with usage (sheet_data s).usages → Some k ≡ first_place usage (sheet_data s).usages
    first-some l e = rw (← e, usage-count s, lt-ltb k (usage_count s) l) refl

    pub first-none : usage_count s ≤ k → k ≡ first_with usage (sheet_data s).usages → None ≡ first_place usage (sheet_data s).usages
    first-none l e = rw (← e, usage-count s, le-ltb k (usage_count s) l) refl

-- the first place as an option
module _ (usage : ℕ) where
  first-most : (us : List ℕ) → first_with usage us ≤ length us
  unfolding first_with
  first-most [] = omega arith
  first-most (u ∷ us) = go (eqb u usage) (first-most us)
    where
      go : (b : Bool) → first_with usage us ≤ length us → cond b 0 (suc (first_with usage us)) ≤ suc (length us)
      go true h = omega arith
      go false h = omega arith

  place-end : (us : List ℕ) → ltb (first_with usage us) (length us) ≡ false → first_with usage us ≡ length us
  place-end us e = let l = ltb-false (first_with usage us) (length us) e in let m = first-most us in omega arith

  -- where there is none, the rest decides; and with how many there are in its place it is the number
  pub no-place : (us : List ℕ) (rest : Bool) → is_some (first_place usage us) ≡ false → rest ≡ eqb (first_with usage us) (length us) && rest
  no-place us rest h = go (ltb (first_with usage us) (length us)) refl h
    where
      go : (b : Bool) → ltb (first_with usage us) (length us) ≡ b → is_some (cond b (Some (first_with usage us)) None) ≡ false → rest ≡ eqb (first_with usage us) (length us) && rest
      go true e n = absurd (false≢true (sym n))
      go false e n = sym (ap (λ (b : Bool). b && rest) (eq-eqb (first_with usage us) (length us) (place-end us e)))

  pub place-or : (us : List ℕ) → unwrap_or (first_place usage us) (length us) ≡ first_with usage us
  place-or us = go (ltb (first_with usage us) (length us)) refl
    where
      go : (b : Bool) → ltb (first_with usage us) (length us) ≡ b → unwrap_or (cond b (Some (first_with usage us)) None) (length us) ≡ first_with usage us
      go true e = refl
      go false e = sym (place-end us e)
