-- Pairs as code judges them: what a survey of one direction's entries finds, and whether what was chosen is bad.
-- Assumes nothing.
use Rattle.std.specs.Prelude.{◌≡◌, Bool, true, false, cond, not, ◌&&◌, ◌||◌, List, [], ◌∷◌, ℕ, zero, suc, get_or, set, eqb, ltb}
use Rattle.wire.specs.Lists.{list_of, some_below}
use Rattle.pdi.specs.declared.BitLen.{BitLen}
use Rattle.sheet.specs.declared.SyncManager.{SyncManager}
use Rattle.pdo.specs.declared.PdoDirection.TheVariants.{MasterRead, MasterWrite}
use Rattle.pdo.specs.declared.PdoDirection.{PdoDirection}
use Rattle.pdo.specs.Direction.{usage_of}
use Rattle.passes.specs.declared.Chosen.{Chosen}
use Rattle.passes.specs.Use.{Use}
use Rattle.passes.specs.Pairs.{number_above, some_on, interrupted, bad_entry}
use Rattle.wanted.specs.declared.Entered.{Entered}
use Rattle.wanted.specs.ByKind.{bit_at, of_usage}

-- the uses of n numbers from k on, of those that are flagged; which entries are used doesn't ask for sizes or addresses
unfoldable pub uses_from : (ℕ → Bool) → (ℕ → ℕ) → ℕ → ℕ → List Use
uses_from on entry k zero = []
uses_from on entry k (suc n) = cond (on k) (record { entry = entry k; size = 0; at = 0 } ∷ uses_from on entry (suc k) n) (uses_from on entry (suc k) n)

-- of sixteen, those that have bits
abbrev pub uses_in : List ℕ → List BitLen → List Use
uses_in entries bits = uses_from (λ k. ltb 0 (bit_at bits k)) (λ k. get_or entries k 0) 0 16

-- what a survey knows once a use is seen in front of the others: an entry that is used, and not by the first of them, is come back to
abbrev pub comes_again : Entered → ℕ → Bool
comes_again seen entry = seen.interrupted || (not (eqb seen.first entry) && get_or seen.used entry false)

abbrev pub with_use : Entered → ℕ → Entered
with_use seen entry = record { used = set seen.used entry true; first = entry; interrupted = comes_again seen entry }

-- what it finds of uses
pub record Surveys (us : List Use) (x : Entered) : Type 0 where
  pub uses : x.used ≡ list_of (λ k. some_on k us) 16
  pub breaks : x.interrupted ≡ some_below (λ k. interrupted k us) 16

-- an entry above 15 among sixteen
abbrev pub some_past_last : List ℕ → Bool
some_past_last entries = some_below (λ k. ltb 15 (get_or entries k 0)) 16

-- an entry of both
unfoldable pub some_shared : List Bool → List Bool → Bool
some_shared one two = some_below (λ k. get_or one k false && get_or two k false) 16

-- a direction's uses: of its usage alone
abbrev pub judged_uses : Chosen → List SyncManager → List BitLen → PdoDirection → List Use
judged_uses c ms bits r = uses_in c.entries (of_usage ms (usage_of r) bits)

-- 18 where pairs are read
unfoldable pub bad_choice : Chosen → List SyncManager → List BitLen → Bool
bad_choice c ms bits = number_above c || some_below (bad_entry (judged_uses c ms bits MasterRead) (judged_uses c ms bits MasterWrite)) 16
