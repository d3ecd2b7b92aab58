-- What the parts of making the entries ready promise one another.
-- Assumes nothing.
use Rattle.std.specs.Prelude.{◌≡◌, Bool, cond, ◌&&◌, ◌||◌, List, map, ℕ, replicate}
use Rattle.wire.specs.Lists.{some_of}
use Rattle.fmmu.specs.declared.Fmmu.{Fmmu}
use Rattle.fmmu.specs.Image.{fields_of}
use Rattle.pdo.specs.declared.PdoDirection.TheVariants.{MasterRead, MasterWrite}
use Rattle.passes.specs.Use.{Use}
use Rattle.passes.specs.Old.{carries_alone, cleared_of_both, beginning, both_bits, in_the_way}
use Rattle.passes.specs.declared.OldEntries.{OldEntries}

-- an entry that is enabled
abbrev pub on : List ℕ → Bool
on e = (fields_of e).enable

-- it carries one direction's bit alone; such an entry, where it is enabled
abbrev pub carries_one : Fmmu → Bool
carries_one f = carries_alone MasterRead f || carries_alone MasterWrite f

abbrev pub old_one : List ℕ → Bool
old_one e = on e && carries_one (fields_of e)

-- the old entries of both directions cleared; whether one is still enabled, and whether one has both bits
pub record Clears (before after : List (List ℕ)) (enabled both : Bool) : Type 0 where
  pub holds : after ≡ map cleared_of_both before
  pub some : enabled ≡ some_of on (map cleared_of_both before)
  pub twice : both ≡ some_of both_bits before

-- sixteen entries of zeros
abbrev pub zero_entries : List (List ℕ)
zero_entries = replicate 16 (replicate 16 0)

-- what is laid on: the entries with which the call begins; where one is in the way nothing of them is written, and 8 counts from zero
abbrev pub ready : OldEntries → List Use → List (List ℕ) → List (List ℕ)
ready old us entries = cond (in_the_way old us entries) zero_entries (beginning old entries)

pub record Readies (old : OldEntries) (us : List Use) (before after : List (List ℕ)) (blocked : Bool) : Type 0 where
  pub says : blocked ≡ in_the_way old us before
  pub holds : after ≡ ready old us before
