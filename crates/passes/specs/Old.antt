-- Old entries: what a call finds enabled, and what becomes of it (document 02, 3/13 and 7/13).
-- Assumes nothing.
use Rattle.std.specs.Prelude.{Bool, false, cond, not, ◌&&◌, ◌||◌, List, [], map, ℕ, get_or, replicate}
use Rattle.wire.specs.Lists.{some_of}
use Rattle.fmmu.specs.declared.Fmmu.{Fmmu}
use Rattle.fmmu.specs.Image.{fields_of}
use Rattle.pdo.specs.declared.PdoDirection.{PdoDirection}
use Rattle.pdo.specs.declared.PdoDirection.TheVariants.{MasterRead, MasterWrite}
use Rattle.pdo.specs.Direction.{other}
use Rattle.passes.specs.Use.{Use}
use Rattle.passes.specs.declared.OldEntries.{OldEntries}
use Rattle.passes.specs.declared.OldEntries.TheVariants.{Clear, Keep}
use Rattle.passes.specs.declared.FmmuMode.{FmmuMode}
use Rattle.passes.specs.declared.OutputStart.{OutputStart}
use Rattle.passes.specs.declared.Settings.{Settings}

-- the default, and keeping, which is asked for by name; by own numbers or by pairs, the outputs at a given offset or straight after the inputs
abbrev pub clean : FmmuMode → OutputStart → ℕ → Settings
clean mode how group = record { group = group; old = Clear; mode = mode; outputs = how }

abbrev pub keeping : FmmuMode → OutputStart → ℕ → Settings
keeping mode how group = record { group = group; old = Keep; mode = mode; outputs = how }

-- an entry's bit of a direction
abbrev pub bit_of : PdoDirection → Fmmu → Bool
bit_of MasterRead f = f.read_enable
bit_of MasterWrite f = f.write_enable

-- it carries the direction's bit alone; it carries both
abbrev pub carries_alone : PdoDirection → Fmmu → Bool
carries_alone r f = bit_of r f && not (bit_of (other r) f)

abbrev pub carries_both : Fmmu → Bool
carries_both f = f.read_enable && f.write_enable

-- an old entry: an enabled one that carries the direction's bit alone
abbrev pub is_old : PdoDirection → Fmmu → Bool
is_old r f = f.enable && carries_alone r f

-- such an entry is set to zero, all sixteen bytes
unfoldable pub cleared : PdoDirection → List ℕ → List ℕ
cleared r e = cond (is_old r (fields_of e)) (replicate 16 0) e

-- of either direction: one direction's are cleared, then the other's
abbrev pub cleared_of_both : List ℕ → List ℕ
cleared_of_both e = cleared MasterWrite (cleared MasterRead e)

-- what a call plans on: by default as if those were never there, of both directions before either is planned; keeping, the entries as they are
abbrev pub beginning : OldEntries → List (List ℕ) → List (List ℕ)
beginning Clear entries = map cleared_of_both entries
beginning Keep entries = entries

-- an enabled entry with both bits
abbrev pub both_bits : List ℕ → Bool
both_bits e = (fields_of e).enable && carries_both (fields_of e)

-- a wanted entry, that is one that the call uses, is enabled
abbrev pub some_enabled : List Use → List (List ℕ) → Bool
some_enabled us entries = some_of (λ (u : Use). (fields_of (get_or entries u.entry [])).enable) us

-- 15: an enabled entry with both bits, any of the sixteen, or a wanted entry of either direction still enabled after the clearing; keeping never gives it
unfoldable pub in_the_way : OldEntries → List Use → List (List ℕ) → Bool
in_the_way Clear us entries = some_of both_bits entries || some_enabled us (map cleared_of_both entries)
in_the_way Keep us entries = false
