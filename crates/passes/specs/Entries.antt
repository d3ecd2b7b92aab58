-- The FMMU entries that a call leaves.
-- Assumes nothing.
use Rattle.std.specs.Prelude.{◌≡◌, Bool, true, cond, ◌&&◌, List, [], ◌∷◌, ◌++◌, ℕ, ◌+◌, get_or, set, ltb}
use Rattle.wire.specs.Lists.{some_below}
use Rattle.wire.specs.Outcome.{Outcome, refused, accepted, Refusal, when, decide}
use Rattle.pdi.specs.Offset.{past_end}
use Rattle.area.specs.Area.{entries_of, flat, not_entries}
use Rattle.fmmu.specs.declared.Fmmu.{Fmmu}
use Rattle.fmmu.specs.Image.{fields_of, image_of}
use Rattle.pdo.specs.declared.PdoDirection.{PdoDirection}
use Rattle.pdo.specs.declared.PdoDirection.TheVariants.{MasterRead, MasterWrite}
use Rattle.pdo.specs.Direction.{is_read, is_write}
use Rattle.passes.specs.Use.{Use, total, total_on}
use Rattle.passes.specs.Old.{beginning, in_the_way}
use Rattle.passes.specs.Start.{offset_of, start_of, end_of, of_either, is_given, Both, both_planned, configured_of, Offsets, Configured}
use Rattle.passes.specs.declared.OldEntries.{OldEntries}
use Rattle.passes.specs.declared.OldEntries.TheVariants.{Clear, Keep}
use Rattle.passes.specs.declared.Settings.{Settings}

-- a disabled entry becomes: logical start the offset, the size, bits 0 to 7, the physical start, physical bit 0, its direction bit, enabled
abbrev pub mapped : PdoDirection → ℕ → ℕ → ℕ → Fmmu
mapped r start size physical =
    record {
      logical_start_address = start;
      length_bytes = record { 0 = size };
      logical_start_bit = 0;
      logical_end_bit = 7;
      physical_start_address = physical;
      physical_start_bit = 0;
      read_enable = is_read r;
      write_enable = is_write r;
      enable = true;
    }

-- an enabled entry only has the size added
abbrev pub grown : Fmmu → ℕ → Fmmu
grown f size =
    record {
      logical_start_address = f.logical_start_address;
      length_bytes = record { 0 = f.length_bytes.0 + size };
      logical_start_bit = f.logical_start_bit;
      logical_end_bit = f.logical_end_bit;
      physical_start_address = f.physical_start_address;
      physical_start_bit = f.physical_start_bit;
      read_enable = f.read_enable;
      write_enable = f.write_enable;
      enable = f.enable;
    }

-- what an entry becomes
abbrev pub laid : PdoDirection → ℕ → Use → Fmmu → Fmmu
laid r offset u f = cond f.enable (grown f u.size) (mapped r offset u.size u.at)

-- its entry is written, with reserved bits 0; a number past the last one is no entry
abbrev pub with_use : PdoDirection → ℕ → Use → List (List ℕ) → List (List ℕ)
with_use r offset u area = set area u.entry (image_of (laid r offset u (fields_of (get_or area u.entry []))))

-- each use in turn is written; then the offset moves on by the size; all other bytes stay
unfoldable pub plan : PdoDirection → ℕ → List Use → List (List ℕ) → List (List ℕ)
plan r offset [] area = area
plan r offset (u ∷ us) area =
    plan r (offset + u.size) us (with_use r offset u area)

-- an entry's length, of which a disabled one has none
abbrev pub length_of : Fmmu → ℕ
length_of f = cond f.enable f.length_bytes.0 0

abbrev pub length_now : List ℕ → ℕ
length_now e = length_of (fields_of e)

-- keeping, 8 counts from the length that an entry has; by default from zero, whatever stands there
abbrev pub length_before : OldEntries → List ℕ → ℕ
length_before Clear e = 0
length_before Keep e = length_now e

-- 8: an entry's exact length would exceed 65,535
unfoldable pub too_long : OldEntries → List Use → List (List ℕ) → Bool
too_long old us entries = some_below (λ k. ltb 65535 (length_before old (get_or entries k []) + total_on k us)) 16

-- the uses of both directions
abbrev pub uses_of_both : (PdoDirection → List Use) → List Use
uses_of_both uses = uses MasterRead ++ uses MasterWrite

-- the refusals that look at the entries and the offsets, in their order, in which 15 is last; 8 counts all that is laid on an entry; 9: an exact end offset exceeds
-- 4,294,967,295; 10: an offset that is given is below the group start
abbrev pub entry_refusals : (PdoDirection → List Use) → (PdoDirection → ℕ) → Offsets → Settings → List (List ℕ) → List Refusal
entry_refusals uses size o settings entries =
    when 8 (too_long settings.old (uses_of_both uses) entries)
    ∷ when 9 (of_either (λ r. past_end (end_of settings.outputs o size r)))
    ∷ when 10 (of_either (λ r. is_given r settings.outputs && ltb (offset_of r o) settings.group))
    ∷ when 15 (in_the_way settings.old (uses_of_both uses) entries)
    ∷ []

-- the bytes of a direction's uses
abbrev pub totals : (PdoDirection → List Use) → PdoDirection → ℕ
totals uses r = total (uses r)

-- 1 comes before them
abbrev pub entries_outcome : (PdoDirection → List Use) → Offsets → Settings → List ℕ → Outcome Both
entries_outcome uses o settings area =
    decide (when 1 (not_entries area) ∷ entry_refusals uses (totals uses) o settings (entries_of 16 area)) (both_planned settings.outputs o settings.group (totals uses))

-- the inputs are laid, then the outputs, each from its start
abbrev pub plan_both : (PdoDirection → ℕ) → (PdoDirection → List Use) → List (List ℕ) → List (List ℕ)
plan_both start uses entries = plan MasterWrite (start MasterWrite) (uses MasterWrite) (plan MasterRead (start MasterRead) (uses MasterRead) entries)

-- what the area then holds: a refusal writes nothing
abbrev pub entry_area : Outcome Both → (PdoDirection → ℕ) → OldEntries → (PdoDirection → List Use) → List ℕ → List ℕ
entry_area (refused n) start old uses area = area
entry_area (accepted b) start old uses area = flat (plan_both start uses (beginning old (entries_of 16 area)))

-- the promise of writing the entries
pub record WritesEntries (uses : PdoDirection → List Use) (o : Offsets) (settings : Settings) (area : List ℕ) (answer : Configured) (after : List ℕ) : Type 0 where
  pub says : configured_of answer ≡ entries_outcome uses o settings area
  pub holds : after ≡ entry_area (entries_outcome uses o settings area) (start_of settings.outputs o (totals uses)) settings.old uses area
