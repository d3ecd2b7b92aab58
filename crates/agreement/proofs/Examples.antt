-- Demand 3 isn't empty: document 01's sheet, on which the two agree for both directions after one call, by default over old entries and keeping from disabled ones;
-- the same with one sync manager moved by a byte, on which they do not; the EEPROM path; an area past the last device address; and last spring's fault, from a stale
-- entry, which keeping still has and the default can't have.
-- Assumes nothing.
use mathlib.Core.Path.{◌≡◌, refl, sym, ◌∙◌, subst}
use mathlib.Core.Bool.{Bool, true, false, not}
use mathlib.Core.List.{List, [], ◌∷◌, ◌++◌}
use mathlib.Core.Logic.{◌⊎◌, inl, inr}
use mathlib.Core.Option.{Option, none, some}
use Prim.Native.Nat.{ℕ, ◌<◌}
use native.Mathlib.Omega.{arith}
use lib.ListN.{length, get_or, set, replicate, get_or-eq_default}
use lib.Dec.{T, ltb, lit<}
use borrow.Author.Tests.{ltb-true, ltb-false}
use Rattle.wire.specs.Image.{Bytes}
use Rattle.wire.specs.Outcome.{Outcome, accepted}
use Rattle.wire.proofs.Below.{all, below}
use Rattle.pdi.specs.Segment.{segment}
use Rattle.channel_bytes.specs.Bytes.{control_at, unnamed}
use Rattle.fmmu.specs.Image.{fields_of, image_of}
use Rattle.wire.specs.Lists.{list_of, some_below}
use Rattle.sheet.specs.Device.{pdos_from}
use Rattle.sheet.specs.Sheet.{wrong_length, kind_fits, pdos_fit, some_manager_wrong, some_usage_wrong, broken, some_unnamed, sheet_data}
use Rattle.pdo.specs.declared.PdoDirection.{PdoDirection}
use Rattle.pdo.specs.declared.PdoDirection.TheVariants.{MasterRead, MasterWrite}
use Rattle.pdo.specs.Bits.{multiplier_of, by_coe, bits_of, pieces_from, pieces_of}
use Rattle.passes.specs.Use.{own, given, first_with, entry_for, uses_of, total, total_on, size_of}
use Rattle.area.specs.Area.{chunks, entries_of, flat}
use Rattle.passes.specs.declared.FmmuMode.TheVariants.{OwnNumber}
use Rattle.passes.specs.declared.OutputStart.TheVariants.{Given, AfterInputs}
use Rattle.passes.specs.Pairs.{bad_pairs}
use Rattle.passes.specs.Old.{clean, keeping, cleared, in_the_way}
use Rattle.passes.specs.Start.{Both}
use Rattle.passes.specs.Entries.{mapped, plan, too_long}
use Rattle.passes.specs.Pass.{some_too_many, no_entry}
use Rattle.passes.specs.Call.{call}
use Rattle.translation.specs.Translate.{carries, odd, says, first_said, translate}
use Rattle.counting.specs.Count.{spot_in, count}
use Rattle.agreement.specs.Agreement.{EveryDisabled, Lent, weights, call_of, Accepted, sharing, EndToEnd, laid_by, counted, Agree}
use Rattle.agreement.specs.Bench.{zeros, zero_channels, lent_at, sample_sheet}
use Rattle.agreement.specs.Cases.{entry, with_zeros}
use Rattle.agreement.proofs.Basics.{either}
use Rattle.agreement.proofs.Straight.{follows-iff}
use Rattle.agreement.proofs.Demand3.{demand-3, demand-3-clean, demand-3-from-disabled}

-- closed data: bytes by a computed test, and every entry of an area disabled by another
is_true : (b : Bool) → T b → b ≡ true
is_true true t = refl
is_true false t = absurd t

pub bytes_of : (l : List ℕ) → T (all (λ k. ltb (get_or l k 0) 256) (length l)) → Bytes l
bytes_of l t = record { below = λ k. go k (either (ltb k (length l))) }
  where
    go : (k : ℕ) → (ltb k (length l) ≡ true) ⊎ (ltb k (length l) ≡ false) → get_or l k 0 < 256
    go k (inl h) = ltb-true (get_or l k 0) 256 (is_true (ltb (get_or l k 0) 256) (below (λ k. ltb (get_or l k 0) 256) (length l) t k (ltb-true k (length l) h)))
    go k (inr h) = subst (λ (n : ℕ). n < 256) (sym (get_or-eq_default l 0 (ltb-false k (length l) h))) (lit< tt)

is_false : (b : Bool) → T (not b) → b ≡ false
is_false true t = absurd t
is_false false t = refl

pub all-disabled : EveryDisabled zeros
unfolding fields_of chunks
all-disabled k h = is_false _ (below (λ k. not (fields_of (get_or (entries_of 16 zeros) k [])).enable) 16 tt k h)

-- what a call is lent: no table, group start 0, the inputs from 0; by default the outputs straight after them, whatever is lent; keeping, the outputs from 5, as given
abbrev pub lent : Lent
lent = record { table = []; pairs = []; offsets = lent_at 0 1000; settings = clean OwnNumber AfterInputs 0; channels = zero_channels }

abbrev pub kept_lent : Lent
kept_lent = record { table = []; pairs = []; offsets = lent_at 0 5; settings = keeping OwnNumber Given 0; channels = zero_channels }

-- five bytes of inputs, two of outputs
abbrev five_and_two : Both
five_and_two = record { inputs = record { segment = segment 0 5; next = 5 }; outputs = record { segment = segment 5 7; next = 7 } }

-- document 01's sheet: the entries that its program prints, as bytes

abbrev output_bytes : List ℕ
output_bytes = 5 ∷ 0 ∷ 0 ∷ 0 ∷ 2 ∷ 0 ∷ 0 ∷ 7 ∷ 0x00 ∷ 0x11 ∷ 0 ∷ 2 ∷ 1 ∷ 0 ∷ 0 ∷ 0 ∷ []

abbrev input_bytes : List ℕ
input_bytes = 0 ∷ 0 ∷ 0 ∷ 0 ∷ 5 ∷ 0 ∷ 0 ∷ 7 ∷ 0x80 ∷ 0x11 ∷ 0 ∷ 1 ∷ 1 ∷ 0 ∷ 0 ∷ 0 ∷ []

abbrev pub sample_area : List ℕ
sample_area = output_bytes ++ input_bytes ++ replicate 224 0

-- FMMU0: logical start 5, size 2, physical start 0x1100, W; FMMU1: logical start 0, size 5, physical start 0x1180, RO
pub as-printed : (fields_of output_bytes ≡ mapped MasterWrite 5 2 0x1100) × (fields_of input_bytes ≡ mapped MasterRead 0 5 0x1180)
unfolding fields_of
as-printed = (refl, refl)

-- a cancelled job's entries, of both directions: an output where the sheet wants an input, an input where it wants an output, and two others; full, or not whole bytes
abbrev old_output : List ℕ
old_output = entry 3 65535 7 0x2000 2 1

abbrev old_input : List ℕ
old_input = entry 0 9 6 0x2100 1 1

abbrev pub used_area : List ℕ
used_area = with_zeros (old_input ∷ old_output ∷ old_input ∷ old_output ∷ [])

-- by default all are cleared before either direction is planned, so the call leaves what it leaves over zeros
pub sample-accepted : Accepted sample_sheet lent used_area sample_area
unfolding fields_of image_of control_at unnamed list_of some_below pdos_from wrong_length kind_fits pdos_fit some_manager_wrong some_usage_wrong broken some_unnamed sheet_data multiplier_of by_coe
    bits_of pieces_from pieces_of own given first_with uses_of total total_on size_of chunks flat plan some_too_many no_entry cleared too_long bad_pairs entry_for in_the_way call
sample-accepted = record { both = five_and_two; says = refl; leaves = refl }

-- keeping, from zeros
pub kept-accepted : Accepted sample_sheet kept_lent zeros sample_area
unfolding fields_of image_of control_at unnamed list_of some_below pdos_from wrong_length kind_fits pdos_fit some_manager_wrong some_usage_wrong broken some_unnamed sheet_data multiplier_of by_coe
    bits_of pieces_from pieces_of own given first_with uses_of total total_on size_of chunks flat plan some_too_many no_entry cleared too_long bad_pairs entry_for in_the_way call
kept-accepted = record { both = five_and_two; says = refl; leaves = refl }

pub sample-end-to-end : (r : PdoDirection) → EndToEnd (laid_by sample_sheet r lent)
unfolding control_at list_of pdos_from sheet_data multiplier_of by_coe bits_of pieces_from pieces_of own given first_with uses_of sharing
sample-end-to-end MasterRead = (follows-iff (laid_by sample_sheet MasterRead lent)).1 (λ h. refl, (λ h. tt, tt))
sample-end-to-end MasterWrite = (follows-iff (laid_by sample_sheet MasterWrite lent)).1 (λ h. tt, tt)

-- the two agree, for both directions, at every address
pub sample-agrees : (r : PdoDirection) → Agree sample_sheet r lent sample_area
sample-agrees r = (demand-3-clean sample_sheet lent used_area sample_area (bytes_of sample_sheet tt) sample-accepted refl r).1 (sample-end-to-end r)

-- keeping, where every entry was disabled
pub kept-agrees : (r : PdoDirection) → Agree sample_sheet r kept_lent sample_area
kept-agrees r = (demand-3-from-disabled sample_sheet kept_lent zeros sample_area (bytes_of sample_sheet tt) kept-accepted all-disabled r).1 (sample-end-to-end r)

-- and name something: the last byte of the inputs, and nothing after it; there the outputs begin
pub sample-last : (translate MasterRead sample_area 4 ≡ accepted (some 0x1184)) × ((translate MasterRead sample_area 5 ≡ accepted none) × (translate MasterWrite sample_area 5 ≡ accepted (some 0x1100)))
unfolding fields_of chunks carries says odd first_said translate
sample-last = (refl, (refl, refl))

-- the last sync manager a byte higher, at 0x1184: the same FMMU bytes, and the two disagree

abbrev moved_sheet : List ℕ
moved_sheet = set sample_sheet 32 0x84

pub moved-accepted : Accepted moved_sheet lent zeros sample_area
unfolding fields_of image_of control_at unnamed list_of some_below pdos_from wrong_length kind_fits pdos_fit some_manager_wrong some_usage_wrong broken some_unnamed sheet_data multiplier_of by_coe
    bits_of pieces_from pieces_of own given first_with uses_of total total_on size_of chunks flat plan some_too_many no_entry cleared too_long bad_pairs entry_for in_the_way call
moved-accepted = record { both = five_and_two; says = refl; leaves = refl }

pub moved_apart : EndToEnd (laid_by moved_sheet MasterRead lent) → ⊥
unfolding control_at list_of pdos_from sheet_data multiplier_of by_coe bits_of pieces_from pieces_of own given first_with uses_of sharing
moved_apart e = let z : ◌≡◌ {A = ℕ} 0x1184 0x1183 = ((follows-iff (laid_by moved_sheet MasterRead lent)).0 e).0 (lit< tt) in omega arith

pub moved-disagrees : Agree moved_sheet MasterRead lent sample_area → ⊥
moved-disagrees h = moved_apart ((demand-3 moved_sheet lent zeros sample_area (bytes_of moved_sheet tt) moved-accepted tt MasterRead).0 h)

-- where: the first byte of the second sync manager
pub moved-where : (translate MasterRead sample_area 3 ≡ accepted (some 0x1183))
    × (count MasterRead 3 moved_sheet (weights moved_sheet lent) 0 ≡ accepted (some (record { manager = 4; byte = 0; device = some 0x1184 })))
unfolding fields_of chunks carries says odd first_said translate control_at unnamed list_of some_below pdos_from wrong_length kind_fits pdos_fit some_manager_wrong some_usage_wrong broken
    some_unnamed sheet_data multiplier_of by_coe bits_of pieces_from pieces_of own given first_with uses_of total size_of some_too_many no_entry spot_in
    count
moved-where = (refl, refl)

-- EEPROM: flags 0, PDO kinds 1 and 2, the last sync manager far away: each on its own entry, and the two agree

abbrev own_sheet : List ℕ
own_sheet =
    (0x00 ∷ 0x37 ∷ 0x01 ∷ 0x00 ∷ 0x00 ∷ 0x80 ∷ 0x00 ∷ 0x80 ∷ 0x05 ∷ 0x00 ∷ 0x03 ∷ [])
    ++ (0x10 ∷ 0x00 ∷ 0x26 ∷ 0x01 ∷ 0x01 ∷ 0x10 ∷ 0x80 ∷ 0x22 ∷ 0x01 ∷ 0x02 ∷ 0x11 ∷ 0x00 ∷ 0x64 ∷ 0x01 ∷ 0x03 ∷ [])
    ++ (0x11 ∷ 0x80 ∷ 0x20 ∷ 0x01 ∷ 0x04 ∷ 0xff ∷ 0xff ∷ 0x20 ∷ 0x01 ∷ 0x04 ∷ [])
    ++ (0x01 ∷ 0x03 ∷ 0x1a ∷ 0x00 ∷ 0x02 ∷ 0x00 ∷ 0x11 ∷ 0x01 ∷ 0x04 ∷ 0x1a ∷ 0x01 ∷ 0x02 ∷ 0x00 ∷ 0x09 ∷ [])
    ++ (0x02 ∷ 0x02 ∷ 0x16 ∷ 0x00 ∷ 0x02 ∷ 0x00 ∷ 0x10 ∷ [])

abbrev own_output : List ℕ
own_output = replicate 32 0 ++ output_bytes

abbrev own_area : List ℕ
own_area =
    own_output
    ++ (0 ∷ 0 ∷ 0 ∷ 0 ∷ 3 ∷ 0 ∷ 0 ∷ 7 ∷ 0x80 ∷ 0x11 ∷ 0 ∷ 1 ∷ 1 ∷ 0 ∷ 0 ∷ 0 ∷ [])
    ++ (3 ∷ 0 ∷ 0 ∷ 0 ∷ 2 ∷ 0 ∷ 0 ∷ 7 ∷ 0xff ∷ 0xff ∷ 0 ∷ 1 ∷ 1 ∷ 0 ∷ 0 ∷ 0 ∷ [])
    ++ replicate 176 0

pub own-accepted : Accepted own_sheet lent zeros own_area
unfolding fields_of image_of control_at unnamed list_of some_below pdos_from wrong_length kind_fits pdos_fit some_manager_wrong some_usage_wrong broken some_unnamed sheet_data multiplier_of by_coe
    bits_of pieces_from pieces_of own given first_with uses_of total total_on size_of chunks flat plan some_too_many no_entry cleared too_long bad_pairs entry_for in_the_way call
own-accepted = record { both = five_and_two; says = refl; leaves = refl }

pub own-agrees : (r : PdoDirection) → Agree own_sheet r lent own_area
unfolding control_at list_of pdos_from sheet_data multiplier_of by_coe bits_of pieces_from pieces_of own given first_with uses_of sharing
own-agrees r = (demand-3 own_sheet lent zeros own_area (bytes_of own_sheet tt) own-accepted tt r).1 (straight r)
  where
    straight : (r : PdoDirection) → EndToEnd (laid_by own_sheet r lent)
    straight MasterRead = (follows-iff (laid_by own_sheet MasterRead lent)).1 (λ h. tt, (λ h. tt, tt))
    straight MasterWrite = (follows-iff (laid_by own_sheet MasterWrite lent)).1 (λ h. tt, tt)

-- its last sync manager ends at 65,537: at the first byte 65,535 on both sides, at the second none on both
pub past_the_end : (translate MasterRead own_area 3 ≡ accepted (some 0xffff)) × ((translate MasterRead own_area 4 ≡ accepted none)
    × (count MasterRead 4 own_sheet (weights own_sheet lent) 0 ≡ accepted (some (record { manager = 4; byte = 1; device = none }))))
unfolding fields_of chunks carries says odd first_said translate control_at unnamed list_of some_below pdos_from wrong_length kind_fits pdos_fit some_manager_wrong some_usage_wrong broken
    some_unnamed sheet_data multiplier_of by_coe bits_of pieces_from pieces_of own given first_with uses_of total size_of some_too_many no_entry spot_in
    count
past_the_end = (refl, (refl, refl))

-- last spring's fault: the entry 1 of a cancelled job, still enabled, three bytes from 0 at 0x2000. Keeping, the call is accepted, the new length goes on top

abbrev stale_area : List ℕ
stale_area = with_zeros (replicate 16 0 ∷ entry 0 3 7 0x2000 1 1 ∷ [])

abbrev stale_after : List ℕ
stale_after = with_zeros (output_bytes ∷ entry 0 8 7 0x2000 1 1 ∷ [])

pub stale-accepted : Accepted sample_sheet kept_lent stale_area stale_after
unfolding fields_of image_of control_at unnamed list_of some_below pdos_from wrong_length kind_fits pdos_fit some_manager_wrong some_usage_wrong broken some_unnamed sheet_data multiplier_of by_coe
    bits_of pieces_from pieces_of own given first_with uses_of total total_on size_of chunks flat plan some_too_many no_entry cleared too_long bad_pairs entry_for in_the_way call
stale-accepted = record { both = five_and_two; says = refl; leaves = refl }

-- the bay's first byte is read from the other's, and the first byte of the next bay is answered too
pub stale-names : (translate MasterRead stale_after 0 ≡ accepted (some 0x2000)) × ((counted sample_sheet MasterRead kept_lent 0 ≡ accepted (some 0x1180))
    × ((translate MasterRead stale_after 5 ≡ accepted (some 0x2005)) × (counted sample_sheet MasterRead kept_lent 5 ≡ accepted none)))
unfolding fields_of chunks flat carries says odd first_said translate control_at unnamed list_of some_below pdos_from wrong_length kind_fits pdos_fit some_manager_wrong some_usage_wrong broken
    some_unnamed sheet_data multiplier_of by_coe bits_of pieces_from pieces_of own given first_with uses_of total size_of some_too_many no_entry spot_in
    count
stale-names = (refl, (refl, (refl, refl)))

-- so keeping needs the disabled start: the sync managers lie end to end, and the two disagree
pub stale-disagrees : Agree sample_sheet MasterRead kept_lent stale_after → ⊥
stale-disagrees h =
    let e : ◌≡◌ {A = Outcome (Option ℕ)} (accepted (some 0x2000)) (accepted (some 0x1180)) = sym stale-names.0 ∙ h 0 (lit< tt) ∙ stale-names.1.0 in
    let z : ◌≡◌ {A = ℕ} 0x2000 0x1180 = cc in
    omega arith

-- the default on that very area: as from zeros, the same answer and the same bytes, on which the two agree at every address (`sample-agrees`)
pub stale-clean : Accepted sample_sheet lent stale_area sample_area × Accepted sample_sheet lent zeros sample_area
unfolding fields_of image_of control_at unnamed list_of some_below pdos_from wrong_length kind_fits pdos_fit some_manager_wrong some_usage_wrong broken some_unnamed sheet_data multiplier_of by_coe
    bits_of pieces_from pieces_of own given first_with uses_of total total_on size_of chunks flat plan some_too_many no_entry cleared too_long bad_pairs entry_for in_the_way call
stale-clean = (record { both = five_and_two; says = refl; leaves = refl }, record { both = five_and_two; says = refl; leaves = refl })

pub stale-as-zeros : call_of sample_sheet lent stale_area ≡ call_of sample_sheet lent zeros
unfolding stale-clean
stale-as-zeros = stale-clean.0.says ∙ sym stale-clean.1.says

-- the call made again: by default it leaves what it left, keeping adds its bytes once more
pub again : Accepted sample_sheet lent sample_area sample_area × Accepted sample_sheet kept_lent sample_area (with_zeros (entry 5 4 7 0x1100 2 1 ∷ entry 0 10 7 0x1180 1 1 ∷ []))
unfolding fields_of image_of control_at unnamed list_of some_below pdos_from wrong_length kind_fits pdos_fit some_manager_wrong some_usage_wrong broken some_unnamed sheet_data multiplier_of by_coe
    bits_of pieces_from pieces_of own given first_with uses_of total total_on size_of chunks flat plan some_too_many no_entry cleared too_long bad_pairs entry_for in_the_way call
again = (record { both = five_and_two; says = refl; leaves = refl }, record { both = five_and_two; says = refl; leaves = refl })
