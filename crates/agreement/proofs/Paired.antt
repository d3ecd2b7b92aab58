-- Demand 3 by pairs isn't empty: two inputs that share an entry by a pair, end to end, on which the two agree, and the second a byte higher, on which they don't. And
-- what it needs: the smallest sheets on which it would be false without 18's two rules on entries.
-- Assumes nothing.
use mathlib.Core.Path.{◌≡◌, refl, sym, ◌∙◌}
use mathlib.Core.List.{List, [], ◌∷◌, ◌++◌}
use mathlib.Core.Option.{Option, none, some}
use Prim.Native.Nat.{ℕ}
use native.Mathlib.Omega.{arith}
use lib.ListN.{set}
use lib.Dec.{lit<}
use Rattle.wire.specs.Lists.{list_of, some_below}
use Rattle.wire.specs.Outcome.{Outcome, refused, accepted}
use Rattle.channel_bytes.specs.Bytes.{control_at, unnamed}
use Rattle.fmmu.specs.Image.{fields_of, image_of}
use Rattle.sheet.specs.Device.{pdos_from}
use Rattle.sheet.specs.Sheet.{wrong_length, kind_fits, pdos_fit, some_manager_wrong, some_usage_wrong, broken, some_unnamed, sheet_data}
use Rattle.pdi.specs.Segment.{segment}
use Rattle.pdo.specs.declared.PdoDirection.TheVariants.{MasterRead}
use Rattle.pdo.specs.Bits.{multiplier_of, by_coe, bits_of, pieces_from, pieces_of}
use Rattle.area.specs.Area.{chunks, flat}
use Rattle.passes.specs.declared.FmmuPair.{FmmuPair}
use Rattle.passes.specs.declared.FmmuMode.TheVariants.{Paired}
use Rattle.passes.specs.declared.OldEntries.{OldEntries}
use Rattle.passes.specs.declared.OldEntries.TheVariants.{Clear, Keep}
use Rattle.passes.specs.declared.OutputStart.TheVariants.{Given}
use Rattle.passes.specs.declared.Settings.{Settings}
use Rattle.passes.specs.Use.{own, given, first_with, entry_for, uses_of, total, total_on, size_of}
use Rattle.passes.specs.Pairs.{shared_by_both, one_between, bad_pairs}
use Rattle.passes.specs.Old.{clean, keeping, cleared, in_the_way}
use Rattle.passes.specs.Start.{Both}
use Rattle.passes.specs.Entries.{plan, too_long}
use Rattle.passes.specs.Pass.{some_too_many, no_entry}
use Rattle.passes.specs.Call.{call}
use Rattle.translation.specs.Translate.{carries, odd, says, first_said, translate}
use Rattle.counting.specs.Count.{spot_in, count}
use Rattle.agreement.specs.Agreement.{Lent, call_of, Accepted, sharing, EndToEnd, laid_by, counted, Agree}
use Rattle.agreement.specs.Paired.{AcceptedIf, bad_for, WithoutBetween, WithoutBoth}
use Rattle.agreement.specs.Bench.{zeros, zero_channels, lent_at}
use Rattle.agreement.specs.Cases.{entry, with_zeros, pair}
use Rattle.agreement.proofs.Basics.{never-none}
use Rattle.agreement.proofs.Straight.{follows-iff}
use Rattle.agreement.proofs.Demand3.{demand-3-clean, demand-3-from-disabled}
use Rattle.agreement.proofs.Examples.{bytes_of, all-disabled}

-- what a call is lent: no table, these pairs, group start 0; the inputs from 0, the outputs from 8
abbrev lent_by : List FmmuPair → Settings → Lent
lent_by pairs settings = record { table = []; pairs = pairs; offsets = lent_at 0 8; settings = settings; channels = zero_channels }

abbrev settings_by : OldEntries → Settings
settings_by Clear = clean Paired Given 0
settings_by Keep = keeping Paired Given 0

-- an EEPROM bay: an output at 0x1100, inputs of 12 and of 8 bits at 0x1180 and, end to end, at 0x1182
abbrev pub sharing_sheet : List ℕ
sharing_sheet =
    (0x00 ∷ 0x2d ∷ 0x01 ∷ 0x00 ∷ 0x00 ∷ 0x00 ∷ 0x00 ∷ 0x00 ∷ 0x03 ∷ 0x00 ∷ 0x03 ∷ [])
    ++ (0x11 ∷ 0x00 ∷ 0x64 ∷ 0x01 ∷ 0x03 ∷ 0x11 ∷ 0x80 ∷ 0x20 ∷ 0x01 ∷ 0x04 ∷ 0x11 ∷ 0x82 ∷ 0x20 ∷ 0x01 ∷ 0x04 ∷ [])
    ++ (0x02 ∷ 0x00 ∷ 0x16 ∷ 0x00 ∷ 0x02 ∷ 0x00 ∷ 0x10 ∷ [])
    ++ (0x01 ∷ 0x01 ∷ 0x1a ∷ 0x00 ∷ 0x02 ∷ 0x00 ∷ 0x0c ∷ 0x01 ∷ 0x02 ∷ 0x1a ∷ 0x01 ∷ 0x02 ∷ 0x00 ∷ 0x08 ∷ [])

-- the last sync manager uses FMMU 1 too, that of the one before it
abbrev pub shared_lent : Lent
shared_lent = lent_by (pair 1 2 ∷ []) (settings_by Clear)

abbrev shared_kept : Lent
shared_kept = lent_by (pair 1 2 ∷ []) (settings_by Keep)

-- old entries of both directions, each where the other direction is wanted, and one more; and what is left in the end
abbrev old : ℕ → List ℕ
old access = entry 3 9 7 0x2000 access 1

abbrev pub used_entries : List ℕ
used_entries = with_zeros (old 1 ∷ old 2 ∷ old 1 ∷ [])

abbrev pub shared_area : List ℕ
shared_area = with_zeros (entry 8 2 7 0x1100 2 1 ∷ entry 0 3 7 0x1180 1 1 ∷ [])

abbrev three_and_two : Both
three_and_two = record { inputs = record { segment = segment 0 3; next = 3 }; outputs = record { segment = segment 8 10; next = 10 } }

-- one entry of three bytes for both inputs
pub shared-accepted : Accepted sharing_sheet shared_lent used_entries shared_area
unfolding fields_of image_of control_at unnamed list_of some_below pdos_from wrong_length kind_fits pdos_fit some_manager_wrong some_usage_wrong broken some_unnamed sheet_data multiplier_of by_coe
    bits_of pieces_from pieces_of own given first_with entry_for uses_of total total_on size_of chunks flat plan some_too_many no_entry cleared too_long bad_pairs in_the_way call
shared-accepted = record { both = three_and_two; says = refl; leaves = refl }

pub shared_kept_lem : Accepted sharing_sheet shared_kept zeros shared_area
unfolding fields_of image_of control_at unnamed list_of some_below pdos_from wrong_length kind_fits pdos_fit some_manager_wrong some_usage_wrong broken some_unnamed sheet_data multiplier_of by_coe
    bits_of pieces_from pieces_of own given first_with entry_for uses_of total total_on size_of chunks flat plan some_too_many no_entry cleared too_long bad_pairs in_the_way call
shared_kept_lem = record { both = three_and_two; says = refl; leaves = refl }

pub shared-end-to-end : EndToEnd (laid_by sharing_sheet MasterRead shared_lent)
unfolding control_at list_of pdos_from sheet_data multiplier_of by_coe bits_of pieces_from pieces_of own given first_with entry_for uses_of sharing
shared-end-to-end = (follows-iff (laid_by sharing_sheet MasterRead shared_lent)).1 (λ h. refl, (λ h. tt, tt))

-- they agree at every address: by default over old entries, and keeping from disabled ones
pub shared-agrees : Agree sharing_sheet MasterRead shared_lent shared_area
shared-agrees = (demand-3-clean sharing_sheet shared_lent used_entries shared_area (bytes_of sharing_sheet tt) shared-accepted refl MasterRead).1 shared-end-to-end

pub shared-kept-agrees : Agree sharing_sheet MasterRead shared_kept shared_area
shared-kept-agrees = (demand-3-from-disabled sharing_sheet shared_kept zeros shared_area (bytes_of sharing_sheet tt) shared_kept_lem all-disabled MasterRead).1 shared-end-to-end

-- the last sync manager a byte higher, at 0x1183: the same bytes, and they don't
abbrev apart_sheet : List ℕ
apart_sheet = set sharing_sheet 22 0x83

pub apart-accepted : Accepted apart_sheet shared_lent used_entries shared_area
unfolding fields_of image_of control_at unnamed list_of some_below pdos_from wrong_length kind_fits pdos_fit some_manager_wrong some_usage_wrong broken some_unnamed sheet_data multiplier_of by_coe
    bits_of pieces_from pieces_of own given first_with entry_for uses_of total total_on size_of chunks flat plan some_too_many no_entry cleared too_long bad_pairs in_the_way call
apart-accepted = record { both = three_and_two; says = refl; leaves = refl }

not-end-to-end : EndToEnd (laid_by apart_sheet MasterRead shared_lent) → ⊥
unfolding control_at list_of pdos_from sheet_data multiplier_of by_coe bits_of pieces_from pieces_of own given first_with entry_for uses_of sharing
not-end-to-end e = let z : ◌≡◌ {A = ℕ} 0x1183 0x1182 = ((follows-iff (laid_by apart_sheet MasterRead shared_lent)).0 e).0 (lit< tt) in omega arith

pub apart-disagrees : Agree apart_sheet MasterRead shared_lent shared_area → ⊥
apart-disagrees h = not-end-to-end ((demand-3-clean apart_sheet shared_lent used_entries shared_area (bytes_of apart_sheet tt) apart-accepted refl MasterRead).0 h)

settings-are : (old : OldEntries) → (settings_by old).old ≡ old
settings-are Clear = refl
settings-are Keep = refl

-- the smallest sheet against 'between': three inputs of one bit, at 0x1000, 0x2000 and 0x1001, and FMMU 0 for the last too
abbrev pub between_sheet : List ℕ
between_sheet =
    (0x00 ∷ 0x2d ∷ 0x01 ∷ 0x00 ∷ 0x00 ∷ 0x00 ∷ 0x00 ∷ 0x00 ∷ 0x03 ∷ 0x00 ∷ 0x03 ∷ [])
    ++ (0x10 ∷ 0x00 ∷ 0x20 ∷ 0x01 ∷ 0x04 ∷ 0x20 ∷ 0x00 ∷ 0x20 ∷ 0x01 ∷ 0x04 ∷ 0x10 ∷ 0x01 ∷ 0x20 ∷ 0x01 ∷ 0x04 ∷ [])
    ++ (0x01 ∷ 0x00 ∷ 0x1a ∷ 0x00 ∷ 0x02 ∷ 0x00 ∷ 0x01 ∷ 0x01 ∷ 0x01 ∷ 0x1a ∷ 0x01 ∷ 0x02 ∷ 0x00 ∷ 0x01 ∷ [])
    ++ (0x01 ∷ 0x02 ∷ 0x1a ∷ 0x02 ∷ 0x02 ∷ 0x00 ∷ 0x01 ∷ [])

abbrev between_lent : OldEntries → Lent
between_lent old = lent_by (pair 0 2 ∷ []) (settings_by old)

pub between-refused : (old : OldEntries) → call_of between_sheet (between_lent old) zeros ≡ refused 18
unfolding fields_of image_of control_at unnamed list_of some_below pdos_from wrong_length kind_fits pdos_fit some_manager_wrong some_usage_wrong broken some_unnamed sheet_data multiplier_of by_coe
    bits_of pieces_from pieces_of own given first_with entry_for uses_of total total_on size_of chunks flat plan some_too_many no_entry cleared too_long bad_pairs in_the_way call
between-refused Clear = refl
between-refused Keep = refl

-- without 18 FMMU 0 would say two bytes from 0 on, and FMMU 1 the second of them
abbrev between_area : List ℕ
between_area = with_zeros (entry 0 2 7 0x1000 1 1 ∷ entry 1 1 7 0x2000 1 1 ∷ [])

abbrev three_and_none : Both
three_and_none = record { inputs = record { segment = segment 0 3; next = 3 }; outputs = record { segment = segment 8 8; next = 8 } }

between-accepted : (old : OldEntries) → AcceptedIf (bad_for shared_by_both between_sheet (between_lent old)) between_sheet (between_lent old) zeros between_area
unfolding fields_of image_of control_at unnamed list_of some_below pdos_from wrong_length kind_fits pdos_fit some_manager_wrong some_usage_wrong broken some_unnamed sheet_data multiplier_of by_coe
    bits_of pieces_from pieces_of own given first_with entry_for uses_of total total_on size_of chunks flat plan some_too_many no_entry cleared too_long bad_pairs in_the_way call
between-accepted Clear = record { both = three_and_none; says = refl; leaves = refl }
between-accepted Keep = record { both = three_and_none; says = refl; leaves = refl }

-- the second byte is the second input's, and would be read from behind the first one's
pub between-names : (old : OldEntries) → (translate MasterRead between_area 1 ≡ accepted (some 0x1001)) × (counted between_sheet MasterRead (between_lent old) 1 ≡ accepted (some 0x2000))
unfolding fields_of chunks flat carries says odd first_said translate control_at unnamed list_of some_below pdos_from wrong_length kind_fits pdos_fit some_manager_wrong some_usage_wrong broken
    some_unnamed sheet_data multiplier_of by_coe bits_of pieces_from pieces_of own given first_with uses_of total size_of some_too_many no_entry spot_in
    count
between-names old = (refl, refl)

between-straight : (old : OldEntries) → EndToEnd (laid_by between_sheet MasterRead (between_lent old))
unfolding control_at list_of pdos_from sheet_data multiplier_of by_coe bits_of pieces_from pieces_of own given first_with entry_for uses_of sharing
between-straight Clear = (follows-iff (laid_by between_sheet MasterRead (between_lent Clear))).1 (λ h. refl, (λ h. tt, (λ h. tt, tt)))
between-straight Keep = (follows-iff (laid_by between_sheet MasterRead (between_lent Keep))).1 (λ h. refl, (λ h. tt, (λ h. tt, tt)))

pub between-needed : (old : OldEntries) → WithoutBetween old → ⊥
between-needed old demanded =
    let agree = (demanded between_sheet (between_lent old) zeros between_area (bytes_of between_sheet tt) (settings-are old) (between-accepted old) all-disabled MasterRead).1 (between-straight old) in
    let e : ◌≡◌ {A = Outcome (Option ℕ)} (accepted (some 0x1001)) (accepted (some 0x2000)) = sym (between-names old).0 ∙ agree 1 (lit< tt) ∙ (between-names old).1 in
    let z : ◌≡◌ {A = ℕ} 0x1001 0x2000 = cc in
    omega arith

-- the smallest against 'both directions': an input and an output of one bit, and FMMU 0 for both
abbrev pub both_sheet : List ℕ
both_sheet =
    (0x00 ∷ 0x21 ∷ 0x01 ∷ 0x00 ∷ 0x00 ∷ 0x00 ∷ 0x00 ∷ 0x00 ∷ 0x02 ∷ 0x00 ∷ 0x02 ∷ [])
    ++ (0x10 ∷ 0x00 ∷ 0x20 ∷ 0x01 ∷ 0x04 ∷ 0x11 ∷ 0x00 ∷ 0x64 ∷ 0x01 ∷ 0x03 ∷ [])
    ++ (0x01 ∷ 0x00 ∷ 0x1a ∷ 0x00 ∷ 0x02 ∷ 0x00 ∷ 0x01 ∷ 0x02 ∷ 0x01 ∷ 0x16 ∷ 0x00 ∷ 0x02 ∷ 0x00 ∷ 0x01 ∷ [])

abbrev both_lent : OldEntries → Lent
both_lent old = lent_by (pair 0 1 ∷ []) (settings_by old)

pub both-refused : (old : OldEntries) → call_of both_sheet (both_lent old) zeros ≡ refused 18
unfolding fields_of image_of control_at unnamed list_of some_below pdos_from wrong_length kind_fits pdos_fit some_manager_wrong some_usage_wrong broken some_unnamed sheet_data multiplier_of by_coe
    bits_of pieces_from pieces_of own given first_with entry_for uses_of total total_on size_of chunks flat plan some_too_many no_entry cleared too_long bad_pairs in_the_way call
both-refused Clear = refl
both-refused Keep = refl

-- without 18 the output's byte would be added to the input's entry
abbrev both_area : List ℕ
both_area = with_zeros (entry 0 2 7 0x1000 1 1 ∷ [])

abbrev one_and_one : Both
one_and_one = record { inputs = record { segment = segment 0 1; next = 1 }; outputs = record { segment = segment 8 9; next = 9 } }

both-accepted : (old : OldEntries) → AcceptedIf (bad_for one_between both_sheet (both_lent old)) both_sheet (both_lent old) zeros both_area
unfolding fields_of image_of control_at unnamed list_of some_below pdos_from wrong_length kind_fits pdos_fit some_manager_wrong some_usage_wrong broken some_unnamed sheet_data multiplier_of by_coe
    bits_of pieces_from pieces_of own given first_with entry_for uses_of total total_on size_of chunks flat plan some_too_many no_entry cleared too_long bad_pairs in_the_way call
both-accepted Clear = record { both = one_and_one; says = refl; leaves = refl }
both-accepted Keep = record { both = one_and_one; says = refl; leaves = refl }

-- one byte behind the inputs would be answered as an input
pub both-names : (old : OldEntries) → (translate MasterRead both_area 1 ≡ accepted (some 0x1001)) × (counted both_sheet MasterRead (both_lent old) 1 ≡ accepted none)
unfolding fields_of chunks flat carries says odd first_said translate control_at unnamed list_of some_below pdos_from wrong_length kind_fits pdos_fit some_manager_wrong some_usage_wrong broken
    some_unnamed sheet_data multiplier_of by_coe bits_of pieces_from pieces_of own given first_with uses_of total size_of some_too_many no_entry spot_in
    count
both-names old = (refl, refl)

both-straight : (old : OldEntries) → EndToEnd (laid_by both_sheet MasterRead (both_lent old))
unfolding control_at list_of pdos_from sheet_data multiplier_of by_coe bits_of pieces_from pieces_of own given first_with entry_for uses_of sharing
both-straight Clear = (follows-iff (laid_by both_sheet MasterRead (both_lent Clear))).1 (λ h. tt, tt)
both-straight Keep = (follows-iff (laid_by both_sheet MasterRead (both_lent Keep))).1 (λ h. tt, tt)

pub both-needed : (old : OldEntries) → WithoutBoth old → ⊥
both-needed old demanded =
    let agree = (demanded both_sheet (both_lent old) zeros both_area (bytes_of both_sheet tt) (settings-are old) (both-accepted old) all-disabled MasterRead).1 (both-straight old) in
    let e : ◌≡◌ {A = Outcome (Option ℕ)} (accepted (some 0x1001)) (accepted none) = sym (both-names old).0 ∙ agree 1 (lit< tt) ∙ (both-names old).1 in
    let z : ◌≡◌ {A = Option ℕ} (some 0x1001) none = cc in
    never-none z
