-- Bench cases P1 to P12: one test over the whole list, computed, and the law that makes it the rule at each row. The same of translation, counting, old entries,
-- pairs, the two directions of a call, and unnamed modes.
-- Assumes nothing.
use mathlib.Core.Path.{◌≡◌, refl, ap, ap₂}
use mathlib.Core.Bool.{Bool, true, false, ◌&&◌}
use mathlib.Core.List.{List, [], ◌∷◌}
use Prim.Native.Nat.{ℕ}
use lib.Dec.{T, eqb, eqb→eq}
use Rattle.wire.specs.Outcome.{Outcome, refused, accepted}
use Rattle.wire.specs.Text.{digits_of}
use Rattle.channel_bytes.specs.Bytes.{control_at, control_byte, unnamed, misnumbered, status_at, status_byte, enable_at, enable_low, enable_high}
use Rattle.sync_manager_channel.specs.Image as channel
use Rattle.channels.specs.Channels.{channels_after}
use Rattle.fmmu.specs.Image.{fields_of, image_of}
use Rattle.wire.specs.Lists.{list_of, some_below, Each}
use Rattle.sheet.specs.Device.{pdos_from}
use Rattle.sheet.specs.Sheet.{wrong_length, kind_fits, pdos_fit, some_manager_wrong, some_usage_wrong, broken, some_unnamed, sheet_data}
use Rattle.pdo.specs.Bits.{multiplier_of, by_coe, bits_of, pieces_from, pieces_of}
use Rattle.passes.specs.Use.{own, given, entry_for, first_with, uses_of, total, total_on, size_of}
use Rattle.area.specs.Area.{chunks, flat}
use Rattle.passes.specs.Pairs.{bad_pairs}
use Rattle.passes.specs.Old.{cleared, in_the_way}
use Rattle.passes.specs.Entries.{plan, too_long}
use Rattle.passes.specs.Pass.{some_too_many, no_entry}
use Rattle.passes.specs.Call.{call}
use Rattle.translation.specs.Translate.{carries, odd, says, first_said, translate}
use Rattle.counting.specs.Count.{spot_in, count}
use Rattle.agreement.specs.Bench.{Row, bench_cases}
use Rattle.agreement.specs.Cases.{translation_cases, counting_cases, old_cases, pair_cases, call_cases, unnamed_cases}

-- two answers are the same
abbrev same_list : List ℕ → List ℕ → Bool
same_list [] [] = true
same_list [] (y ∷ ys) = false
same_list (x ∷ xs) [] = false
same_list (x ∷ xs) (y ∷ ys) = eqb x y && same_list xs ys

abbrev same_answer : Outcome (List ℕ) → Outcome (List ℕ) → Bool
same_answer (refused m) (refused n) = eqb m n
same_answer (refused m) (accepted y) = false
same_answer (accepted x) (refused n) = false
same_answer (accepted x) (accepted y) = same_list x y

abbrev all_same : List Row → Bool
all_same [] = true
all_same (r ∷ rs) = same_answer r.computed r.expected && all_same rs

both_of_lem : (a b : Bool) → T (a && b) → T a × T b
both_of_lem true b t = (tt, t)
both_of_lem false b t = absurd t

same-list : (x y : List ℕ) → T (same_list x y) → x ≡ y
same-list [] [] t = refl
same-list [] (y ∷ ys) t = absurd t
same-list (x ∷ xs) [] t = absurd t
same-list (x ∷ xs) (y ∷ ys) t = let s = both_of_lem (eqb x y) (same_list xs ys) t in ap₂ (λ (z : ℕ) (zs : List ℕ). z ∷ zs) (eqb→eq x y s.0) (same-list xs ys s.1)

same_answer_lem : (x y : Outcome (List ℕ)) → T (same_answer x y) → x ≡ y
same_answer_lem (refused m) (refused n) t = ap (λ (k : ℕ). refused k) (eqb→eq m n t)
same_answer_lem (refused m) (accepted y) t = absurd t
same_answer_lem (accepted x) (refused n) t = absurd t
same_answer_lem (accepted x) (accepted y) t = ap (λ (l : List ℕ). accepted l) (same-list x y t)

-- the test makes the rule at each row
each_row : (rs : List Row) → T (all_same rs) → Each (λ (r : Row). r.computed ≡ r.expected) rs
each_row [] t = tt
each_row (r ∷ rs) t = let s = both_of_lem (same_answer r.computed r.expected) (all_same rs) t in (same_answer_lem r.computed r.expected s.0, each_row rs s.1)

-- every case answers what the document says
pub bench-cases : Each (λ (r : Row). r.computed ≡ r.expected) bench_cases
unfolding control_at unnamed control_byte fields_of image_of list_of some_below pdos_from wrong_length kind_fits pdos_fit some_manager_wrong some_usage_wrong broken some_unnamed sheet_data
    multiplier_of by_coe bits_of pieces_from pieces_of own given first_with uses_of total total_on size_of chunks flat plan some_too_many no_entry
    cleared too_long bad_pairs entry_for in_the_way call status_at status_byte enable_at enable_low enable_high channel.channel_of channel.image_of channels_after
bench-cases = each_row bench_cases tt

pub translation-cases : Each (λ (r : Row). r.computed ≡ r.expected) translation_cases
unfolding fields_of chunks flat carries odd says first_said translate
translation-cases = each_row translation_cases tt

pub counting-cases : Each (λ (r : Row). r.computed ≡ r.expected) counting_cases
unfolding control_at unnamed list_of some_below pdos_from wrong_length kind_fits pdos_fit some_manager_wrong some_usage_wrong broken some_unnamed sheet_data multiplier_of by_coe bits_of pieces_from
    pieces_of own given first_with uses_of total size_of some_too_many no_entry spot_in count
counting-cases = each_row counting_cases tt

pub old-cases : Each (λ (r : Row). r.computed ≡ r.expected) old_cases
unfolding control_at unnamed fields_of image_of list_of some_below pdos_from wrong_length kind_fits pdos_fit some_manager_wrong some_usage_wrong broken some_unnamed sheet_data multiplier_of by_coe
    bits_of pieces_from pieces_of own given first_with uses_of total total_on size_of chunks flat plan some_too_many no_entry cleared too_long bad_pairs entry_for in_the_way call
old-cases = each_row old_cases tt

pub pair-cases : Each (λ (r : Row). r.computed ≡ r.expected) pair_cases
unfolding control_at unnamed fields_of image_of list_of some_below pdos_from wrong_length kind_fits pdos_fit some_manager_wrong some_usage_wrong broken some_unnamed sheet_data multiplier_of by_coe
    bits_of pieces_from pieces_of own given first_with uses_of total total_on size_of chunks flat plan some_too_many no_entry cleared too_long bad_pairs entry_for in_the_way call
pair-cases = each_row pair_cases tt

pub call-cases : Each (λ (r : Row). r.computed ≡ r.expected) call_cases
unfolding control_at unnamed control_byte fields_of image_of list_of some_below pdos_from wrong_length kind_fits pdos_fit some_manager_wrong some_usage_wrong broken some_unnamed sheet_data
    multiplier_of by_coe bits_of pieces_from pieces_of own given first_with uses_of total total_on size_of chunks flat plan some_too_many no_entry
    cleared too_long bad_pairs entry_for in_the_way call status_at status_byte enable_at enable_low enable_high channel.image_of channels_after
call-cases = each_row call_cases tt

pub unnamed-cases : Each (λ (r : Row). r.computed ≡ r.expected) unnamed_cases
unfolding control_at control_byte unnamed misnumbered status_at status_byte enable_at enable_low enable_high channel.channel_of channel.image_of digits_of
unnamed-cases = each_row unnamed_cases tt
