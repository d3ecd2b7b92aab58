-- The refusals that look at the entries and the offsets, decided one after the other; and what is written where none holds.
-- Assumes nothing.
use mathlib.Core.Path.{◌≡◌, refl, sym, ◌∙◌, ap, subst}
use mathlib.Core.Bool.{Bool, true, false, cond, not, ◌&&◌}
use mathlib.Core.List.{List, [], ◌∷◌}
use Prim.Native.Nat.{ℕ, ◌≤◌}
use native.Mathlib.Omega.{arith}
use lib.ListN.{length}
use lib.Dec.{ltb}
use borrow.Author.Tests.{eq-eqb, ne_eqb}
use Rattle.std.specs.Prelude.{Ok, Err}
use Rattle.wire.specs.Outcome.{Outcome, refused, accepted, Refusal, when, first, decide, number_of}
use Rattle.wire.specs.declared.Reason.{Reason}
use Rattle.wire.specs.declared.Reason.TheVariants.{AreaLength}
use Rattle.wire.proofs.Order.{never, passed, passed-answer, stopped}
use Rattle.pdi.specs.Offset.{past_end}
use Rattle.area.specs.Area.{area_of, entries_of, flat, not_entries}
use Rattle.area.proofs.Flat.{area-whole}
use Rattle.pdo.specs.declared.PdoDirection.{PdoDirection}
use Rattle.pdo.specs.declared.PdoDirection.TheVariants.{MasterRead, MasterWrite}
use Rattle.passes.specs.declared.Both as two
use Rattle.passes.specs.declared.Mapping.{Mapping}
use Rattle.passes.specs.declared.OldEntries.TheVariants.{Keep}
use Rattle.passes.specs.declared.Settings.{Settings}
use Rattle.passes.specs.Use.{Use}
use Rattle.passes.specs.Old.{beginning, in_the_way}
use Rattle.passes.specs.Handed.{Short}
use Rattle.passes.specs.Start.{of_either, offset_of, is_given, outputs_from, start_of, end_of, Both, both_planned, both_of_mappings, Offsets}
use Rattle.passes.specs.Entries.{too_long, uses_of_both, entry_refusals, totals, entries_outcome, plan_both, entry_area, WritesEntries}
use Rattle.entries.specs.Lay.{Runs, laid_both, standing_to, then_in_the_way}
use Rattle.entries.specs.Ready.{zero_entries, Readies}
use Rattle.entries.proofs.Blocked.{too-long-ready}

-- an answer that is accepted after 15 was asked: nothing was in the way
nothing-blocked : (b : Bool) (o : Outcome Both) (p : Both) → accepted p ≡ then_in_the_way b o → b ≡ false
nothing-blocked b (refused n) p e = absurd (never (sym e))
nothing-blocked true (accepted q) p e = absurd (never (sym e))
nothing-blocked false (accepted q) p e = refl

module _ (uses : PdoDirection → List Use) (area : List ℕ) (o : Offsets) (settings : Settings) where
  abbrev outcome : Outcome Both
  outcome = entries_outcome uses o settings area

  abbrev eight : List Refusal
  eight = when 8 (too_long settings.old (uses_of_both uses) (entries_of 16 area)) ∷ []

  abbrev fifteen : Bool
  fifteen = in_the_way settings.old (uses_of_both uses) (entries_of 16 area)

  -- where both end
  abbrev run : List (List ℕ) → Runs
  run start =
      record {
        middle = end_of settings.outputs o (totals uses) MasterRead;
        end = end_of settings.outputs o (totals uses) MasterWrite;
        entries = plan_both (start_of settings.outputs o (totals uses)) uses start;
      }

  -- 9, 10, 15
  abbrev last : Runs → Outcome Both
  last x = then_in_the_way fifteen (standing_to x.middle x.end settings.outputs o settings.group)

  abbrev whole : Outcome Both
  whole = decide (entry_refusals uses (totals uses) o settings (entries_of 16 area)) (both_planned settings.outputs o settings.group (totals uses))

  -- 15 is asked of what 9 and 10 leave
  in-turn : (start : List (List ℕ)) → first eight (last (run start)) ≡ whole
  in-turn start =
      ap (first eight)
      (go (of_either (λ r. past_end (end_of settings.outputs o (totals uses) r))) (of_either (λ r. is_given r settings.outputs && ltb (offset_of r o) settings.group)) fifteen
      (both_planned settings.outputs o settings.group (totals uses)))
    where
      go : (a b c : Bool) (p : Both) → then_in_the_way c (decide (when 9 a ∷ when 10 b ∷ []) p) ≡ decide (when 9 a ∷ when 10 b ∷ when 15 c ∷ []) p
      go true b c p = refl
      go false true c p = refl
      go false false c p = refl

  refuses : (n : Reason) → outcome ≡ refused (number_of n) → WritesEntries uses o settings area (Err n) area
  refuses n e = record { says = sym e; holds = ap (λ (x : Outcome Both). entry_area x (start_of settings.outputs o (totals uses)) settings.old uses area) (sym e) }

  abbrev by_length : Bool → Outcome Both
  by_length right = cond (not right) (refused 1) whole

  -- 1
  pub wrong-area-refused : (length area ≡ 256 → ⊥) → WritesEntries uses o settings area (Err AreaLength) area
  wrong-area-refused h = refuses AreaLength (ap by_length (ne_eqb (length area) 256 h))

  module _ (right : length area ≡ 256) {before : List (List ℕ)} (loaded : before ≡ entries_of 16 (area_of 256 area)) (short : Short before) {start : List (List ℕ)} {blocked : Bool}
      (made : Readies settings.old (uses_of_both uses) before start blocked) where
    decided : first eight (last (run start)) ≡ outcome
    decided = in-turn start ∙ sym (ap by_length (eq-eqb (length area) 256 right))

    is-loaded : before ≡ entries_of 16 area
    is-loaded = loaded ∙ ap (entries_of 16) (area-whole 256 area right)

    in-the-way : blocked ≡ fifteen
    in-the-way = made.says ∙ ap (in_the_way settings.old (uses_of_both uses)) is-loaded

    -- where nothing is in the way, what is laid on is what the call begins with
    begins : blocked ≡ false → start ≡ beginning settings.old (entries_of 16 area)
    begins f =
        made.holds
        ∙ ap (λ (w : Bool). cond w zero_entries (beginning settings.old before)) (sym made.says ∙ f)
        ∙ ap (beginning settings.old) is-loaded

    -- 8 of what is laid on is 8 of the call
    long : laid_both settings.outputs o uses start ≡ decide eight (run start)
    long =
        let e = ap (too_long Keep (uses_of_both uses)) made.holds ∙ too-long-ready settings.old (uses_of_both uses) before short
        ∙ ap (too_long settings.old (uses_of_both uses)) is-loaded in
        ap (λ (b : Bool). cond b (refused 8) (accepted (run start))) e

    -- 8
    pub too-long-refused : (n : Reason) → refused (number_of n) ≡ laid_both settings.outputs o uses start → WritesEntries uses o settings area (Err n) area
    too-long-refused n e = refuses n (sym (stopped eight (run start) (number_of n) (last (run start)) (e ∙ long) ∙ decided))

    module _ {middle end : ℕ} {after : List (List ℕ)} (laid : accepted (record { middle = middle; end = end; entries = after }) ≡ laid_both settings.outputs o uses start) where
      abbrev there : Runs
      there = record { middle = middle; end = end; entries = after }

      is : there ≡ run start
      is = passed-answer eight (run start) there (laid ∙ long)

      -- each direction ends after its start
      pub ends-after : (offset_of MasterRead o ≤ middle) × (outputs_from settings.outputs (offset_of MasterWrite o) middle ≤ end)
      ends-after =
          subst (λ (x : Runs). (offset_of MasterRead o ≤ x.middle) × (outputs_from settings.outputs (offset_of MasterWrite o) x.middle ≤ x.end)) (sym is)
          (omega arith, omega arith)

      -- 15 is asked of what 9 and 10 leave
      goes_on : then_in_the_way blocked (standing_to middle end settings.outputs o settings.group) ≡ outcome
      goes_on =
          ap (λ (b : Bool). then_in_the_way b (standing_to middle end settings.outputs o settings.group)) in-the-way
          ∙ ap last is
          ∙ sym (passed eight (run start) there (last (run start)) (laid ∙ long))
          ∙ decided

      -- 9 and 10; 15
      pub end-refused : (n : Reason) → refused (number_of n) ≡ then_in_the_way blocked (standing_to middle end settings.outputs o settings.group) → WritesEntries uses o settings area (Err n) area
      end-refused n q = refuses n (sym (q ∙ goes_on))

      -- none
      pub entries-written :
          {mapped : two.Both Mapping} → accepted (both_of_mappings mapped) ≡ then_in_the_way blocked (standing_to middle end settings.outputs o settings.group)
          → {exit : List ℕ} → exit ≡ cond (not_entries area) area (flat after) → WritesEntries uses o settings area (Ok mapped) exit
      entries-written {mapped} q {exit} x =
          let a : accepted (both_of_mappings mapped) ≡ outcome = q ∙ goes_on in
          record {
            says = a;
            holds =
                x
                ∙ ap (λ (b : Bool). cond (not b) area (flat after)) (eq-eqb (length area) 256 right)
                ∙ ap (λ (y : Runs). flat y.entries) is
                ∙ ap (λ (es : List (List ℕ)). flat (plan_both (start_of settings.outputs o (totals uses)) uses es)) (begins (nothing-blocked blocked _ _ q))
                ∙ ap (λ (y : Outcome Both). entry_area y (start_of settings.outputs o (totals uses)) settings.old uses area) a;
          }
