-- Every one of the sheet's n lines is printed wherever the plan is accepted, over any areas: acceptance says how long the areas are and that
-- n is sixteen at most, and what is left is as long.
-- Assumes nothing.
use mathlib.Core.Path.{◌≡◌, refl, sym, ◌∙◌, ap, subst}
use mathlib.Core.Bool.{Bool, true, false, cond}
use mathlib.Core.List.{List, [], ◌∷◌, ◌++◌, append_assoc, append-nil}
use mathlib.Core.Option.{Option}
use Prim.Native.Nat.{ℕ, zero, suc, ◌+◌, ◌<◌, ◌≤◌}
use native.Mathlib.Nat.{zero-add, add-zero, not-suc-le-zero, le_of_suc-le-suc}
use native.Mathlib.Omega.{arith}
use lib.ListN.{length, get_or, take}
use lib.Dec.{eqb}
use borrow.Author.Tests.{eqb-true, not-false}
use Rattle.wire.specs.Outcome.{Outcome, refused, accepted, when}
use Rattle.wire.specs.Lists.{list_of}
use Rattle.wire.proofs.Order.{never, passed_first}
use Rattle.wire.proofs.Lists.{or-none}
use Rattle.pdi.specs.Segment.{segment_text}
use Rattle.sheet.specs.Sheet.{sheet_refusals, sheet_data, manager_count}
use Rattle.sheet.specs.declared.SyncManager.{SyncManager}
use Rattle.sheet.proofs.Kept.{accepted-accepts}
use Rattle.area.specs.Area.{entries_of, flat, not_entries, not_channels}
use Rattle.area.proofs.Flat.{flat-bytes, length-chunks, area-whole, sixteen-of}
use Rattle.pdo.specs.declared.PdoDirection.TheVariants.{MasterRead, MasterWrite}
use Rattle.channels.specs.Channels.{channels_after}
use Rattle.channels.proofs.After.{channels-kept}
use Rattle.passes.specs.declared.OldEntries.TheVariants.{Clear}
use Rattle.passes.specs.Start.{Both}
use Rattle.passes.specs.Call.{call, both_size}
use Rattle.passes.specs.Pass.{not_areas}
use Rattle.passes.proofs.Kept.{sixteen-planned}
use Rattle.passes.proofs.Cleared.{sixteen-begun}
use Rattle.mailboxes.specs.Mailbox.{Recorded, mailbox_pass, mailbox_size, mailbox_channels, config_of}
use Rattle.lines.specs.Text.{line, inputs_front, outputs_front, channel_line, image_line, enabled_line, lines, bay_text}
use Rattle.report.specs.Plan.{and_then, Areas, Bay, bay, once, data_call, call_leaves, with_data, mailbox_leaves, plan_bay, outcome_text, report_text, plain_text, EveryLine}

-- both areas, as long as register areas are
record Right (a : Areas) : Type 0 where
  entries : length a.fmmus ≡ 256
  images : length a.channels ≡ 128

-- what acceptance says: the mailbox pass gives 1 and the sheet's refusals, the call 1
mailboxes-accepted : (sheet channels : List ℕ) (c : Recorded) → accepted c ≡ mailbox_pass sheet channels → (length channels ≡ 128) × (manager_count sheet ≤ 16)
unfolding mailbox_pass
mailboxes-accepted sheet channels c e =
    let answer = config_of (sheet_data sheet) in
    let p = passed_first (when 1 (not_channels channels)) (sheet_refusals sheet) answer c e in
    (eqb-true (length channels) 128 (not-false (eqb (length channels) 128) p.0), (accepted-accepts sheet answer c p.1).managers)

call-accepted : (sheet : List ℕ) (a : Areas) (b : Both) → accepted b ≡ data_call sheet a → length a.fmmus ≡ 256
unfolding call
call-accepted sheet a b e =
    let right = or-none (not_entries a.fmmus) (not_channels a.channels) (go (not_areas a.fmmus a.channels) _ e) in
    eqb-true (length a.fmmus) 256 (not-false (eqb (length a.fmmus) 256) right.0)
  where
    go : (t : Bool) (o : Outcome Both) → accepted b ≡ cond t (refused 1) o → t ≡ false
    go true o h = absurd (never (sym h))
    go false o h = refl

-- what they leave is as long
images-long : (f : ℕ → SyncManager → Option ℕ) (ms : List SyncManager) (l : List ℕ) → length l ≡ 128 → length (flat (channels_after f 0 ms (entries_of 8 l))) ≡ 128
images-long f ms l h = flat-bytes 8 16 _ ((channels-kept f 0 ms).kept (entries_of 8 l) (sixteen-of 8 l h))

mailbox-long : (sheet : List ℕ) (a : Areas) (c : Recorded) → length a.channels ≡ 128 → length (mailbox_leaves sheet a c).channels ≡ 128
unfolding mailbox_channels
mailbox-long sheet a c h = go (sheet_data sheet).mailbox
  where
    go : (b : Bool) → length (cond b (mailbox_channels (sheet_data sheet) a.channels) a.channels) ≡ 128
    go true = images-long (mailbox_size (sheet_data sheet)) (sheet_data sheet).managers a.channels h
    go false = h

call-right : (sheet : List ℕ) (a : Areas) (b : Both) → Right a → Right (call_leaves sheet a b)
call-right sheet a b h =
    let d = sheet_data sheet in
    let begun = sixteen-begun Clear (entries_of 16 a.fmmus) (sixteen-of 16 a.fmmus h.entries) in
    let sixteen = sixteen-planned MasterWrite _ _ _ (sixteen-planned MasterRead _ _ _ begun) in
    record { entries = flat-bytes 16 16 _ sixteen; images = images-long (both_size d (once sheet)) d.managers a.channels h.images }

-- an accepted whole: its first part was accepted, and so was what follows
then-accepted : {A B P : Type 0} (o : Outcome A) (f : A → Outcome B) (b : B) → ((x : A) → accepted x ≡ o → accepted b ≡ f x → P) → accepted b ≡ and_then o f → P
then-accepted (refused n) f b h e = absurd (never (sym e))
then-accepted (accepted x) f b h e = h x refl e

-- what an accepted call leaves, and so what an accepted plan leaves
data-right : (sheet : List ℕ) (a : Areas) (b : Bay) → length a.channels ≡ 128 → accepted b ≡ with_data sheet a → Right b.left
unfolding with_data
data-right sheet a b h =
    then-accepted (data_call sheet a) _ b
    (λ p c e.
    let is : bay p.inputs.segment p.outputs.segment (call_leaves sheet a p) ≡ b = cc in
    subst (λ (y : Bay). Right y.left) is (call-right sheet a p (record { entries = call-accepted sheet a p c; images = h })))

plan-right : (sheet : List ℕ) (a : Areas) (b : Bay) → accepted b ≡ plan_bay sheet a → (manager_count sheet ≤ 16) × Right b.left
unfolding plan_bay
plan-right sheet a b =
    then-accepted (mailbox_pass sheet a.channels) _ b
    (λ c m e.
    let p = mailboxes-accepted sheet a.channels c m in
    (p.1, data-right sheet (mailbox_leaves sheet a c) b (mailbox-long sheet a c p.0) e))

-- joined with one more at the end
flat-next : (xs : List (List ℕ)) (x : List ℕ) → flat (xs ++ (x ∷ [])) ≡ flat xs ++ x
unfolding flat
flat-next [] x = append-nil x
flat-next (y ∷ xs) x = ap (λ (l : List ℕ). y ++ l) (flat-next xs x) ∙ sym (append_assoc y (flat xs) x)

-- lines one by one
module _ (line_of : ℕ → List ℕ → List ℕ) where
  -- the next comes last
  lines_next : (k : ℕ) (es : List (List ℕ)) (n : ℕ) → n < length es → lines line_of k (take (suc n) es) ≡ lines line_of k (take n es) ++ line_of (k + n) (get_or es n [])
  unfolding lines
  lines_next k [] n h = absurd (not-suc-le-zero h)
  lines_next k (e ∷ es) zero h = append-nil (line_of k e) ∙ ap (λ (j : ℕ). line_of j e) (sym (add-zero k))
  lines_next k (e ∷ es) (suc n) h =
      let is : suc k + n ≡ k + suc n = omega arith in
      ap (λ (l : List ℕ). line_of k e ++ l) (lines_next (suc k) es n (le_of_suc-le-suc h) ∙ ap (λ (j : ℕ). lines line_of (suc k) (take n es) ++ line_of j (get_or es n [])) is)
      ∙ sym (append_assoc (line_of k e) (lines line_of (suc k) (take n es)) (line_of (k + suc n) (get_or es n [])))

  -- so the lines of the first n are those of each
  one_by_one : (es : List (List ℕ)) (n : ℕ) → n ≤ length es → lines line_of 0 (take n es) ≡ flat (list_of (λ k. line_of k (get_or es k [])) n)
  unfolding lines flat list_of
  one_by_one es zero h = refl
  one_by_one es (suc n) h =
      lines_next 0 es n h
      ∙ ap (λ (j : ℕ). lines line_of 0 (take n es) ++ line_of j (get_or es n [])) (zero-add n)
      ∙ ap (λ (l : List ℕ). l ++ line_of n (get_or es n [])) (one_by_one es n (omega arith))
      ∙ sym (flat-next (list_of (λ k. line_of k (get_or es k [])) n) (line_of n (get_or es n [])))

-- the whole text
pub every-line : EveryLine
unfolding report_text bay_text plain_text channel_line
every-line sheet a b e =
    let n = manager_count sheet in
    let h = plan-right sheet a b (sym e) in
    let es = entries_of 8 b.left.channels in
    let sixteen = length-chunks 8 16 b.left.channels in
    let few : n ≤ length es = omega (arith, h.0) in
    let head = line inputs_front (segment_text b.inputs) ++ line outputs_front (segment_text b.outputs) in
    let images = ap (λ (l : List ℕ). lines image_line 0 (take n (entries_of 8 l))) (area-whole 128 b.left.channels h.1.images) ∙ one_by_one image_line es n few in
    let entries = ap (λ (l : List ℕ). lines enabled_line 0 (entries_of 16 l)) (area-whole 256 b.left.fmmus h.1.entries) in
    ap (outcome_text n) e ∙ (λ i. head ++ images i ++ entries i)
