-- What an accepted call tells: none of its refusals holds of either direction, and its area is what was planned on the entries that it begins with.
-- Assumes nothing.
use mathlib.Core.Path.{◌≡◌, refl, sym, ◌∙◌, ap}
use mathlib.Core.Bool.{Bool, false}
use mathlib.Core.List.{List}
use Prim.Native.Nat.{ℕ}
use lib.Dec.{eqb}
use lib.ListN.{length}
use borrow.Author.Tests.{eqb-true, not-false}
use Rattle.std.specs.Prelude.{Ok}
use Rattle.wire.specs.Image.{Bytes}
use Rattle.wire.specs.Outcome.{Outcome, refused, accepted}
use Rattle.wire.proofs.Lists.{or-none}
use Rattle.wire.proofs.Order.{never}
use Rattle.pdi.specs.declared.PdiSegment.{PdiSegment}
use Rattle.pdi.specs.Offset.{past_end}
use Rattle.sheet.specs.Sheet.{sheet_data}
use Rattle.sheet.proofs.Kept.{Accepts, accepts}
use Rattle.pdo.specs.declared.PdoDirection.{PdoDirection}
use Rattle.pdo.specs.declared.PdoDirection.TheVariants.{MasterRead, MasterWrite}
use Rattle.pdo.specs.Direction.{other}
use Rattle.area.specs.Area.{entries_of, flat, not_entries, not_channels}
use Rattle.passes.specs.declared.Chosen.{Chosen}
use Rattle.passes.specs.declared.Settings.{Settings}
use Rattle.passes.specs.Use.{size_of}
use Rattle.passes.specs.Pairs.{bad_pairs}
use Rattle.passes.specs.Old.{beginning, in_the_way}
use Rattle.passes.specs.Start.{Offsets, of_either, end_of, Both, segments_alone, segments_of}
use Rattle.passes.specs.Entries.{plan, plan_both, too_long, uses_of_both}
use Rattle.passes.specs.Pass.{some_too_many, no_entry}
use Rattle.passes.specs.Call.{uses_for, starts_at, call_refusals, both_of, call, entries_after}
use Rattle.agreement.proofs.Basics.{accepted-none, NoneHolds}
use Rattle.agreement.proofs.Straight.{Apart}
use Rattle.agreement.proofs.Uses.{Sane, sane, apart}
use Rattle.agreement.proofs.Sheets.{bounded}
use Rattle.area.proofs.Flat.{Sixteen, sixteen-of, flat-bytes, flat-entries}
use Rattle.passes.proofs.Kept.{sixteen-planned}
use Rattle.passes.proofs.Cleared.{sixteen-begun}

-- a call that answered segments was accepted
pub record Answered (o : Outcome Both) : Type 0 where
  pub both : Both
  pub says : o ≡ accepted both

pub answered : (o : Outcome Both) (i u : PdiSegment) → segments_of (Ok (record { inputs = i; outputs = u })) ≡ segments_alone o → Answered o
answered (refused n) i u e = absurd (never (sym e))
answered (accepted b) i u e = record { both = b; says = refl }

-- what holds of neither direction doesn't hold of one
pub of-neither : (p : PdoDirection → Bool) → of_either p ≡ false → (r : PdoDirection) → p r ≡ false
of-neither p e MasterRead = (or-none (p MasterRead) (p MasterWrite) e).0
of-neither p e MasterWrite = (or-none (p MasterRead) (p MasterWrite) e).1

module _ (sheet ws : List ℕ) (k : Chosen) (o : Offsets) (settings : Settings) (area channels : List ℕ) where
  -- none of the refusals holds
  pub none-holds : (b : Both) → call sheet ws k o settings area channels ≡ accepted b → NoneHolds (call_refusals sheet ws k o settings area channels)
  unfolding call
  none-holds b e = accepted-none (call_refusals sheet ws k o settings area channels) (both_of (sheet_data sheet) ws o settings) b e

  module _ (c : NoneHolds (call_refusals sheet ws k o settings area channels)) where
    pub area-long : length area ≡ 256
    area-long = eqb-true (length area) 256 (not-false (eqb (length area) 256) (or-none (not_entries area) (not_channels channels) c.0).0)

    pub channels-long : length channels ≡ 128
    channels-long = eqb-true (length channels) 128 (not-false (eqb (length channels) 128) (or-none (not_entries area) (not_channels channels) c.0).1)

-- what it tells of the sheet, of the area before and of the area after
pub record Told (sheet ws : List ℕ) (k : Chosen) (o : Offsets) (settings : Settings) (area after : List ℕ) : Type 0 where
  pub long : length area ≡ 256
  pub sheet_kept : Accepts sheet
  pub pairs : bad_pairs settings.mode k (sheet_data sheet) ws ≡ false
  pub bits : (r : PdoDirection) → some_too_many (sheet_data sheet) ws r ≡ false
  pub entry : (r : PdoDirection) → no_entry (sheet_data sheet) ws r ≡ false
  pub room : too_long settings.old (uses_of_both (uses_for settings k (sheet_data sheet) ws)) (entries_of 16 area) ≡ false
  pub end : (r : PdoDirection) → past_end (end_of settings.outputs o (size_of (sheet_data sheet) ws) r) ≡ false
  pub free : in_the_way settings.old (uses_of_both (uses_for settings k (sheet_data sheet) ws)) (entries_of 16 area) ≡ false
  pub after_long : length after ≡ 256
  pub leaves : entries_of 16 after ≡ plan_both (starts_at settings o (sheet_data sheet) ws) (uses_for settings k (sheet_data sheet) ws) (beginning settings.old (entries_of 16 area))

pub told :
    (sheet ws : List ℕ) (k : Chosen) (o : Offsets) (settings : Settings) (area channels after : List ℕ) (b : Both)
    → call sheet ws k o settings area channels ≡ accepted b
    → after ≡ entries_after (call sheet ws k o settings area channels) (sheet_data sheet) ws k o settings area
    → Told sheet ws k o settings area after
told sheet ws k o settings area channels after b says leaves =
    let d = sheet_data sheet in
    let c = none-holds sheet ws k o settings area channels b says in
    let long = area-long sheet ws k o settings area channels c in
    let s = c.1.1.1.1.1 in
    let start = starts_at settings o d ws in
    let uses = uses_for settings k d ws in
    let first = beginning settings.old (entries_of 16 area) in
    let es = plan_both start uses first in
    let left : after ≡ flat es = leaves ∙ ap (λ (x : Outcome Both). entries_after x d ws k o settings area) says in
    let sixteen : Sixteen 16 es =
    sixteen-planned MasterWrite (start MasterWrite) (uses MasterWrite) (plan MasterRead (start MasterRead) (uses MasterRead) first)
    (sixteen-planned MasterRead (start MasterRead) (uses MasterRead) first (sixteen-begun settings.old (entries_of 16 area) (sixteen-of 16 area long))) in
    record {
      long = long;
      sheet_kept = accepts sheet c.1.0 c.1.1.0 c.1.1.1.0 c.1.1.1.1.0;
      pairs = s.0;
      bits = of-neither (some_too_many d ws) s.1.0;
      entry = of-neither (no_entry d ws) s.1.1.0;
      room = s.1.1.1.0;
      end = of-neither (λ r. past_end (end_of settings.outputs o (size_of d ws) r)) s.1.1.1.1.0;
      free = s.1.1.1.1.1.1.0;
      after_long = ap length left ∙ flat-bytes 16 16 es sixteen;
      leaves = ap (entries_of 16) left ∙ flat-entries 16 es sixteen;
    }

-- so the uses of each direction can be laid, and share no entry
module _ (sheet ws : List ℕ) (bytes : Bytes sheet) (k : Chosen) (o : Offsets) (settings : Settings) (area after : List ℕ) (t : Told sheet ws k o settings area after) where
  pub sane-uses : (r : PdoDirection) → Sane (uses_for settings k (sheet_data sheet) ws r)
  sane-uses r = sane (sheet_data sheet) (bounded sheet bytes t.sheet_kept) ws r settings.mode k t.pairs (t.entry r)

  pub apart-uses : (r : PdoDirection) → Apart (uses_for settings k (sheet_data sheet) ws r) (uses_for settings k (sheet_data sheet) ws (other r))
  apart-uses r = apart (sheet_data sheet) (bounded sheet bytes t.sheet_kept) ws r settings.mode k t.pairs (t.entry r)
