-- A direction by itself: what a call and counting ask of it, and its pass as document 01 has it, which keeps old entries. No function makes that pass; two of them, one
-- after the other, are what a call is held to (agreement/specs/Clean.antt), and what the crate makes.
-- Assumes nothing.
use Rattle.std.specs.Prelude.{Bool, cond, ◌&&◌, ◌||◌, List, [], ◌∷◌, ◌++◌, ℕ, ◌+◌, length, eqb, ltb}
use Rattle.std.proofs.Math.Option.{Option, none, some}
use Rattle.wire.specs.Lists.{some_of}
use Rattle.wire.specs.Outcome.{Outcome, Refusal, when, decide}
use Rattle.pdi.specs.Unit.{bytes_of, too_many_bits}
use Rattle.pdi.specs.Offset.{past_end}
use Rattle.sheet.specs.Device.{Data}
use Rattle.sheet.specs.Sheet.{sheet_refusals, sheet_data}
use Rattle.sheet.specs.declared.SyncManager.{SyncManager}
use Rattle.pdo.specs.declared.PdoDirection.{PdoDirection}
use Rattle.pdo.specs.Direction.{usage_of}
use Rattle.pdo.specs.Bits.{Piece, by_coe, path_kind, bits_of, pieces_of}
use Rattle.area.specs.Area.{entries_of, flat, not_entries, not_channels}
use Rattle.channels.specs.Channels.{channels_after}
use Rattle.passes.specs.Use.{coe_entry, uses_of, size_of}
use Rattle.passes.specs.Pairs.{bad_pairs}
use Rattle.passes.specs.Start.{Planned, planned}
use Rattle.passes.specs.Entries.{plan, too_long}
use Rattle.passes.specs.declared.Chosen.{Chosen}
use Rattle.passes.specs.declared.FmmuMode.{FmmuMode}
use Rattle.passes.specs.declared.OldEntries.TheVariants.{Keep}

-- 1: an area isn't 256 (FMMU) or 128 (sync manager) bytes
abbrev pub not_areas : List ℕ → List ℕ → Bool
not_areas fmmus channels = not_entries fmmus || not_channels channels

-- 6: a wanted sync manager's exact bits exceed 65,528
unfoldable pub some_too_many : Data → List ℕ → PdoDirection → Bool
some_too_many d ws r = some_of (λ (p : Piece). too_many_bits p.bits) (pieces_of d ws r)

-- 7: CoE, a wanted sync manager has bits, no entry has the usage
unfoldable pub no_entry : Data → List ℕ → PdoDirection → Bool
no_entry d ws r = by_coe d && (some_of (λ (p : Piece). ltb 0 p.bits) (pieces_of d ws r) && eqb (coe_entry d r) (length d.usages))

-- the refusals that a pass and counting share, after the sheet's
abbrev pub wanted_refusals : Data → List ℕ → PdoDirection → List Refusal
wanted_refusals d ws r = when 6 (some_too_many d ws r) ∷ when 7 (no_entry d ws r) ∷ []

-- its refusals in their order: counting takes no pairs, so 18 is a pass's alone; 8 counts from what stands there
abbrev pub keeping_refusals : List ℕ → List ℕ → Chosen → FmmuMode → PdoDirection → ℕ → ℕ → List ℕ → List ℕ → List Refusal
keeping_refusals sheet ws c mode r offset group fmmus channels =
    when 1 (not_areas fmmus channels)
    ∷ sheet_refusals sheet ++ (when 18 (bad_pairs mode c (sheet_data sheet) ws) ∷ wanted_refusals (sheet_data sheet) ws r
    ++ (when 8 (too_long Keep (uses_of mode c (sheet_data sheet) ws r) (entries_of 16 fmmus))
    ∷ when 9 (past_end (offset + size_of (sheet_data sheet) ws r))
    ∷ when 10 (ltb offset group)
    ∷ []))

-- the pass
unfoldable pub keeping_pass : List ℕ → List ℕ → Chosen → FmmuMode → PdoDirection → ℕ → ℕ → List ℕ → List ℕ → Outcome Planned
keeping_pass sheet ws c mode r offset group fmmus channels =
    decide (keeping_refusals sheet ws c mode r offset group fmmus channels) (planned offset group (size_of (sheet_data sheet) ws r))

-- each wanted sync manager gets its image, with its size in bytes
abbrev pub data_size : Data → List ℕ → PdoDirection → ℕ → SyncManager → Option ℕ
data_size d ws r k m = cond (eqb m.usage_type (usage_of r)) (some (bytes_of (bits_of (path_kind d r) k d.pdos ws))) none

-- what the areas hold after an accepted one: it adds to the entries that stand there
abbrev pub entries_kept : Data → List ℕ → Chosen → FmmuMode → PdoDirection → ℕ → List ℕ → List ℕ
entries_kept d ws c mode r offset fmmus = flat (plan r offset (uses_of mode c d ws r) (entries_of 16 fmmus))

abbrev pub images_of : Data → List ℕ → PdoDirection → List ℕ → List ℕ
images_of d ws r channels = flat (channels_after (data_size d ws r) 0 d.managers (entries_of 8 channels))
