-- A call by value, as the call that is lent its offsets answers it: each case.
-- Assumes nothing.
use mathlib.Core.Path.{ap}
use mathlib.Core.List.{List}
use Prim.Native.Nat.{ℕ}
use Rattle.std.specs.Prelude.{Ok, Err}
use Rattle.wire.specs.Outcome.{Outcome}
use Rattle.wire.specs.declared.Reason.{Reason}
use Rattle.passes.specs.declared.Chosen.{Chosen}
use Rattle.passes.specs.declared.Both as two
use Rattle.passes.specs.declared.Mapping.{Mapping}
use Rattle.passes.specs.declared.Settings.{Settings}
use Rattle.passes.specs.Start.{Both, Offsets, offsets, segments_alone, offsets_after}
use Rattle.passes.specs.Call.{Configures, Calls}

module _ {sheet ws : List ℕ} {k : Chosen} {o : Offsets} {settings : Settings} {fmmus channels fmmus_then channels_then : List ℕ} where
  -- the segments and the offsets are those of its answer
  pub mapped :
      {m : two.Both Mapping} → Configures sheet ws k o settings fmmus channels (Ok m) fmmus_then channels_then
      → Calls sheet ws k o settings fmmus channels (Ok (record { inputs = m.inputs.segment; outputs = m.outputs.segment })) (offsets m.inputs.next m.outputs.next) fmmus_then channels_then
  mapped c =
      record { says = ap segments_alone c.says; moves = ap (λ (p : Outcome Both). offsets_after p o) c.says; entries = c.entries; images = c.images }

  pub stopped : {n : Reason} → Configures sheet ws k o settings fmmus channels (Err n) fmmus_then channels_then → Calls sheet ws k o settings fmmus channels (Err n) o fmmus_then channels_then
  stopped c =
      record { says = ap segments_alone c.says; moves = ap (λ (p : Outcome Both). offsets_after p o) c.says; entries = c.entries; images = c.images }
