-- `ReadsAs` is what `read` promises: arguments and answer that keep the function's own contract, as it is generated from the source (`Post`), keep it.
-- So a changed `ensures` breaks this file.
-- Assumes nothing.
use contract.Lifetimes.{Lfts}
use denote.Triple.Clauses.{AtExit}
use denote.Triple.Entry.{Args}
use Rattle.std.specs.Prelude.{Result}
use Rattle.wire.specs.declared.Reason.{Reason}
use Rattle.sheet.specs.declared.Device.{Device}
use Rattle.sheet.specs.Sheet.{ReadsAs}
use Rattle.sheet.specs.contracts.read as reading
use Rattle.sheet.proofs.read.Reads as reads

-- `sheet::read`: the sheet
pub read_of : (κs : Lfts 1) (a : Args reading.signature κs) (answer : Result Device Reason) (s : AtExit reading.ended κs) → reads.Post κs a answer s → ReadsAs a.0.now answer
read_of κs a answer s kept = kept
