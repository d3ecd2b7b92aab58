-- The calls of specs/Calls are calls of the functions: arguments, answer and room at exit that keep a function's own contract, as it is generated from the
-- source (`Post`), make the record that the theorems are about. That sizes and bytes are in range holds at every call (`in-range`, beside the proof of `read`). That
-- `ReadsAs` is what `sheet::read` promises is said in sheet/proofs/Contracts, and what `writer::write` promises in writer/proofs/Contracts. So a changed
-- `ensures` breaks this file, or one of those.
-- Assumes nothing.
use contract.Lifetimes.{Lfts}
use denote.Triple.Clauses.{AtExit}
use denote.Triple.Entry.{Args}
use Rattle.std.specs.Prelude.{ℕ, Result}
use Rattle.wire.specs.declared.Reason.{Reason}
use Rattle.sheet.specs.declared.Device.{Device}
use Rattle.dump.specs.Calls.{InRange, Call, SheetCall}
use Rattle.dump.specs.contracts.read as reading
use Rattle.dump.proofs.read.Reads as reads
use Rattle.dump.specs.contracts.write_sheet as writing
use Rattle.dump.proofs.write_sheet.Reads as writes

-- `dump::read`: dump, head, room
pub call-of : (κs : Lfts 2) (a : Args reading.signature κs) (answer : Result Device Reason) (s : AtExit reading.ended κs) → InRange a.1.0 a.0.now a.1.1.0.now → reads.Post κs a answer s → Call
call-of κs a answer s range kept =
    record {
      head = a.1.0;
      dump = a.0.now;
      room = a.1.1.0.now;
      read = answer;
      left = s.1.1.0.now;
      range = range;
      promise = kept;
    }

-- `dump::write_sheet`: dump, head, room
pub sheet-call-of : (κs : Lfts 2) (a : Args writing.signature κs) (answer : Result ℕ Reason) (s : AtExit writing.ended κs) → writes.Post κs a answer s → SheetCall
sheet-call-of κs a answer s kept =
    record {
      head = a.1.0;
      dump = a.0.now;
      room = a.1.1.0.now;
      answer = answer;
      left = s.1.1.0.now;
      promise = kept;
    }
