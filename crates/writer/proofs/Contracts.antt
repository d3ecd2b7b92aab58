-- The calls of specs/Again are calls of the functions: arguments, answer and room at exit that keep a function's own contract, as it is generated
-- from the source (`Post`), make the record that the theorems are about. That numbers and bytes are in range holds at every call (`in-range`, beside
-- the proof of `write`); that `ReadsAs` is what `sheet::read` promises is said in sheet/proofs/Contracts. So a changed `ensures` breaks this file, or
-- that one.
-- Assumes nothing.
use contract.Lifetimes.{Lfts}
use denote.Triple.Clauses.{AtExit}
use denote.Triple.Entry.{Args}
use Rattle.std.specs.Prelude.{ℕ, Result}
use Rattle.wire.specs.declared.Reason.{Reason}
use Rattle.writer.specs.Again.{InRange, Call}
use Rattle.writer.specs.contracts.write as writing
use Rattle.writer.proofs.write.Reads as writes

-- `writer::write`: device, bytes, room
pub call-of : (κs : Lfts 2) (a : Args writing.signature κs) (answer : Result ℕ Reason) (s : AtExit writing.ended κs) → InRange a.0 a.1.0.now → writes.Post κs a answer s → Call
call-of κs a answer s range kept =
    record {
      device = a.0;
      bytes = a.1.0.now;
      room = a.1.1.0.now;
      answer = answer;
      left = s.1.1.0.now;
      range = range;
      promise = kept;
    }
