-- The calls of `Arrival` are calls of the functions: arguments, answer and room at exit that keep a function's own contract, as it is generated
-- from the source (`Post`), make the record that the theorem is about. That what the end is held to is what `sheet::read` promises is said in
-- sheet/proofs/Contracts. So a changed `ensures` breaks this file, or that one.
-- Assumes nothing.
use mathlib.Core.Path.{◌≡◌}
use contract.Lifetimes.{Lfts}
use denote.Triple.Clauses.{AtExit}
use denote.Triple.Entry.{Args}
use Rattle.std.specs.Prelude.{Result}
use Rattle.wire.specs.declared.Reason.{Reason}
use Rattle.sheet.specs.declared.Device.{Device}
use Rattle.portions.specs.declared.State.{State}
use Rattle.portions.specs.Portions.{begun, Ends}
use Rattle.portions.specs.Arrival.{Call}
use Rattle.portions.specs.contracts.begin as beginning
use Rattle.portions.proofs.begin.Reads as begins
use Rattle.portions.specs.contracts.take as taking
use Rattle.portions.proofs.take.Reads as takes
use Rattle.portions.specs.contracts.end as ending
use Rattle.portions.proofs.end.Reads as ends

-- `portions::begin`
pub begun-of : (κs : Lfts 0) (a : Args beginning.signature κs) (answer : State) (s : AtExit beginning.ended κs) → begins.Post κs a answer s → answer ≡ begun
begun-of κs a answer s kept = kept

-- `portions::take`: state, portion, room
pub call-of : (κs : Lfts 2) (a : Args taking.signature κs) (answer : Result State Reason) (s : AtExit taking.ended κs) → takes.Post κs a answer s → Call
call-of κs a answer s kept =
    record {
      given = a.0;
      portion = a.1.0.now;
      room = a.1.1.0.now;
      taken = answer;
      left = s.1.1.0.now;
      promise = kept;
    }

-- `portions::end`: state, room
pub end_of : (κs : Lfts 1) (a : Args ending.signature κs) (answer : Result Device Reason) (s : AtExit ending.ended κs) → ends.Post κs a answer s → Ends a.0 a.1.0.now answer
end_of κs a answer s kept = kept
