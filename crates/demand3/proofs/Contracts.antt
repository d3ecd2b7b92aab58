-- The calls of `Calls` are calls of the functions: arguments, answer and places at exit that keep a function's own contract make the record that the theorem is about.
-- Of `translate` the generated reading of its contract is taken, `Post`. Of the other two it is written out: that `CallsLent` and `CountsBy` are what their
-- sources state, in every model, is `configure-fmmus-states` and `count-states` (lent/proofs/Unique.antt). So a changed `ensures` breaks this file or that one.
-- Assumes nothing.
use contract.Lifetimes.{Lfts}
use denote.Triple.Clauses.{AtExit}
use denote.Triple.Entry.{Args}
use Rattle.std.specs.Prelude.{Ok}
use Rattle.pdi.specs.declared.PdiSegment.{PdiSegment}
use Rattle.translation.specs.contracts.translate as translating
use Rattle.translation.proofs.translate.Reads.{Post}
use Rattle.lent.specs.contracts.configure_fmmus as configuring
use Rattle.lent.specs.contracts.count as counting
use Rattle.lent.proofs.Unique.{CallsLent, CountsBy}
use Rattle.demand3.specs.Calls.{Planning, Translated, Translation, Counted, Counting}

-- `lent::configure_fmmus`, where it answered segments: sheet, table, pairs, FMMU bytes, sync manager bytes, the inputs' offset, the outputs', settings
pub planning-of : (κs : Lfts 7) (a : Args configuring.signature κs) (inputs outputs : PdiSegment) (s : AtExit configuring.ended κs) → CallsLent κs a (Ok (record { inputs = inputs; outputs = outputs })) s
    → Planning a.0.now
planning-of κs a inputs outputs s kept =
    record {
      table = a.1.0.now;
      pairs = a.1.1.0.now;
      fmmus = a.1.1.1.0.now;
      channels = a.1.1.1.1.0.now;
      inputs = a.1.1.1.1.1.0.now;
      outputs = a.1.1.1.1.1.1.0.now;
      settings = a.1.1.1.1.1.1.1.0;
      inputs_at = inputs;
      outputs_at = outputs;
      fmmus_then = s.1.1.1.0.now;
      channels_then = s.1.1.1.1.0.now;
      inputs_then = s.1.1.1.1.1.0.now;
      outputs_then = s.1.1.1.1.1.1.0.now;
      promise = kept;
    }

-- `translation::translate`: FMMU bytes, direction, address
pub translation-of : (κs : Lfts 1) (a : Args translating.signature κs) (answer : Translated) (s : AtExit translating.ended κs) → Post κs a answer s
    → Translation a.0.now a.1.0 a.1.1.0
translation-of κs a answer s kept = record { answer = answer; promise = kept }

-- `lent::count`: sheet, table, offset, direction, address
pub counting-of : (κs : Lfts 2) (a : Args counting.signature κs) (answer : Counted) (s : AtExit counting.ended κs) → CountsBy κs a answer s
    → Counting a.0.now a.1.0.now a.1.1.0 a.1.1.1.0 a.1.1.1.1.0
counting-of κs a answer s kept = record { answer = answer; promise = kept }
