-- `writer::put_managers`: after k turns the first k stand one behind the other.
-- Assumes nothing.
use Rattle.std.proofs.Common.{◌≡◌, map, take}
use Rattle.area.specs.Area.{flat, stored_at}
use Rattle.writer.specs.Form.{manager_bytes}
use Rattle.writer.proofs.put_managers.Given as goal

abbrev pub invariant-loop-k : goal.invariant-loop-k
invariant-loop-k l = l.room ≡ stored_at 11 (flat (map manager_bytes (take l.k l.list))) l.initial.room
