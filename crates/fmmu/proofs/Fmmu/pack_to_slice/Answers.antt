-- `fmmu::Fmmu::pack_to_slice`: the numbers that it is called with.
-- Assumes nothing.
use borrow.Author.Rules.{rules}
use Rattle.fmmu.specs.Image.{InRange}
use Rattle.fmmu.proofs.Fmmu.pack_to_slice.Lts as steps
use Rattle.fmmu.proofs.Fmmu.pack_to_slice.Reads as reads
use Rattle.fmmu.proofs.Fmmu.pack_to_slice.Tie as tie

-- at every call the numbers are in the range of their types
pub in-range : (c : steps.Start tie.the-claims reads.Pre reads.Post) → InRange c.args.self
in-range c = record { start = search rules; size = search rules; physical = search rules }
