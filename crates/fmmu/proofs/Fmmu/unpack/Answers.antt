-- `fmmu::Fmmu::unpack`: each field is what the library and the masks give of its bytes.
-- Assumes nothing.
use mathlib.Core.Path.{◌≡◌}
use lib.ListN.{get_or}
use borrow.Author.Rules.{rules}
use Rattle.wire.specs.Number.{little_at}
use Rattle.fmmu.specs.Image.{fields_of}
use Rattle.wire.proofs.Fields.{masked_low}
use Rattle.fmmu.proofs.Fmmu.unpack.Goals as goal

pub returns : goal.returns
unfolding fields_of
returns c =
    let l = c.args.image in
    let start : c.from_le_bytes.result ≡ little_at l 0 4 = search rules in
    let size : c.from_le_bytes-2.result ≡ little_at l 4 2 = search rules in
    let physical : c.from_le_bytes-3.result ≡ little_at l 8 2 = search rules in
    λ i.
    record {
      logical_start_address = start i;
      length_bytes = record { 0 = size i };
      logical_start_bit = masked_low (get_or l 6 0) 3 i;
      logical_end_bit = masked_low (get_or l 7 0) 3 i;
      physical_start_address = physical i;
      physical_start_bit = masked_low (get_or l 10 0) 3 i;
      read_enable = c.flag.ensures i;
      write_enable = c.flag-2.ensures i;
      enable = c.flag-3.ensures i;
    }
