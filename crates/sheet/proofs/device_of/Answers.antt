-- `sheet::device_of`: each field is read from its bytes.
-- Assumes nothing.
use mathlib.Core.Path.{◌∙◌, ap, ap₂}
use native.Mathlib.Omega.{arith}
use Rattle.grammar.proofs.Broken.{kept}
use Rattle.sheet.specs.Sheet.{sheet_data, managers_of, usages_of, device_of}
use Rattle.sheet.proofs.device_of.Goals as goal

pub managers_of-requires : goal.managers_of-requires
managers_of-requires c = let k = kept _ c.requires in omega arith

pub usages_of-requires : goal.usages_of-requires
usages_of-requires c =
    let k = kept _ c.requires in
    (omega arith, omega arith)

pub returns : goal.returns
unfolding device_of sheet_data
returns c =
    let s = c.args.sheet.now in
    λ i.
    record {
      has_mailbox = c.has_mailbox.ensures i;
      coe_protocol = c.coe_protocol.ensures i;
      complete_access = c.complete_access.ensures i;
      receive_size = record { 0 = c.receive_size.ensures i };
      send_size = record { 0 = c.send_size.ensures i };
      managers = (c.managers_of.ensures ∙ ap (managers_of s) c.manager_count-n.ensures) i;
      n = (c.from.ensures ∙ c.manager_count-n.ensures) i;
      usages = (c.usages_of.ensures ∙ ap₂ (usages_of s) c.usages_place.ensures.0 (c.from-f.ensures ∙ c.usage_count.ensures)) i;
      f = (c.from-f.ensures ∙ c.usage_count.ensures) i;
      pdos = c.pdos_place.ensures.0 i;
      p = c.pdo_count.ensures i;
    }
