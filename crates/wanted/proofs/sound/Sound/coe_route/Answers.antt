-- `wanted::sound::Sound::coe_route`: the first place, or how many entries there are.
-- Assumes nothing.
use Rattle.std.proofs.Common.{◌≡◌, ◌∙◌, sym, ap, replicate, ℕ, unwrap_or}
use Rattle.sheet.specs.Sheet.{sheet_data}
use Rattle.sheet.proofs.Managers.{usage-count}
use Rattle.pdo.specs.Direction.{fmmu_usage_of}
use Rattle.passes.specs.declared.Route.TheVariants.{Given}
use Rattle.passes.specs.Use.{coe_entry}
use Rattle.wanted.proofs.Managers.{place-or}
use Rattle.wanted.proofs.sound.Sound.coe_route.Goals as goal

pub returns : goal.returns
returns c = λ direction is.
    let a = c.args in
    let us = (sheet_data a.self.now.bytes.now).usages in
    let e : c.unwrap_or.result ≡ coe_entry (sheet_data a.self.now.bytes.now) direction =
    c.unwrap_or.ensures ∙ (λ i. unwrap_or (is i) ((c.usage_count.ensures ∙ sym (usage-count a.self.now.bytes.now)) i)) ∙ place-or (fmmu_usage_of direction) us in
    ap (λ (n : ℕ). Given (replicate 16 n)) e
