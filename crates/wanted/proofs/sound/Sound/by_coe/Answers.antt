-- `wanted::sound::Sound::by_coe`: neither direction lacks its entry, which each route is to.
-- Assumes nothing.
use mathlib.Core.Path.{◌≡◌, sym, ◌∙◌, ap}
use mathlib.Core.Bool.{Bool, false, ◌||◌}
use mathlib.Core.List.{[], ◌∷◌}
use Rattle.wire.specs.Outcome.{accepted, when, decide}
use Rattle.sheet.specs.Sheet.{sheet_data}
use Rattle.pdo.specs.declared.PdoDirection.TheVariants.{MasterRead, MasterWrite}
use Rattle.passes.specs.declared.Wanted.{Wanted}
use Rattle.wanted.specs.Paths.{coe_route, lacks_entry}
use Rattle.wanted.proofs.sound.Sound.by_coe.Goals as goal

pub returns : goal.returns
returns c =
    let a = c.args in
    let d = sheet_data a.self.now.bytes.now in
    let i = c.coe_route.ensures MasterRead c.first_entry-inputs.ensures in
    let o = c.coe_route-2.ensures MasterWrite c.first_entry-outputs.ensures in
    let none : lacks_entry d a.sizes MasterRead || lacks_entry d a.sizes MasterWrite ≡ false =
    λ k. (sym c.lacks.ensures ∙ c.if-lacks.false) k || (sym c.lacks-else-lacks.ensures ∙ c.if-lacks-2.false) k in
    let wants : Wanted = record { sizes = a.sizes; routes = record { inputs = coe_route d MasterRead; outputs = coe_route d MasterWrite } } in
    (λ k. accepted (record { sizes = a.sizes; routes = record { inputs = i k; outputs = o k } })) ∙ sym (ap (λ (b : Bool). decide (when 7 b ∷ []) wants) none)
