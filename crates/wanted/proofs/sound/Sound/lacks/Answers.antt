-- `wanted::sound::Sound::lacks`: the entry is there, or the sizes decide.
-- Assumes nothing.
use mathlib.Core.Path.{sym, ◌∙◌, ap}
use mathlib.Core.Bool.{not}
use Rattle.std.specs.Prelude.{is_some}
use Rattle.sheet.specs.Sheet.{sheet_data}
use Rattle.pdo.specs.declared.Terms.{Terms}
use Rattle.wanted.specs.Paths.{some_size}
use Rattle.wanted.proofs.Managers.{no-place}
use Rattle.wanted.proofs.sound.Sound.lacks.Goals as goal

pub returns-then-is_none : goal.returns-then-is_none
returns-then-is_none c =
    let a = c.args in
    let d = sheet_data a.self.now.bytes.now in
    c.some_size.ensures ∙ ap (λ (t : Terms). some_size d.managers t.usage a.sizes) c.filter_terms.ensures ∙ no-place _ d.usages _ (ap is_some (sym c.requires) ∙ c.is_none.ensures ∙ ap not c.if-is_none.true)
