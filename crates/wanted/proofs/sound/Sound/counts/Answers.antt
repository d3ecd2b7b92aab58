-- `wanted::sound::Sound::counts`: what each test says of the sync manager that the record names, and of the record's kind.
-- Assumes nothing.
use mathlib.Core.Path.{sym, ◌∙◌, ap}
use Prim.Native.Nat.{ℕ, ◌+◌}
use native.Mathlib.Omega.{arith}
use lib.ListN.{get_or}
use lib.Dec.{eqb}
use Rattle.wanted.proofs.Managers.{counts-nowhere, counts-no-data, counts-data}
use Rattle.wanted.proofs.sound.Sound.counts.Goals as goal

pub returns-then-manager_count-manager : goal.returns-then-manager_count-manager
returns-then-manager_count-manager c =
    let a = c.args in
    let s = a.self.now.bytes.now in
    counts-nowhere s a.«coe» (get_or s a.at 0) (get_or s (a.at + 1) 0) (omega arith)

pub returns-then-is_data : goal.returns-then-is_data
returns-then-is_data c =
    let a = c.args in
    let s = a.self.now.bytes.now in
    ap (eqb _) c.kind_for.ensures
    ∙ counts-data s a.«coe» (get_or s a.at 0) (get_or s (a.at + 1) 0) _ (omega arith) (ap (λ (x : ℕ). get_or s (x + 4) 0) c.manager_place.ensures.0) (sym c.is_data.ensures ∙ c.if-is_data.true)

pub returns-else-is_data : goal.returns-else-is_data
returns-else-is_data c =
    let a = c.args in
    let s = a.self.now.bytes.now in
    c.if-is_data.false
    ∙ counts-no-data s a.«coe» (get_or s a.at 0) (get_or s (a.at + 1) 0) _ (omega arith) (ap (λ (x : ℕ). get_or s (x + 4) 0) c.manager_place.ensures.0) (sym c.is_data.ensures ∙ c.if-is_data.false)
