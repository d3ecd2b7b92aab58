-- `wanted::sound::Sound::tally`: the sums so far, and what the records ahead add, are the whole.
-- Assumes nothing.
use Rattle.grammar.specs.Grammar.{pdo_count, pdos_place}
use Rattle.sheet.specs.Sheet.{sheet_data}
use Rattle.wanted.specs.ByKind.{kind_for, usage_at, has_data}
use Rattle.wanted.proofs.Sums.{Tallied}
use Rattle.wanted.proofs.sound.Sound.tally.Given as goal

abbrev pub invariant-loop-i : goal.invariant-loop-i
invariant-loop-i l =
    Tallied l.self.bytes.now l.multipliers (λ k. kind_for l.coe (usage_at (sheet_data l.self.bytes.now).managers k)) (has_data (sheet_data l.self.bytes.now).managers) (pdo_count l.self.bytes.now) (pdos_place l.self.bytes.now) l.sums l.place l.i
