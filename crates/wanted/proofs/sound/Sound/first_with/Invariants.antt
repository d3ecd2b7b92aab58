-- `wanted::sound::Sound::first_with`: the places passed, and the first place among the rest, are the first place.
-- Assumes nothing.
use mathlib.Core.Path.{◌≡◌}
use Prim.Native.Nat.{◌+◌}
use lib.ListN.{drop}
use Rattle.sheet.specs.Sheet.{sheet_data}
use Rattle.passes.specs.Use.{first_with}
use Rattle.wanted.proofs.sound.Sound.first_with.Given as goal

abbrev pub invariant-loop-k : goal.invariant-loop-k
invariant-loop-k l = l.k + first_with l.usage (drop l.k (sheet_data l.self.bytes.now).usages) ≡ first_with l.usage (sheet_data l.self.bytes.now).usages
