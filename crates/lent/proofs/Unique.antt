-- Each public function's contract leaves one answer, and one content of each offset and area lent to it.
-- Assumes nothing.
use mathlib.Core.Path.{refl, ◌≡◌}
use mathlib.Core.List.{List}
use Prim.Native.Nat.{ℕ}
use Rattle.wire.proofs.Pins.{Pins}
use Rattle.wire.proofs.Stated.{Saying, States}
use Rattle.sheet.specs.Sheet.{sheet_data}
use Rattle.pdo.specs.Bits.{multipliers_of}
use Rattle.passes.specs.Use.{chosen_by}
use Rattle.passes.specs.Start.{Offsets, offsets, Segments}
use Rattle.passes.specs.Call.{Calls}
use Rattle.passes.proofs.Once.{calls-once}
use Rattle.counting.specs.Count as meaning
use Rattle.counting.specs.Count.{counted_of}
use Rattle.counting.proofs.Unique.{counted-once}
use Rattle.lent.specs.contracts.configured.configure_fmmus as configure-fmmus
use Rattle.lent.specs.contracts.counted.count as count

-- what a call leaves: the answer, both offsets, both areas
abbrev leaves : Segments → Offsets → List ℕ → List ℕ → Segments × Offsets × List ℕ × List ℕ
leaves r o fmmus channels = (r, o, fmmus, channels)

abbrev pub CallsLent : Saying configure-fmmus.ended
CallsLent κs a r s =
    Calls a.0.now (multipliers_of a.1.0.now (sheet_data a.0.now).pdos) (chosen_by a.1.1.1.1.1.1.1.0.mode a.1.1.0.now)
    (offsets a.1.1.1.1.1.0.now a.1.1.1.1.1.1.0.now) a.1.1.1.1.1.1.1.0 a.1.1.1.0.now a.1.1.1.1.0.now
    r (offsets s.1.1.1.1.1.0.now s.1.1.1.1.1.1.0.now) s.1.1.1.0.now s.1.1.1.1.0.now

pub configure-fmmus-states : States configure-fmmus.ended (λ M 𝓤 𝓛. configure-fmmus.clauses 𝓛) CallsLent
configure-fmmus-states M 𝓤 𝓛 mem run κs a r s g = refl

pub configure-fmmus-pins : Pins CallsLent (λ κs r s. leaves r (offsets s.1.1.1.1.1.0.now s.1.1.1.1.1.1.0.now) s.1.1.1.0.now s.1.1.1.1.0.now)
configure-fmmus-pins κs a x y s t p q = calls-once _ _ _ _ _ _ _ x y _ _ _ _ _ _ p q

abbrev pub CountsBy : Saying count.ended
CountsBy κs a r s = counted_of r ≡ meaning.count a.1.1.1.0 a.1.1.1.1.0 a.0.now (multipliers_of a.1.0.now (sheet_data a.0.now).pdos) a.1.1.0.start_address

pub count-states : States count.ended (λ M 𝓤 𝓛. count.clauses 𝓛) CountsBy
count-states M 𝓤 𝓛 mem run κs a r s g = refl

pub count-pins : Pins CountsBy (λ κs r s. r)
count-pins κs a x y s t p q = counted-once p q
