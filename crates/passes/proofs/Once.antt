-- The promise of a call leaves one answer, one content of each offset, and one of each area.
-- Assumes nothing.
use mathlib.Core.Path.{◌≡◌, refl}
use mathlib.Core.List.{List}
use Prim.Native.Nat.{ℕ}
use Rattle.wire.specs.Outcome.{Outcome}
use Rattle.wire.proofs.Pins.{same, same_result}
use Rattle.passes.specs.declared.Chosen.{Chosen}
use Rattle.passes.specs.declared.Both as two
use Rattle.passes.specs.declared.Mapping.{Mapping}
use Rattle.passes.specs.declared.Settings.{Settings}
use Rattle.passes.specs.Start.{Offsets, Both, Configured, both_of_mappings, configured_of, TwoSegments, Segments, segments_of}
use Rattle.passes.specs.Call.{Calls}

-- an answer says all that it holds
abbrev mappings_back : Both → two.Both Mapping
mappings_back b =
    record {
      inputs = record { segment = b.inputs.segment; next = record { start_address = b.inputs.next } };
      outputs = record { segment = b.outputs.segment; next = record { start_address = b.outputs.next } };
    }

pub configured-same : {x y : Configured} {o : Outcome Both} → configured_of x ≡ o → configured_of y ≡ o → x ≡ y
configured-same p q = same_result both_of_mappings mappings_back (λ m. refl) p q

pub segments-same : {x y : Segments} {o : Outcome TwoSegments} → segments_of x ≡ o → segments_of y ≡ o → x ≡ y
segments-same p q = same_result (λ s. s) (λ s. s) (λ s. refl) p q

-- two promises of a call: the same answer, the same offsets, the same areas
pub calls-once :
    (sheet ws : List ℕ) (k : Chosen) (offsets : Offsets) (settings : Settings) (fmmus channels : List ℕ) (x y : Segments) (o p : Offsets) (f g c d : List ℕ)
    → Calls sheet ws k offsets settings fmmus channels x o f c → Calls sheet ws k offsets settings fmmus channels y p g d
    → ◌≡◌ {A = Segments × Offsets × List ℕ × List ℕ} (x, o, f, c) (y, p, g, d)
calls-once sheet ws k offsets settings fmmus channels x y o p f g c d m n =
    let a : x ≡ y = segments-same m.says n.says in
    λ i. (a i, same m.moves n.moves i, same m.entries n.entries i, same m.images n.images i)
