-- The text of any plan, and that of any refusal, fits 4,096 bytes.
-- Assumes nothing.
use mathlib.Core.Path.{◌≡◌, ◌∙◌, ap}
use mathlib.Core.Bool.{Bool, true, false, cond}
use mathlib.Core.List.{List, [], ◌∷◌, ◌++◌}
use Prim.Native.Nat.{ℕ, suc, ◌+◌, ◌*◌, ◌≤◌}
use native.Mathlib.Nat.{mul-suc, min-le_right}
use native.Mathlib.Omega.{arith}
use lib.ListN.{length, take, length-append, length-take}
use Rattle.wire.specs.Text.{decimal_of}
use Rattle.wire.proofs.Digits.{decimal-length}
use Rattle.pdi.specs.declared.PdiSegment.{PdiSegment}
use Rattle.pdi.specs.Segment.{segment_text}
use Rattle.pdi.proofs.Text.{segment-length}
use Rattle.sync_manager_channel.specs.declared.SyncManagerChannel.{SyncManagerChannel}
use Rattle.sync_manager_channel.specs.Image.{channel_of}
use Rattle.sync_manager_channel.specs.Text.{channel_text}
use Rattle.sync_manager_channel.proofs.Text.{channel-length}
use Rattle.fmmu.specs.declared.Fmmu.{Fmmu}
use Rattle.fmmu.specs.Image.{fields_of}
use Rattle.fmmu.specs.Text.{fmmu_text}
use Rattle.fmmu.proofs.Text.{fmmu-length}
use Rattle.area.specs.Area.{area_of, entries_of}
use Rattle.area.proofs.Flat.{length-chunks}
use Rattle.lines.specs.Text.{line, numbered, inputs_front, outputs_front, channel_line, entry_line, lines, image_line, enabled_line, refused_text, bay_text}

line-length : (front text : List ℕ) → length (line front text) ≡ length front + (length text + 1)
line-length front text = length-append front (text ++ (10 ∷ [])) ∙ ap (λ (n : ℕ). length front + n) (length-append text (10 ∷ []))

numbered-length : (name : List ℕ) (k : ℕ) → length (numbered name k) ≤ length name + 7
numbered-length name k =
    let d = decimal-length k in
    simp length-append (omega arith)

channel-line : (k : ℕ) (s : SyncManagerChannel) → length (channel_line k s) ≤ 106
unfolding channel_line
channel-line k s =
    let l = line-length (numbered (83 ∷ 77 ∷ []) k) (channel_text s) in
    let f = numbered-length (83 ∷ 77 ∷ []) k in
    let t = channel-length s in
    omega arith

entry-line : (k : ℕ) (f : Fmmu) → length (entry_line k f) ≤ 140
unfolding entry_line
entry-line k f = go f.enable
  where
    go : (b : Bool) → length (cond b (line (numbered (70 ∷ 77 ∷ 77 ∷ 85 ∷ []) k) (fmmu_text f)) []) ≤ 140
    go false = omega arith
    go true =
        let l = line-length (numbered (70 ∷ 77 ∷ 77 ∷ 85 ∷ []) k) (fmmu_text f) in
        let h = numbered-length (70 ∷ 77 ∷ 77 ∷ 85 ∷ []) k in
        let t = fmmu-length f in
        omega arith

lines-length :
    (line_of : ℕ → List ℕ → List ℕ) (most : ℕ) → ((k : ℕ) (e : List ℕ) → length (line_of k e) ≤ most)
    → (k : ℕ) (es : List (List ℕ)) → length (lines line_of k es) ≤ most * length es
unfolding lines
lines-length line_of most h k [] = omega arith
lines-length line_of most h k (e ∷ es) =
    let one = h k e in
    let others = lines-length line_of most h (suc k) es in
    let all = length-append (line_of k e) (lines line_of (suc k) es) in
    let many = mul-suc most (length es) in
    omega arith

pub bay-length : (n : ℕ) (inputs outputs : PdiSegment) (fmmus channels : List ℕ) → length (bay_text n inputs outputs fmmus channels) ≤ 4096
unfolding bay_text
bay-length n inputs outputs fmmus channels =
    let i = segment-length inputs in
    let il = line-length inputs_front (segment_text inputs) in
    let o = segment-length outputs in
    let ol = line-length outputs_front (segment_text outputs) in
    let images = entries_of 8 (area_of 128 channels) in
    let few = length-take n images in
    let least = min-le_right n (length images) in
    let sixteen = length-chunks 8 16 (area_of 128 channels) in
    let s = lines-length image_line 106 (λ k e. channel-line k (channel_of e)) 0 (take n images) in
    let entries = length-chunks 16 16 (area_of 256 fmmus) in
    let f = lines-length enabled_line 140 (λ k e. entry-line k (fields_of e)) 0 (entries_of 16 (area_of 256 fmmus)) in
    simp length-append (omega arith)

pub refused-length : (n : ℕ) → length (refused_text n) ≤ 4096
unfolding refused_text
refused-length n =
    let d = decimal-length n in
    let l = line-length (114 ∷ 101 ∷ 102 ∷ 117 ∷ 115 ∷ 101 ∷ 100 ∷ 32 ∷ []) (decimal_of n) in
    omega arith
