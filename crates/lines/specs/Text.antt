-- The text of a plan (document 01, 'Bench cases'): both segments, the image of each of the sheet's n sync managers, each enabled entry; or only
-- the refusal. Every line ends in a newline.
-- Assumes nothing.
use Rattle.std.specs.Prelude.{cond, List, [], ◌∷◌, ◌++◌, ℕ, suc, take}
use Rattle.wire.specs.Text.{decimal_of}
use Rattle.pdi.specs.declared.PdiSegment.{PdiSegment}
use Rattle.pdi.specs.Segment.{segment_text}
use Rattle.sync_manager_channel.specs.declared.SyncManagerChannel.{SyncManagerChannel}
use Rattle.sync_manager_channel.specs.Image.{channel_of}
use Rattle.sync_manager_channel.specs.Text.{channel_text}
use Rattle.fmmu.specs.declared.Fmmu.{Fmmu}
use Rattle.fmmu.specs.Image.{fields_of}
use Rattle.fmmu.specs.Text.{fmmu_text}
use Rattle.area.specs.Area.{area_of, entries_of}

-- a line: what it is about, its text, the newline
abbrev pub line : List ℕ → List ℕ → List ℕ
line front text = front ++ (text ++ (10 ∷ []))

-- a name with a number: `SM0: `
abbrev pub numbered : List ℕ → ℕ → List ℕ
numbered name k = name ++ decimal_of k ++ (58 ∷ 32 ∷ [])

-- inputs 0x00000000..0x00000005
abbrev pub inputs_front : List ℕ
inputs_front = 105 ∷ 110 ∷ 112 ∷ 117 ∷ 116 ∷ 115 ∷ 32 ∷ []

-- outputs 0x00000005..0x00000007
abbrev pub outputs_front : List ℕ
outputs_front = 111 ∷ 117 ∷ 116 ∷ 112 ∷ 117 ∷ 116 ∷ 115 ∷ 32 ∷ []

-- SM0: start 0x1000, size 0x0080 (128), .. Every image has its line.
unfoldable pub channel_line : ℕ → SyncManagerChannel → List ℕ
channel_line k s = line (numbered (83 ∷ 77 ∷ []) k) (channel_text s)

-- FMMU0: logical start 0x00000005:0, .. where the entry is enabled
unfoldable pub entry_line : ℕ → Fmmu → List ℕ
entry_line k f = cond f.enable (line (numbered (70 ∷ 77 ∷ 77 ∷ 85 ∷ []) k) (fmmu_text f)) []

-- the lines of images, which are numbered from k on
unfoldable pub lines : (ℕ → List ℕ → List ℕ) → ℕ → List (List ℕ) → List ℕ
lines line_of k [] = []
lines line_of k (e ∷ es) = line_of k e ++ lines line_of (suc k) es

abbrev pub image_line : ℕ → List ℕ → List ℕ
image_line k e = channel_line k (channel_of e)

abbrev pub enabled_line : ℕ → List ℕ → List ℕ
enabled_line k e = entry_line k (fields_of e)

-- refused 2
unfoldable pub refused_text : ℕ → List ℕ
refused_text n = line (114 ∷ 101 ∷ 102 ∷ 117 ∷ 115 ∷ 101 ∷ 100 ∷ 32 ∷ []) (decimal_of n)

-- both segments, the images of the first n sync managers, the enabled entries; an area counts as its load in `area` takes it
unfoldable pub bay_text : ℕ → PdiSegment → PdiSegment → List ℕ → List ℕ → List ℕ
bay_text n inputs outputs fmmus channels =
    line inputs_front (segment_text inputs)
    ++ line outputs_front (segment_text outputs)
    ++ lines image_line 0 (take n (entries_of 8 (area_of 128 channels)))
    ++ lines enabled_line 0 (entries_of 16 (area_of 256 fmmus))
