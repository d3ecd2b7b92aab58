-- The text of an FMMU entry: the crate's Display (document 01, 'Register images').
-- Assumes nothing.
use Rattle.std.specs.Prelude.{cond, List, [], ◌∷◌, ◌++◌, ℕ}
use Rattle.wire.specs.Text.{hex_of, decimal_of, enabled_text}
use Rattle.fmmu.specs.declared.Fmmu.{Fmmu}

-- logical start 0x00000005:0, size 2, logical end bit 7
unfoldable pub logical_text : Fmmu → List ℕ
logical_text f =
    (108 ∷ 111 ∷ 103 ∷ 105 ∷ 99 ∷ 97 ∷ 108 ∷ 32 ∷ 115 ∷ 116 ∷ 97 ∷ 114 ∷ 116 ∷ 32 ∷ hex_of 8 f.logical_start_address)
    ++ (58 ∷ decimal_of f.logical_start_bit)
    ++ (44 ∷ 32 ∷ 115 ∷ 105 ∷ 122 ∷ 101 ∷ 32 ∷ decimal_of f.length_bytes.0)
    ++ (44 ∷ 32 ∷ 108 ∷ 111 ∷ 103 ∷ 105 ∷ 99 ∷ 97 ∷ 108 ∷ 32 ∷ 101 ∷ 110 ∷ 100 ∷ 32 ∷ 98 ∷ 105 ∷ 116 ∷ 32 ∷ decimal_of f.logical_end_bit)

-- , RO, enabled: R or nothing, then W or O
unfoldable pub access_text : Fmmu → List ℕ
access_text f =
    cond f.read_enable (44 ∷ 32 ∷ 82 ∷ []) (44 ∷ 32 ∷ [])
    ++ cond f.write_enable (87 ∷ 44 ∷ 32 ∷ []) (79 ∷ 44 ∷ 32 ∷ [])
    ++ enabled_text f.enable

-- , physical start 0x1100:0, RO, enabled
unfoldable pub physical_text : Fmmu → List ℕ
physical_text f =
    (44 ∷ 32 ∷ 112 ∷ 104 ∷ 121 ∷ 115 ∷ 105 ∷ 99 ∷ 97 ∷ 108 ∷ 32 ∷ 115 ∷ 116 ∷ 97 ∷ 114 ∷ 116 ∷ 32 ∷ hex_of 4 f.physical_start_address)
    ++ (58 ∷ decimal_of f.physical_start_bit)
    ++ access_text f

unfoldable pub fmmu_text : Fmmu → List ℕ
fmmu_text f = logical_text f ++ physical_text f
