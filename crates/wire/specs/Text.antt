-- Digits, and text typed into room byte by byte. Bytes are ASCII.
-- Assumes nothing.
use Rattle.std.specs.Prelude.{◌≡◌, Bool, cond, List, [], ◌∷◌, ◌++◌, ℕ, zero, suc, ◌+◌, ◌/◌, ◌%◌, ◌^◌, length, take, set, ltb}
use Rattle.wire.specs.declared.Text.{Text}

-- 0 to 9, then a to f
abbrev pub glyph_of : ℕ → ℕ
glyph_of d = cond (ltb d 10) (48 + d) (87 + d)

-- the last n digits of x in a base, the high one first
unfoldable pub digits_of : ℕ → ℕ → ℕ → List ℕ
digits_of base zero x = []
digits_of base (suc n) x = glyph_of (x / base ^ n % base) ∷ digits_of base n x

-- hexadecimal: 0x and n digits, as Rust's {:#06x} (four) and {:#010x} (eight)
abbrev pub hex_of : ℕ → ℕ → List ℕ
hex_of n x = (48 ∷ 120 ∷ []) ++ digits_of 16 n x

-- how many decimal digits a number below 100,000 takes
abbrev pub places_of : ℕ → ℕ
places_of x = cond (ltb x 10) 1 (cond (ltb x 100) 2 (cond (ltb x 1000) 3 (cond (ltb x 10000) 4 5)))

-- decimal, with no zero in front
abbrev pub decimal_of : ℕ → List ℕ
decimal_of x = digits_of 10 (places_of x) x

-- enabled or disabled
abbrev pub enabled_text : Bool → List ℕ
enabled_text on = cond on (101 ∷ 110 ∷ 97 ∷ 98 ∷ 108 ∷ 101 ∷ 100 ∷ []) (100 ∷ 105 ∷ 115 ∷ 97 ∷ 98 ∷ 108 ∷ 101 ∷ 100 ∷ [])

-- a text on its way into room: the room's bytes, and how many of them are typed
pub record Page : Type 0 where
  pub bytes : List ℕ
  pub at : ℕ

abbrev pub page : List ℕ → ℕ → Page
page l n = record { bytes = l; at = n }

-- a text as such a page, and what is typed of it
abbrev pub page_of : Text → Page
page_of t = page t.room.now t.len

abbrev pub text_of : Text → List ℕ
text_of t = take t.len t.room.now

-- the next byte is typed; where the room has ended it is left out
unfoldable pub typed : Page → ℕ → Page
typed p b = cond (ltb p.at (length p.bytes)) (page (set p.bytes p.at b) (p.at + 1)) p

-- each byte in turn
unfoldable pub typed_all : Page → List ℕ → Page
typed_all p [] = p
typed_all p (b ∷ bs) = typed_all (typed p b) bs

-- typing s at the one page leads to the other
pub record Types (p q : Page) (s : List ℕ) : Type 0 where
  pub is : q ≡ typed_all p s

-- s is typed after what the text has, into the same room
pub record Puts (before after : Text) (s : List ℕ) : Type 0 where
  pub types : Types (page_of before) (page_of after) s
  pub same_room : after.room.ghost_name ≡ before.room.ghost_name
