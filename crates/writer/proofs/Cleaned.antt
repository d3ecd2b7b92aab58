-- What an accepted sheet reads as, written again: byte for byte the sheet, but that the bits which are ignored are 0.
-- Assumes nothing.
use mathlib.Core.Path.{◌≡◌, sym, ◌∙◌, ap, ap₂}
use mathlib.Core.List.{List, [], ◌∷◌, ◌++◌, map}
use Prim.Native.Nat.{ℕ, ◌+◌, ◌%◌, ◌<◌}
use native.Mathlib.Omega.{arith}
use lib.ListN.{length, get_or, take, drop, length-append, length-drop}
use lib.Seq.{take_at, length-take-le}
use lib.Dec.{eqb}
use borrow.Author.Tests.{eqb-true, not-false}
use Rattle.wire.specs.Field.{flag_at, bit}
use Rattle.wire.specs.Image.{Bytes}
use Rattle.wire.specs.Lists.{list_of}
use Rattle.wire.specs.Number.{big_at, big_of}
use Rattle.wire.proofs.Below.{agree}
use Rattle.wire.proofs.Lists.{length-list_of, map-number}
use Rattle.wire.proofs.Numbers.{big-back}
use Rattle.area.specs.Area.{flat}
use Rattle.channel_bytes.proofs.RoundTrip.{control-again}
use Rattle.grammar.proofs.Length.{exact}
use Rattle.grammar.proofs.Broken.{kept}
use Rattle.sheet.specs.Sheet.{manager_count, usage_count, pdo_count, manager_place, usages_place, pdos_place, manager_at, sheet_data}
use Rattle.sheet.proofs.Kept.{Accepts}
use Rattle.sheet.proofs.Managers.{manager-count, usage-count}
use Rattle.sheet.proofs.Sound.{length-pdos}
use Rattle.writer.specs.Form.{flags_byte, manager_bytes, body_bytes, sheet_of}
use Rattle.writer.specs.Again.{clean_manager, cleaned}
use Rattle.writer.proofs.Stored.{managers-long}
use Rattle.writer.proofs.From.{from, from-length, stands}
use Rattle.writer.proofs.Records.{fit-bytes}

-- EEPROM enable comes back as its bit 0
enable-clean : (b : ℕ) → b < 256 → bit (flag_at b 0) ≡ b % 2
enable-clean = agree (λ b. bit (flag_at b 0)) (λ b. b % 2) 256 tt

-- flags with none above bit 2 come back
flags-clean : (b : ℕ) → b < 8 → flags_byte (flag_at b 0) (flag_at b 1) (flag_at b 2) ≡ b
flags-clean = agree (λ b. flags_byte (flag_at b 0) (flag_at b 1) (flag_at b 2)) (λ b. b) 8 tt

module _ (s : List ℕ) (h : Bytes s) (a : Accepts s) where
  -- a sync manager's bytes in the cleaned sheet
  abbrev clean : ℕ → List ℕ
  clean k = clean_manager s (manager_place k)

  -- a sync manager, read and written, and all of them
  manager-clean : (k : ℕ) → manager_bytes (manager_at s (manager_place k)) ≡ clean k
  manager-clean k =
      let at = manager_place k in
      let start = big-back at h in
      let control = control-again (get_or s (at + 2) 0) (h.below (at + 2)) in
      let enable = enable-clean (get_or s (at + 3) 0) (h.below (at + 3)) in
      λ i. start i ++ (control i ∷ enable i ∷ get_or s (at + 4) 0 ∷ [])

  managers-clean : map manager_bytes (list_of (λ k. manager_at s (manager_place k)) (manager_count s)) ≡ list_of clean (manager_count s)
  managers-clean = map-number manager_bytes (λ k. manager_at s (manager_place k)) clean (manager_count s) (λ k l. manager-clean k)

  -- what follows the head there, and how many bytes that is
  abbrev rest : List ℕ
  rest = flat (list_of clean (manager_count s)) ++ drop (usages_place s) s

  rest-long : 11 + length rest ≡ length s
  rest-long =
      let n = manager_count s in
      let ms = list_of (λ k. manager_at s (manager_place k)) n in
      let fives = ap (λ (l : List (List ℕ)). length (flat l)) (sym managers-clean) ∙ managers-long ms in
      let many = length-list_of (λ k. manager_at s (manager_place k)) n in
      let both = length-append (flat (list_of clean n)) (drop (usages_place s) s) in
      let left = length-drop (usages_place s) s in
      let places = a.places in
      omega arith

  -- what follows the head, read and written
  body_is : body_bytes (sheet_data s) ≡ rest
  unfolding body_bytes sheet_data
  body_is =
      ap₂ (λ (x y : List ℕ). x ++ y)
      (ap flat managers-clean)
      (ap (λ (x : List ℕ). from s (usages_place s) (usage_count s) ++ x) (fit-bytes s (pdo_count s) (pdos_place s) h a.walk) ∙ stands s (usages_place s) (usage_count s) a.places)

  -- the head's bytes, by number
  head-is : from s 0 11 ≡ take 11 s
  head-is = sym (ap (take 11) (sym (stands s 0 11 a.low)) ∙ take_at (from s 0 11) (drop 11 s) 11 (from-length s 0 11))

  -- L says how many bytes are written after it
  pub follow-is : 9 + length (body_bytes (sheet_data s)) ≡ big_at s 0 2
  follow-is =
      let body = ap length body_is in
      let long = rest-long in
      let right = exact s a.right in
      omega arith

  -- the sheet, read and written
  pub written-again : sheet_of (sheet_data s) ≡ cleaned s
  unfolding sheet_of cleaned sheet_data list_of
  written-again =
      let follow = ap (big_of 2) follow-is ∙ big-back 0 h in
      let version : 1 ≡ get_or s 2 0 = sym (eqb-true (get_or s 2 0) 1 (not-false (eqb (get_or s 2 0) 1) a.version)) in
      let flags = flags-clean (get_or s 3 0) (let f = (kept s a.whole).flags in omega arith) in
      let receive = big-back 4 h in
      let send = big-back 6 h in
      let n = manager-count s in
      let f = usage-count s in
      let p = length-pdos s (pdo_count s) (pdos_place s) in
      let head : _ ≡ from s 0 11 = λ i. follow i ++ (version i ∷ flags i ∷ (receive i ++ (send i ++ (n i ∷ f i ∷ p i ∷ [])))) in
      λ i. (head ∙ head-is) i ++ body_is i

  -- the cleaned sheet is as long
  pub cleaned-length : length (cleaned s) ≡ length s
  unfolding cleaned
  cleaned-length =
      let both = length-append (take 11 s) rest in
      let first = length-take-le 11 s a.low in
      let long = rest-long in
      omega arith
