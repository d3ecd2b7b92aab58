-- Bytes stored one part behind the other: as if all had been stored at once; and those of the sync managers, five of each.
-- Assumes nothing.
use mathlib.Core.Path.{◌≡◌, refl, sym, ◌∙◌, ap, ap₂}
use mathlib.Core.List.{List, [], ◌∷◌, ◌++◌, map, append_assoc, append-nil}
use Prim.Native.Nat.{ℕ, zero, suc, ◌+◌, ◌*◌, ◌<◌, ◌≤◌}
use native.Mathlib.Nat.{add-zero, not-suc-le-zero, le_of_suc-le-suc}
use native.Mathlib.Numerals.{add-one}
use native.Mathlib.Omega.{arith}
use lib.ListN.{length, get_or, take, drop, length-append, take-append-drop}
use lib.Seq.{take_at, drop-append-add, drop-drop, length-take-le}
use Rattle.wire.specs.Room.{over}
use Rattle.wire.proofs.Copied.{over-front}
use Rattle.area.specs.Area.{flat, stored_at}
use Rattle.area.proofs.Entry.{stored_there, length-stored}
use Rattle.sheet.specs.declared.SyncManager.{SyncManager}
use Rattle.writer.specs.Form.{manager_bytes}

-- nothing stored
pub stored-nothing : (at : ℕ) (room : List ℕ) → at ≤ length room → room ≡ stored_at at [] room
stored-nothing at room h =
    sym (take-append-drop at room) ∙ ap (λ (k : ℕ). take at room ++ drop k room) (sym (add-zero at)) ∙ stored_there at [] room (let z : at + 0 ≤ length room = omega arith in z)

-- the one behind the other
pub stored_next :
    (at : ℕ) (a b room : List ℕ) {now : List ℕ} {place : ℕ} → at + length a + length b ≤ length room → now ≡ stored_at at a room → place ≡ at + length a
    → stored_at place b now ≡ stored_at at (a ++ b) room
stored_next at a b room {now} {place} h e q =
    let ab : List ℕ = take at room ++ a in
    let rest = drop (at + length a) room in
    let front : length ab ≡ at + length a = length-append (take at room) a ∙ ap (λ (k : ℕ). k + length a) (length-take-le at room (omega arith)) in
    let is : now ≡ ab ++ rest = e ∙ sym (stored_there at a room (omega arith)) ∙ sym (append_assoc (take at room) a rest) in
    let long : length now ≡ length room = ap length e ∙ length-stored at a room in
    let both = length-append a b in
    let past : drop (place + length b) now ≡ drop (at + length (a ++ b)) room =
    ap₂ (λ (k : ℕ) (l : List ℕ). drop k l) (let z : place + length b ≡ length ab + length b = omega arith in z) is
    ∙ drop-append-add ab rest (length b)
    ∙ drop-drop (length b) (at + length a) room
    ∙ ap (λ (k : ℕ). drop k room) (let z : at + length a + length b ≡ at + length (a ++ b) = omega arith in z) in
    sym (stored_there place b now (omega arith))
    ∙ ap₂ (λ (x y : List ℕ). x ++ (b ++ y)) (ap (take place) is ∙ take_at ab rest place (front ∙ sym q)) past
    ∙ append_assoc (take at room) a (b ++ drop (at + length (a ++ b)) room)
    ∙ ap (λ (l : List ℕ). take at room ++ l) (sym (append_assoc a b (drop (at + length (a ++ b)) room)))
    ∙ stored_there at (a ++ b) room (omega arith)

-- from the front on
pub stored-front : (a room : List ℕ) → length a ≤ length room → stored_at 0 a room ≡ over a room
stored-front a room h =
    sym (stored_there 0 a room (omega arith)) ∙ ap (λ (k : ℕ). a ++ drop k room) (let z : 0 + length a ≡ length a = omega arith in z) ∙ sym (over-front a room h)

-- sync managers, one more of them; each has five bytes
pub next-manager : (l : List SyncManager) (k : ℕ) (d : SyncManager) → k < length l
    → flat (map manager_bytes (take (k + 1) l)) ≡ flat (map manager_bytes (take k l)) ++ manager_bytes (get_or l k d)
unfolding flat
next-manager l k d h = ap (λ (i : ℕ). flat (map manager_bytes (take i l))) (add-one k) ∙ go l k h
  where
    go : (l : List SyncManager) (k : ℕ) → k < length l → flat (map manager_bytes (take (suc k) l)) ≡ flat (map manager_bytes (take k l)) ++ manager_bytes (get_or l k d)
    go [] k h = absurd (not-suc-le-zero h)
    go (m ∷ l) zero h = append-nil (manager_bytes m)
    go (m ∷ l) (suc k) h =
        ap (λ (t : List ℕ). manager_bytes m ++ t) (go l k (le_of_suc-le-suc h)) ∙ sym (append_assoc (manager_bytes m) (flat (map manager_bytes (take k l))) (manager_bytes (get_or l k d)))

pub managers-long : (l : List SyncManager) → length (flat (map manager_bytes l)) ≡ 5 * length l
unfolding flat
managers-long [] = refl
managers-long (m ∷ l) = length-append (manager_bytes m) (flat (map manager_bytes l)) ∙ omega (arith, managers-long l)

pub first-managers-long : (l : List SyncManager) (k : ℕ) → k ≤ length l → length (flat (map manager_bytes (take k l))) ≡ 5 * k
first-managers-long l k h = managers-long (take k l) ∙ ap (λ (i : ℕ). 5 * i) (length-take-le k l h)

-- four parts, one behind the other
pub four-stored :
    (a b c e room : List ℕ) {one two three four : List ℕ} {i j k : ℕ} → length a + length b + length c + length e ≤ length room
    → one ≡ stored_at 0 a room → i ≡ length a → two ≡ stored_at i b one → j ≡ length a + length b → three ≡ stored_at j c two → k ≡ length a + length b + length c → four ≡ stored_at k e three
    → four ≡ over (a ++ (b ++ (c ++ e))) room
four-stored a b c e room h p qi q rj r sk s =
    let ab = length-append a b in
    let abc = length-append (a ++ b) c in
    let all = length-append ((a ++ b) ++ c) e in
    s
    ∙ stored_next 0 ((a ++ b) ++ c) e room (omega arith)
    (r ∙ stored_next 0 (a ++ b) c room (omega arith) (q ∙ stored_next 0 a b room (omega arith) p (omega arith)) (omega arith))
    (omega arith)
    ∙ stored-front (((a ++ b) ++ c) ++ e) room (omega arith)
    ∙ ap (λ (l : List ℕ). over l room) (append_assoc (a ++ b) c e ∙ append_assoc a b (c ++ e))
