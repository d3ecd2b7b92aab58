-- Text typed into room: what comes after what, and what stands there in the end.
-- Assumes nothing.
use mathlib.Core.Path.{◌≡◌, refl, sym, ◌∙◌, ap, subst}
use mathlib.Core.Bool.{Bool, true, false, cond}
use mathlib.Core.List.{List, [], ◌∷◌, ◌++◌}
use Prim.Native.Nat.{ℕ, suc, ◌+◌, ◌<◌, ◌≤◌}
use native.Mathlib.Nat.{add-zero, zero-add}
use native.Mathlib.Numerals.{add-one}
use native.Mathlib.Omega.{arith}
use lib.ListN.{length, get_or, take, drop, set, length-set, length-append, drop_of_length-le}
use lib.Seq.{drop-cons, sets, sets-eq, take-append_seam}
use lib.Dec.{ltb}
use borrow.Author.Tests.{lt-ltb}
use Rattle.wire.specs.Room.{InRoom, text_in}
use Rattle.std.specs.Prelude.{Result}
use Rattle.wire.specs.declared.Reason.{Reason}
use Rattle.wire.specs.Text.{Page, page, typed, typed_all, Types, page_of, text_of, Puts}
use Rattle.wire.specs.declared.Text.{Text}

-- a text in two parts
pub typed-append : (p : Page) (a b : List ℕ) → typed_all p (a ++ b) ≡ typed_all (typed_all p a) b
unfolding typed_all
typed-append p [] b = refl
typed-append p (x ∷ a) b = typed-append (typed p x) a b

-- the part b typed where the part a has been typed
pub then : {p q r : Page} {a b : List ℕ} → Types p q a → Types q r b → Types p r (a ++ b)
then {p} {q} {r} {a} {b} x y = record { is = y.is ∙ ap (λ (o : Page). typed_all o b) x.is ∙ sym (typed-append p a b) }

-- and likewise into the room of a text
pub puts-then : {t u v : Text} {a b : List ℕ} → Puts t u a → Puts u v b → Puts t v (a ++ b)
puts-then x y = record { types = then x.types y.types; same_room = y.same_room ∙ x.same_room }

-- the same text by another name
pub types : {p q : Page} {a b : List ℕ} → a ≡ b → Types p q a → Types p q b
types {p} {q} e x = record { is = x.is ∙ ap (typed_all p) e }

pub puts : {t u : Text} {a b : List ℕ} → a ≡ b → Puts t u a → Puts t u b
puts e x = record { types = types e x.types; same_room = x.same_room }

-- where a loop stands: typing what is left is typing all of it from the start
pub record Left (start now : Text) (all rest : List ℕ) : Type 0 where
  pub left : typed_all (page_of now) rest ≡ typed_all (page_of start) all
  pub same_room : now.room.ghost_name ≡ start.room.ghost_name

-- a turn of a loop that types s, and its end
pub typed-turn : {p q : Page} (s : List ℕ) (i : ℕ) → i < length s → Types p q (get_or s i 0 ∷ []) → typed_all q (drop (i + 1) s) ≡ typed_all p (drop i s)
unfolding typed_all
typed-turn s i h x = rw (x.is, add-one, drop-cons s i 0)

pub typed-end : (p : Page) (s : List ℕ) (i : ℕ) → length s ≤ i → typed_all p (drop i s) ≡ p
unfolding typed_all
typed-end p s i h = rw (drop_of_length-le s h)

typed-sets : (s l : List ℕ) (at : ℕ) → at + length s ≤ length l → typed_all (page l at) s ≡ page (sets l at s) (at + length s)
unfolding typed_all typed
typed-sets [] l at h = rw add-zero
typed-sets (x ∷ s) l at h =
    let fits : at < length l = omega arith in
    let room : at + 1 + length s ≤ length (set l at x) = simp length-set (omega arith) in
    let e : at + 1 + length s ≡ at + suc (length s) = omega arith in
    rw (lt-ltb at (length l) fits) (typed-sets s (set l at x) (at + 1) room ∙ rw (e, add-one))

-- a text that fits, typed from the front
pub typed-whole : (s l : List ℕ) → length s ≤ length l → typed_all (page l 0) s ≡ page (s ++ drop (length s) l) (length s)
typed-whole s l h =
    let fits : 0 + length s ≤ length l = omega arith in
    typed-sets s l 0 fits ∙ rw (sets-eq s l 0 fits, zero-add)

-- what was typed is the text, and the next place is its length
pub record Holds (l : List ℕ) (n : ℕ) (s : List ℕ) : Type 0 where
  pub long : n ≡ length s
  pub text : take n l ≡ s
  pub fits : n ≤ length l

pub holds : {s l m : List ℕ} {n : ℕ} → length s ≤ length l → Types (page l 0) (page m n) s → Holds m n s
holds {s} {l} {m} {n} h x =
    let w : page m n ≡ page (s ++ drop (length s) l) (length s) = x.is ∙ typed-whole s l h in
    let long : n ≡ length s = ap (λ (p : Page). p.at) w in
    let all : length m ≡ length s + length (drop (length s) l) = ap (λ (p : Page). length p.bytes) w ∙ length-append s (drop (length s) l) in
    record {
      long = long;
      fits = omega arith;
      text = ap (λ (p : Page). take p.at p.bytes) w ∙ take-append_seam s (drop (length s) l);
    }

-- a text that was typed to one side, and then written into the room
pub written : {s l room after : List ℕ} {n : ℕ} {r : Result ℕ Reason} → Holds l n s → InRoom (text_in (take n l) room) (take n l) room r after → InRoom (text_in s room) s room r after
written {s} {l} {room} {after} {n} {r} h w = subst (λ (t : List ℕ). InRoom (text_in t room) t room r after) h.text w

-- a text that was typed to one side, where it fits, and then written into the room
pub into_room :
    {s side room after : List ℕ} {start whole : Text} {r : Result ℕ Reason} → length s ≤ length side → page_of start ≡ page side 0 → Puts start whole s
    → InRoom (text_in (text_of whole) room) (text_of whole) room r after → InRoom (text_in s room) s room r after
into_room {s} {whole = whole} h new put w = written (holds h (subst (λ (p : Page). Types p (page_of whole) s) new put.types)) w

-- what the room holds that was lent to a text: n bytes are typed
pub lent_back :
    {s room x : List ℕ} {n g : ℕ} {start whole : Text} → page_of start ≡ page room 0 → Puts start whole s → start.room.ghost_name ≡ g → n ≡ whole.len
    → (g ≡ whole.room.ghost_name → x ≡ whole.room.now) → Types (page room 0) (page x n) s
lent_back {s} new put at long back =
    let same = back (sym (put.same_room ∙ at)) in
    record { is = (λ i. page (same i) (long i)) ∙ put.types.is ∙ ap (λ (p : Page). typed_all p s) new }

-- typing keeps the room's length
one_kept : (p : Page) (b : ℕ) → length (typed p b).bytes ≡ length p.bytes
unfolding typed
one_kept p b = go (ltb p.at (length p.bytes))
  where
    go : (t : Bool) → length (cond t (page (set p.bytes p.at b) (p.at + 1)) p).bytes ≡ length p.bytes
    go true = length-set p.bytes p.at b
    go false = refl

all-kept : (p : Page) (s : List ℕ) → length (typed_all p s).bytes ≡ length p.bytes
unfolding typed_all
all-kept p [] = refl
all-kept p (b ∷ s) = all-kept (typed p b) s ∙ one_kept p b

-- after a text is typed the room is as long as before
pub kept : {p q : Page} {s : List ℕ} → Types p q s → length q.bytes ≡ length p.bytes
kept {p} {q} {s} t = ap (λ (o : Page). length o.bytes) t.is ∙ all-kept p s
