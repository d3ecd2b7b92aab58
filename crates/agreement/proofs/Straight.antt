-- Lists of uses alone: an entry goes on where its last use ended, whatever address the next one has. That is what the sync managers have, at every
-- logical address, exactly if those that share an entry lie end to end.
-- Assumes nothing.
use mathlib.Core.Path.{◌≡◌, refl, sym, ◌∙◌, ap, subst}
use mathlib.Core.Bool.{true, false, cond, true≢false}
use mathlib.Core.List.{List, [], ◌∷◌}
use mathlib.Core.Logic.{◌↔◌, ◌⊎◌, inl, inr, ⊎_elim}
use mathlib.Core.Option.{Option, none, some}
use Prim.Native.Nat.{ℕ, ◌+◌, ◌-◌, ◌^◌, ◌≤◌, ◌<◌}
use native.Mathlib.Omega.{arith}
use lib.Dec.{eqb, ltb, leb}
use borrow.Author.Tests.{ltb-true, ltb-false, lt-ltb, le-leb, eq-eqb, ne_eqb}
use Rattle.wire.specs.Lists.{Each}
use Rattle.wire.proofs.Lists.{cond_same}
use Rattle.passes.specs.Use.{Use, total, total_on}
use Rattle.translation.specs.Translate.{within, named, or_none}
use Rattle.agreement.specs.Agreement.{sharing, Chained, EndToEnd}
use Rattle.translation.proofs.Lies.{inside, before, behind}
use Rattle.agreement.proofs.Basics.{where-is, either, same_or_not, each_map}

-- the sizes one after another from q: nothing outside; inside, the address plus the byte reached
unfoldable pub lay : ℕ → List Use → ℕ → Option (Option ℕ)
lay q [] a = none
lay q (u ∷ us) a = cond (within q u.size a) (some (named (u.at + (a - q)))) (lay (q + u.size) us a)

-- none is on the entry k; the first is, and is nonempty
abbrev pub Fresh : ℕ → List Use → Type 0
Fresh k us = Each (λ (u : Use). u.entry ≡ k → ⊥) us

abbrev pub Next : ℕ → List Use → Type 0
Next k [] = ⊥
Next k (u ∷ us) = (u.entry ≡ k) × (0 < u.size)

-- the uses of one entry stand together, and one that shares its entry is nonempty
abbrev pub Grouped : List Use → Type 0
Grouped [] = Unit {0}
Grouped (u ∷ us) = (Fresh u.entry us ⊎ ((0 < u.size) × Next u.entry us)) × Grouped us

pub linked : (u : Use) (us : List Use) → Grouped (u ∷ us) → Fresh u.entry us ⊎ Next u.entry us
linked u us g = ⊎_elim (λ f. inl f) (λ n. inr n.1) g.0

-- no use of the one is on an entry of the other
abbrev pub Apart : List Use → List Use → Type 0
Apart us vs = Each (λ (u : Use). Fresh u.entry vs) us

pub apart-flip : (us vs : List Use) → Apart us vs → Apart vs us
apart-flip us [] a = tt
apart-flip us (v ∷ vs) a = (
  each_map (λ (u : Use). Fresh u.entry (v ∷ vs)) (λ (u : Use). u.entry ≡ v.entry → ⊥) (λ u f z. f.0 (sym z)) us a,
  apart-flip us vs (each_map (λ (u : Use). Fresh u.entry (v ∷ vs)) (λ (u : Use). Fresh u.entry vs) (λ u f. f.1) us a),
)

-- what a list of uses must be, whatever area they are laid on, to be laid from q
pub record Lays (q : ℕ) (us : List Use) : Type 0 where
  pub grouped : Grouped us
  pub places : Each (λ (u : Use). u.entry < 16) us
  pub addresses : Each (λ (u : Use). u.at < 65536) us
  pub room : Each (λ (u : Use). total_on u.entry us ≤ 65535) us
  pub ends : q + total us < 2 ^ 32

pub fresh-16 : (us : List Use) → Each (λ (u : Use). u.entry < 16) us → Fresh 16 us
fresh-16 us p = each_map (λ (u : Use). u.entry < 16) (λ (u : Use). u.entry ≡ 16 → ⊥) (λ u h z. omega arith) us p

-- the address at which a use is held, where the entry c goes on at x: there, if it is on c, else its own
abbrev pub reach : ℕ → ℕ → Use → ℕ
reach c x u = cond (eqb u.entry c) x u.at

abbrev pub moved : ℕ → Use → Use
moved y u = record { entry = u.entry; size = u.size; at = y }

-- the uses, each at the address at which it is held
abbrev pub go_on : ℕ → ℕ → List Use → List Use
go_on c x [] = []
go_on c x (u ∷ us) = moved (reach c x u) u ∷ go_on u.entry (reach c x u + u.size) us

pub go_on-total : (c x : ℕ) (us : List Use) → total (go_on c x us) ≡ total us
unfolding total
go_on-total c x [] = refl
go_on-total c x (u ∷ us) = ap (λ (n : ℕ). u.size + n) (go_on-total u.entry (reach c x u + u.size) us)

-- each nonempty one is held at its own address
abbrev pub Straight : ℕ → ℕ → List Use → Type 0
Straight c x [] = Unit {0}
Straight c x (u ∷ us) = (0 < u.size → u.at ≡ reach c x u) × Straight u.entry (reach c x u + u.size) us

-- nothing below q, nothing from the end on, something between
pub lay-before : (q a : ℕ) (us : List Use) → a < q → lay q us a ≡ none
unfolding lay
lay-before q a [] h = refl
lay-before q a (u ∷ us) h = rw (before q u.size a h) (lay-before (q + u.size) a us (omega arith))

pub lay-behind : (q a : ℕ) (us : List Use) → q + total us ≤ a → lay q us a ≡ none
unfolding lay total
lay-behind q a [] h = refl
lay-behind q a (u ∷ us) h = rw (behind q u.size a (omega arith)) (lay-behind (q + u.size) a us (omega arith))

within-nonempty : (q n a : ℕ) → within q n a ≡ true → 0 < n
within-nonempty q n a e = ⊎_elim (λ h. out (before q n a h)) (⊎_elim (λ h. omega arith) (λ h. out (behind q n a h))) (where-is q n a)
  where
    out : within q n a ≡ false → 0 < n
    out f = absurd (true≢false (sym e ∙ f))

pub straight-same : (c x q a : ℕ) (us : List Use) → Straight c x us → lay q us a ≡ lay q (go_on c x us) a
unfolding lay
straight-same c x q a [] s = refl
straight-same c x q a (u ∷ us) s =
    let i = straight-same u.entry (reach c x u + u.size) (q + u.size) a us s.1 in
    cond_same (within q u.size a) (λ w. ap (λ (y : ℕ). some (named (y + (a - q)))) (s.0 (within-nonempty q u.size a w))) (λ w. i)

named-same : (m n : ℕ) → m ≤ 65535 → named m ≡ named n → m ≡ n
named-same m n h e = go (either (leb n 65535))
  where
    go : (leb n 65535 ≡ true) ⊎ (leb n 65535 ≡ false) → m ≡ n
    go (inl f) = let k : some m ≡ some n = rw (le-leb m 65535 h, f) at e in cc
    go (inr f) = let k : some m ≡ none = rw (le-leb m 65535 h, f) at e in cc

-- one address for each use decides: that of its first byte, which every sheet address names
pub same-straight : (c x q : ℕ) (us : List Use) → Each (λ (u : Use). u.at < 65536) us → q + total us < 2 ^ 32
    → ((a : ℕ) → a < 2 ^ 32 → or_none (lay q us a) ≡ or_none (lay q (go_on c x us) a)) → Straight c x us
unfolding lay total
same-straight c x q [] r t h = tt
same-straight c x q (u ∷ us) r t h = (head, same-straight u.entry (reach c x u + u.size) (q + u.size) us r.1 (omega arith) tail)
  where
    head : 0 < u.size → u.at ≡ reach c x u
    head p =
        let b : u.at < 65536 = r.0 in
        let w = inside q u.size q (omega arith) (omega arith) in
        let e : named (u.at + (q - q)) ≡ named (reach c x u + (q - q)) = rw w at (h q (omega arith)) in
        let f = named-same (u.at + (q - q)) (reach c x u + (q - q)) (omega arith) e in
        omega arith

    tail : (a : ℕ) → a < 2 ^ 32 → or_none (lay (q + u.size) us a) ≡ or_none (lay (q + u.size) (go_on u.entry (reach c x u + u.size) us) a)
    tail a l = go (either (ltb a (q + u.size)))
      where
        go : (ltb a (q + u.size) ≡ true) ⊎ (ltb a (q + u.size) ≡ false)
            → or_none (lay (q + u.size) us a) ≡ or_none (lay (q + u.size) (go_on u.entry (reach c x u + u.size) us) a)
        go (inl f) =
            let g = ltb-true a (q + u.size) f in
            rw (lay-before (q + u.size) a us g, lay-before (q + u.size) a (go_on u.entry (reach c x u + u.size) us) g) refl
        go (inr f) = rw (behind q u.size a (ltb-false a (q + u.size) f)) at (h a l)

-- the first of a list begins at x
abbrev pub Begins : ℕ → List Use → Type 0
Begins x [] = Unit {0}
Begins x (u ∷ us) = u.at ≡ x

-- where one ends, the next nonempty one on its entry begins: 'end to end' from the front of the list
abbrev pub Follows : List Use → Type 0
Follows [] = Unit {0}
Follows (u ∷ us) = (0 < u.size → Begins (u.at + u.size) (sharing u.entry us)) × Follows us

on-entry : (k : ℕ) (u : Use) (us : List Use) → 0 < u.size → u.entry ≡ k → sharing k (u ∷ us) ≡ u ∷ sharing k us
unfolding sharing
on-entry k u us p e = rw (lt-ltb 0 u.size p, eq-eqb u.entry k e) refl

off-entry : (k : ℕ) (u : Use) (us : List Use) → (0 < u.size → u.entry ≡ k → ⊥) → sharing k (u ∷ us) ≡ sharing k us
unfolding sharing
off-entry k u us n = go (either (ltb 0 u.size))
  where
    go : (ltb 0 u.size ≡ true) ⊎ (ltb 0 u.size ≡ false) → sharing k (u ∷ us) ≡ sharing k us
    go (inl e) = rw (e, ne_eqb u.entry k (n (ltb-true 0 u.size e))) refl
    go (inr e) = rw e refl

chain-cons : (u : Use) (us : List Use) → Chained (u ∷ us) ↔ (Begins (u.at + u.size) us × Chained us)
chain-cons u [] = (λ c. (tt, tt), λ c. tt)
chain-cons u (v ∷ us) = (λ c. c, λ c. c)

follows-cons : (u : Use) (us : List Use) → EndToEnd us ↔ Follows us → EndToEnd (u ∷ us) ↔ Follows (u ∷ us)
follows-cons u us i = (there, back)
  where
    there : EndToEnd (u ∷ us) → Follows (u ∷ us)
    there e = (
      λ p. ((chain-cons u (sharing u.entry us)).0 (subst Chained (on-entry u.entry u us p refl) (e u.entry))).0,
      i.0 (λ k. tail k (same_or_not u.entry k) (either (ltb 0 u.size))),
    )
      where
        tail : (k : ℕ) → (u.entry ≡ k) ⊎ (u.entry ≡ k → ⊥) → (ltb 0 u.size ≡ true) ⊎ (ltb 0 u.size ≡ false) → Chained (sharing k us)
        tail k (inl s) (inl p) = ((chain-cons u (sharing k us)).0 (subst Chained (on-entry k u us (ltb-true 0 u.size p) s) (e k))).1
        tail k (inl s) (inr p) = let h = ltb-false 0 u.size p in subst Chained (off-entry k u us (λ g z. omega arith)) (e k)
        tail k (inr s) p = subst Chained (off-entry k u us (λ g z. s z)) (e k)

    back : Follows (u ∷ us) → EndToEnd (u ∷ us)
    back f k = whole (same_or_not u.entry k) (either (ltb 0 u.size))
      where
        rest : Chained (sharing k us)
        rest = i.1 f.1 k

        whole : (u.entry ≡ k) ⊎ (u.entry ≡ k → ⊥) → (ltb 0 u.size ≡ true) ⊎ (ltb 0 u.size ≡ false) → Chained (sharing k (u ∷ us))
        whole (inl s) (inl p) =
            let h = ltb-true 0 u.size p in
            let b = subst (λ (j : ℕ). Begins (u.at + u.size) (sharing j us)) s (f.0 h) in
            subst Chained (sym (on-entry k u us h s)) ((chain-cons u (sharing k us)).1 (b, rest))
        whole (inl s) (inr p) = let h = ltb-false 0 u.size p in subst Chained (sym (off-entry k u us (λ g z. omega arith))) rest
        whole (inr s) p = subst Chained (sym (off-entry k u us (λ g z. s z))) rest

pub follows-iff : (us : List Use) → EndToEnd us ↔ Follows us
unfolding sharing
follows-iff [] = (λ e. tt, λ f k. tt)
follows-iff (u ∷ us) = follows-cons u us (follows-iff us)

-- an entry that no use is on is shared by none
fresh-none : (k : ℕ) (us : List Use) → Fresh k us → sharing k us ≡ []
unfolding sharing
fresh-none k [] f = refl
fresh-none k (u ∷ us) f = off-entry k u us (λ p z. f.0 z) ∙ fresh-none k us f.1

fresh-begins : (k x : ℕ) (us : List Use) → Fresh k us → Begins x (sharing k us)
fresh-begins k x us f = subst (Begins x) (sym (fresh-none k us f)) tt

abbrev Goal : ℕ → ℕ → List Use → Type 0
Goal c x us = Straight c x us ↔ (Begins x (sharing c us) × Follows us)

straight-follows : (c x : ℕ) (us : List Use) → Fresh c us ⊎ Next c us → Grouped us → Goal c x us
unfolding sharing
straight-follows c x [] l g = (λ s. (tt, tt), λ m. tt)
straight-follows c x (u ∷ us) l g = go l (λ y. straight-follows u.entry (y + u.size) us (linked u us g) g.1)
  where
    go : Fresh c (u ∷ us) ⊎ Next c (u ∷ us) → ((y : ℕ) → Goal u.entry (y + u.size) us) → Goal c x (u ∷ us)
    go (inl f) i =
        let e : reach c x u ≡ u.at = rw (ne_eqb u.entry c f.0) refl in
        subst
        (λ (y : ℕ). ((0 < u.size → u.at ≡ y) × Straight u.entry (y + u.size) us) ↔ (Begins x (sharing c (u ∷ us)) × Follows (u ∷ us)))
        (sym e) (
          λ s. let j = (i u.at).0 s.1 in (fresh-begins c x (u ∷ us) f, (λ p. j.0, j.1)),
          λ t. (λ p. refl, (i u.at).1 (⊎_elim (λ k. fresh-begins u.entry (u.at + u.size) us k) (λ n. t.1.0 n.0) g.0, t.1.1)),
        )
    go (inr n) i =
        let e : reach c x u ≡ x = rw (eq-eqb u.entry c n.0) refl in
        let m = on-entry c u us n.1 n.0 in
        subst
        (λ (y : ℕ). ((0 < u.size → u.at ≡ y) × Straight u.entry (y + u.size) us) ↔ (Begins x (sharing c (u ∷ us)) × Follows (u ∷ us)))
        (sym e) (
          λ s.
              let a = s.0 n.1 in
              let j = (i x).0 s.1 in
              (subst (Begins x) (sym m) a, (λ p. subst (λ (y : ℕ). Begins (y + u.size) (sharing u.entry us)) (sym a) j.0, j.1)),
          λ t.
              let a : u.at ≡ x = subst (Begins x) m t.0 in
              (λ p. a, (i x).1 (subst (λ (y : ℕ). Begins (y + u.size) (sharing u.entry us)) a (t.1.0 n.1), t.1.1)),
        )

-- from a c that is no entry: each is held at its own address exactly if those that share an entry lie end to end
pub straight-iff : (us : List Use) → Each (λ (u : Use). u.entry < 16) us → Grouped us → Straight 16 0 us ↔ EndToEnd us
straight-iff us p g =
    let f = fresh-16 us p in
    let i = straight-follows 16 0 us (inl f) g in
    let j = follows-iff us in
    (λ s. j.1 (i.0 s).1, λ e. i.1 (fresh-begins 16 0 us f, j.0 e))
