-- A direction laid, over any list of uses whose entries stand together, from entries of no weight: translating names what laying the uses names, each at the
-- address at which its entry holds it. And the other direction laid beside it, which nothing of this one can see.
-- Assumes nothing.
use mathlib.Core.Path.{◌≡◌, refl, sym, ◌∙◌, ap, subst}
use mathlib.Core.Bool.{Bool, true, false}
use mathlib.Core.List.{List, [], ◌∷◌, map}
use mathlib.Core.Logic.{◌↔◌, ◌⊎◌, inl, inr, ⊎_elim}
use Prim.Native.Nat.{ℕ, ◌+◌, ◌-◌, ◌^◌, ◌≤◌, ◌<◌}
use native.Mathlib.Omega.{arith}
use lib.Dec.{ltb}
use lib.ListN.{length, get_or, set, length-set, get_or-map}
use lib.Seq.{get_or-set_same, get_or-set_other, map-set_same}
use borrow.Author.Tests.{ltb-true, ltb-false, eq-eqb, ne_eqb}
use Rattle.fmmu.specs.Image.{fields_of, image_of}
use Rattle.wire.specs.Lists.{Each, some_of}
use Rattle.wire.proofs.Lists.{or-none, none_of, each_both, at_none}
use Rattle.pdo.specs.declared.PdoDirection.{PdoDirection}
use Rattle.pdo.specs.Direction.{other}
use Rattle.passes.specs.Use.{Use, total, total_on}
use Rattle.passes.specs.declared.OldEntries.TheVariants.{Clear}
use Rattle.passes.specs.Old.{cleared_of_both, beginning, both_bits, some_enabled, in_the_way}
use Rattle.passes.specs.Entries.{laid, plan, length_now}
use Rattle.translation.specs.Translate.{named, carries, says, odd, first_said, or_none}
use Rattle.agreement.specs.Agreement.{EndToEnd}
use Rattle.translation.proofs.Lies.{inside, behind}
use Rattle.passes.proofs.Kept.{plan-length}
use Rattle.agreement.proofs.Basics.{either, same_or_not, each_map, each_of, first-none, first-new, none-at, some-map}
use Rattle.agreement.proofs.Straight.{lay, Fresh, Next, Grouped, linked, Apart, Lays, fresh-16, reach, go_on, lay-before, straight-same, same-straight, straight-iff}
use Rattle.passes.proofs.Cleared.{Off, nil-off, cleared_at, begun-length}
use Rattle.agreement.proofs.Step.{Silent, Stand, Good, silent, stands, good-on, good-odd, good-says, says-silent, odd-silent, Stepped, step-off, step-on, silent-laid}
use Rattle.agreement.proofs.Clean.{cleared-silent}

-- what a use makes of its entry, and the area after it
abbrev pub made : PdoDirection → ℕ → Use → List (List ℕ) → List ℕ
made r q u area = image_of (laid r q u (fields_of (get_or area u.entry [])))

abbrev pub after : PdoDirection → ℕ → Use → List (List ℕ) → List (List ℕ)
after r q u area = set area u.entry (made r q u area)

-- each entry of the uses is an entry of the area
abbrev pub Placed : List Use → List (List ℕ) → Type 0
Placed us area = Each (λ (v : Use). v.entry < length area) us

pub placed-after : (r : PdoDirection) (q : ℕ) (u : Use) (us : List Use) (area : List (List ℕ)) → Placed us area → Placed us (after r q u area)
placed-after r q u us area p = subst (λ (n : ℕ). Each (λ (v : Use). v.entry < n) us) (sym (length-set area u.entry (made r q u area))) p

-- where laying stands: at the offset q, the last entry c going on at x, the uses `us` still to come
pub record Stage (r : PdoDirection) (q c x : ℕ) (us : List Use) (area : List (List ℕ)) : Type 0 where
  pub good : (k : ℕ) → Good r q (get_or area k [])
  pub link : Fresh c us ⊎ (Next c us × Stand r q x (get_or area c []))
  pub off : Each (λ (v : Use). (v.entry ≡ c → ⊥) → Off (get_or area v.entry [])) us
  pub room : Each (λ (v : Use). length_now (get_or area v.entry []) + total_on v.entry us ≤ 65535) us
  pub ends : q + total us < 2 ^ 32
  pub grouped : Grouped us
  pub places : Placed us area
  pub addresses : Each (λ (v : Use). v.at < 65536) us

module _ (r : PdoDirection) (q c x : ℕ) (u : Use) (us : List Use) (area : List (List ℕ)) (t : Stage r q c x (u ∷ us) area) where
  own-share : total_on u.entry (u ∷ us) ≡ u.size + total_on u.entry us
  unfolding total_on
  own-share = rw (eq-eqb u.entry u.entry refl) refl

  low : q + u.size + total us < 2 ^ 32
  unfolding total
  low = let m = t.ends in omega arith

  pub stepped : Stepped r q u (reach c x u) (get_or area u.entry []) (made r q u area)
  stepped = ⊎_elim begins goes_on t.link
    where
      fit : length_now (get_or area u.entry []) + u.size ≤ 65535
      fit = let m = t.room.0 in let i = own-share in omega arith

      begins : Fresh c (u ∷ us) → Stepped r q u (reach c x u) (get_or area u.entry []) (made r q u area)
      begins f =
          let y : reach c x u ≡ u.at = rw (ne_eqb u.entry c f.0) refl in
          let m = fit in
          let n = low in
          rw y (step-off r q u (get_or area u.entry []) (t.off.0 f.0) (omega arith) (omega arith) t.addresses.0)

      goes_on : Next c (u ∷ us) × Stand r q x (get_or area c []) → Stepped r q u (reach c x u) (get_or area u.entry []) (made r q u area)
      goes_on n =
          let y : reach c x u ≡ x = rw (eq-eqb u.entry c n.0.0) refl in
          let s : Stand r q x (get_or area u.entry []) = subst (λ (k : ℕ). Stand r q x (get_or area k [])) (sym n.0.0) n.1 in
          let l = low in
          rw y (step-on r q x u (get_or area u.entry []) s (omega arith) fit)

  at_same : get_or (after r q u area) u.entry [] ≡ made r q u area
  at_same = get_or-set_same area u.entry (made r q u area) [] t.places.0

  at_other : (k : ℕ) → (k ≡ u.entry → ⊥) → get_or (after r q u area) k [] ≡ get_or area k []
  at_other k h = get_or-set_other area u.entry k (made r q u area) [] h

  -- a fact of every entry, given of the new one and of each old one
  at_each : (P : ℕ → List ℕ → Type 0) → P u.entry (made r q u area) → ((k : ℕ) → (k ≡ u.entry → ⊥) → P k (get_or area k []))
      → (k : ℕ) → P k (get_or (after r q u area) k [])
  at_each P new old k =
      ⊎_elim
      (λ h. subst (λ (j : ℕ). P j (get_or (after r q u area) j [])) (sym h) (subst (P u.entry) (sym at_same) new))
      (λ h. subst (P k) (sym (at_other k h)) (old k h))
      (same_or_not k u.entry)

  -- an entry still to come is disabled: it isn't c's, or it is u's own
  off_next : Each (λ (v : Use). (v.entry ≡ u.entry → ⊥) → Off (get_or (after r q u area) v.entry [])) us
  off_next =
      ⊎_elim
      (λ f.
      each_both
      (λ (v : Use). v.entry ≡ c → ⊥)
      (λ (v : Use). (v.entry ≡ c → ⊥) → Off (get_or area v.entry []))
      (λ (v : Use). (v.entry ≡ u.entry → ⊥) → Off (get_or (after r q u area) v.entry []))
      (λ v g o h. subst Off (sym (at_other v.entry h)) (o g))
      us f.1 t.off.1)
      (λ n.
      each_map
      (λ (v : Use). (v.entry ≡ c → ⊥) → Off (get_or area v.entry []))
      (λ (v : Use). (v.entry ≡ u.entry → ⊥) → Off (get_or (after r q u area) v.entry []))
      (λ v o h. subst Off (sym (at_other v.entry h)) (o (λ z. h (z ∙ sym n.0.0))))
      us t.off.1)
      t.link

  room_next : Each (λ (v : Use). length_now (get_or (after r q u area) v.entry []) + total_on v.entry us ≤ 65535) us
  unfolding total_on
  room_next =
      each_map
      (λ (v : Use). length_now (get_or area v.entry []) + total_on v.entry (u ∷ us) ≤ 65535)
      (λ (v : Use). length_now (get_or (after r q u area) v.entry []) + total_on v.entry us ≤ 65535)
      (λ v.
      at_each
      (λ k e. length_now (get_or area k []) + total_on k (u ∷ us) ≤ 65535 → length_now e + total_on k us ≤ 65535)
      (λ m. let i = own-share in let l = stepped.long in omega arith)
      (λ k h m. omega arith)
      v.entry)
      us t.room.1

  pub next : Stage r (q + u.size) u.entry (reach c x u + u.size) us (after r q u area)
  next =
      record {
        good =
            at_each
            (λ k e. Good r (q + u.size) e)
            (stands (q + u.size) (reach c x u + u.size) (omega arith) stepped.stand)
            (λ k h. good-on r q (q + u.size) (get_or area k []) (omega arith) (t.good k));
        link =
            ⊎_elim
            (λ f. inl f)
            (λ n. inr (n, subst (Stand r (q + u.size) (reach c x u + u.size)) (sym at_same) stepped.stand))
            (linked u us t.grouped);
        off = off_next;
        room = room_next;
        ends = low;
        grouped = t.grouped.1;
        places = placed-after r q u us area t.places.1;
        addresses = t.addresses.1;
      }

-- below the offset laying changes no answer
planned_below : (r : PdoDirection) (q c x : ℕ) (us : List Use) (area : List (List ℕ)) → Stage r q c x us area → (a : ℕ) → a < q
    → map (says r a) (plan r q us area) ≡ map (says r a) area
unfolding plan
planned_below r q c x [] area t a h = refl
planned_below r q c x (u ∷ us) area t a h =
    planned_below r (q + u.size) u.entry (reach c x u + u.size) us (after r q u area) (next r q c x u us area t) a (omega arith)
    ∙ map-set_same (says r a) area u.entry _ [] ((stepped r q c x u us area t).below a h)

-- from the offset on it says what laying the uses says where they are held
planned-here : (r : PdoDirection) (q c x : ℕ) (us : List Use) (area : List (List ℕ)) → Stage r q c x us area → (a : ℕ) → q ≤ a
    → first_said (map (says r a) (plan r q us area)) ≡ lay q (go_on c x us) a
unfolding plan lay
planned-here r q c x [] area t a h = first-none (says r a) area [] (λ k. good-says r q a (get_or area k []) h (t.good k))
planned-here r q c x (u ∷ us) area t a h =
    go (either (ltb a (q + u.size))) (planned-here r (q + u.size) u.entry (reach c x u + u.size) us (after r q u area) (next r q c x u us area t) a)
  where
    go : (ltb a (q + u.size) ≡ true) ⊎ (ltb a (q + u.size) ≡ false)
        → (q + u.size ≤ a → first_said (map (says r a) (plan r (q + u.size) us (after r q u area))) ≡ lay (q + u.size) (go_on u.entry (reach c x u + u.size) us) a)
        → first_said (map (says r a) (plan r (q + u.size) us (after r q u area))) ≡ lay q (go_on c x (u ∷ us)) a
    go (inl f) i =
        let g = ltb-true a (q + u.size) f in
        ap first_said (planned_below r (q + u.size) u.entry (reach c x u + u.size) us (after r q u area) (next r q c x u us area t) a g)
        ∙ first-new (named (reach c x u + (a - q))) (says r a) area [] u.entry _ t.places.0
        (λ k. good-says r q a (get_or area k []) h (t.good k))
        ((stepped r q c x u us area t).here a h g)
        ∙ rw (inside q u.size a h g) refl
    go (inr f) i = let g = ltb-false a (q + u.size) f in i g ∙ rw (behind q u.size a g) refl

planned-good : (r : PdoDirection) (q c x : ℕ) (us : List Use) (area : List (List ℕ)) → Stage r q c x us area → (k : ℕ) → Good r (q + total us) (get_or (plan r q us area) k [])
unfolding plan total
planned-good r q c x [] area t k = good-on r q (q + 0) (get_or area k []) (omega arith) (t.good k)
planned-good r q c x (u ∷ us) area t k =
    good-on r (q + u.size + total us) (q + (u.size + total us)) _ (omega arith)
    (planned-good r (q + u.size) u.entry (reach c x u + u.size) us (after r q u area) (next r q c x u us area t) k)

-- what a direction may begin with: no entry has weight for it, those that it uses are disabled
pub record Start (r : PdoDirection) (us : List Use) (area : List (List ℕ)) : Type 0 where
  pub sixteen : length area ≡ 16
  pub silents : (k : ℕ) → Silent r (get_or area k [])
  pub off : Each (λ (v : Use). Off (get_or area v.entry [])) us

-- by default a direction may begin on any sixteen entries with the old ones cleared, where 15 isn't given
pub clean-start : (r : PdoDirection) (us : List Use) (area : List (List ℕ)) → length area ≡ 16 → in_the_way Clear us area ≡ false → Start r us (beginning Clear area)
unfolding in_the_way
clean-start r us area long h =
    let n = or-none (some_of both_bits area) (some_enabled us (map cleared_of_both area)) h in
    record {
      sixteen = begun-length Clear area ∙ long;
      silents = λ k. subst (Silent r) (sym (cleared_at area k)) (cleared-silent r (get_or area k []) (at_none both_bits area [] (rw nil-off refl) n.0 k));
      off =
          none_of
          (λ (u : Use). (fields_of (get_or (map cleared_of_both area) u.entry [])).enable)
          (λ (u : Use). Off (get_or (map cleared_of_both area) u.entry []))
          (λ u e. e) us n.1;
    }

start-stage : (r : PdoDirection) (q : ℕ) (us : List Use) (area : List (List ℕ)) → Lays q us → Start r us area → Stage r q 16 0 us area
start-stage r q us area l t =
    record {
      good = λ k. silent (t.silents k);
      link = inl (fresh-16 us l.places);
      off = each_map (λ (v : Use). Off (get_or area v.entry [])) (λ (v : Use). (v.entry ≡ 16 → ⊥) → Off (get_or area v.entry [])) (λ v o h. o) us t.off;
      room =
          each_both
          (λ (v : Use). Off (get_or area v.entry []))
          (λ (v : Use). total_on v.entry us ≤ 65535)
          (λ (v : Use). length_now (get_or area v.entry []) + total_on v.entry us ≤ 65535)
          (λ v o m. rw o (omega arith))
          us t.off l.room;
      ends = l.ends;
      grouped = l.grouped;
      places = subst (λ (n : ℕ). Each (λ (v : Use). v.entry < n) us) (sym t.sixteen) l.places;
      addresses = l.addresses;
    }

-- the general law: through the entries that laying leaves, what is said first is what laying the uses says where they are held
pub said : (r : PdoDirection) (q : ℕ) (us : List Use) (area : List (List ℕ)) → Lays q us → Start r us area → (a : ℕ)
    → first_said (map (says r a) (plan r q us area)) ≡ lay q (go_on 16 0 us) a
said r q us area l t a = ⊎_elim under (λ f. planned-here r q 16 0 us area (start-stage r q us area l t) a (ltb-false a q f)) (either (ltb a q))
  where
    under : ltb a q ≡ true → first_said (map (says r a) (plan r q us area)) ≡ lay q (go_on 16 0 us) a
    under f =
        let g = ltb-true a q f in
        ap first_said (planned_below r q 16 0 us area (start-stage r q us area l t) a g)
        ∙ first-none (says r a) area [] (λ k. says-silent r a (get_or area k []) (t.silents k))
        ∙ sym (lay-before q a (go_on 16 0 us) g)

-- and no entry of the direction is other than bits 0, 7, 0
pub none-odd : (r : PdoDirection) (q : ℕ) (us : List Use) (area : List (List ℕ)) → Lays q us → Start r us area → some_of (odd r) (plan r q us area) ≡ false
none-odd r q us area l t =
    none-at (odd r) (plan r q us area) [] (λ k. good-odd r (q + total us) _ (planned-good r q 16 0 us area (start-stage r q us area l t) k))

-- over any uses: translating is counting exactly if they lie end to end
pub agree-iff : (r : PdoDirection) (q : ℕ) (us : List Use) (area : List (List ℕ)) → Lays q us → Start r us area
    → ((a : ℕ) → a < 2 ^ 32 → or_none (first_said (map (says r a) (plan r q us area))) ≡ or_none (lay q us a)) ↔ EndToEnd us
agree-iff r q us area l t =
    let i = straight-iff us l.places l.grouped in (
      λ h. i.0 (same-straight 16 0 q us l.addresses l.ends (λ a g. sym (h a g) ∙ ap or_none (said r q us area l t a))),
      λ e a g. ap or_none (said r q us area l t a ∙ sym (straight-same 16 0 q a us (i.1 e))),
    )

-- an entry on which no use is stays as it was
pub plan-leaves : (r : PdoDirection) (q : ℕ) (us : List Use) (area : List (List ℕ)) (k : ℕ) → Fresh k us → get_or (plan r q us area) k [] ≡ get_or area k []
unfolding plan
plan-leaves r q [] area k f = refl
plan-leaves r q (u ∷ us) area k f =
    plan-leaves r (q + u.size) us (after r q u area) k f.1 ∙ get_or-set_other area u.entry k _ [] (λ z. f.0 (sym z))

-- the other direction laid over entries of no weight: whatever looks alike on such entries looks as before
pub unseen : {B : Type 0} (r : PdoDirection) (f : List ℕ → B) → ((e e' : List ℕ) → Silent r e → Silent r e' → f e ≡ f e')
    → (q : ℕ) (us : List Use) (area : List (List ℕ)) → Each (λ (v : Use). Silent r (get_or area v.entry [])) us → Placed us area
    → map f (plan (other r) q us area) ≡ map f area
unfolding plan
unseen r f alike q [] area s p = refl
unseen r f alike q (u ∷ us) area s p =
    unseen r f alike (q + u.size) us (after (other r) q u area)
    (each_map (λ (v : Use). Silent r (get_or area v.entry [])) (λ (v : Use). Silent r (get_or (after (other r) q u area) v.entry [])) still us s.1)
    (placed-after (other r) q u us area p.1)
    ∙ map-set_same f area u.entry _ [] (alike _ _ new s.0)
  where
    new : Silent r (made (other r) q u area)
    new = silent-laid r q u (get_or area u.entry []) s.0

    still : (v : Use) → Silent r (get_or area v.entry []) → Silent r (get_or (after (other r) q u area) v.entry [])
    still v t =
        ⊎_elim
        (λ h. subst (λ (j : ℕ). Silent r (get_or (after (other r) q u area) j [])) (sym h) (subst (Silent r) (sym (get_or-set_same area u.entry _ [] p.0)) new))
        (λ h. subst (Silent r) (sym (get_or-set_other area u.entry v.entry _ [] h)) t)
        (same_or_not v.entry u.entry)

-- what translation sees of entries: what each says, and whether one is odd
pub record Alike (r : PdoDirection) (area area' : List (List ℕ)) : Type 0 where
  pub says_same : (a : ℕ) → map (says r a) area ≡ map (says r a) area'
  pub odd_same : some_of (odd r) area ≡ some_of (odd r) area'

-- the other direction laid on other entries, after this one: it isn't seen
module _ (r : PdoDirection) (q p : ℕ) (us vs : List Use) (area : List (List ℕ)) (t : Start r us area) (away : Apart vs us) (places : Each (λ (v : Use). v.entry < 16) vs) where
  abbrev left : List (List ℕ)
  left = plan r q us area

  silents : Each (λ (v : Use). Silent r (get_or left v.entry [])) vs
  silents =
      each_map (λ (v : Use). Fresh v.entry us) (λ (v : Use). Silent r (get_or left v.entry []))
      (λ v h. subst (Silent r) (sym (plan-leaves r q us area v.entry h)) (t.silents v.entry))
      vs away

  placed : Placed vs left
  placed = subst (λ (n : ℕ). Each (λ (v : Use). v.entry < n) vs) (sym (plan-length r q us area ∙ t.sixteen)) places

  pub other_after : Alike r (plan (other r) p vs (plan r q us area)) (plan r q us area)
  other_after =
      record {
        says_same = λ a. unseen r (says r a) (λ e e' h g. says-silent r a e h ∙ sym (says-silent r a e' g)) p vs left silents placed;
        odd_same = some-map (odd r) (plan (other r) p vs left) left (unseen r (odd r) (λ e e' h g. odd-silent r e h ∙ sym (odd-silent r e' g)) p vs left silents placed);
      }

-- and before this one
module _ (r : PdoDirection) (p : ℕ) (vs : List Use) (area : List (List ℕ)) (sixteen : length area ≡ 16) (places : Each (λ (v : Use). v.entry < 16) vs) where
  -- no entry has got weight for this direction
  pub other-silents : ((k : ℕ) → Silent r (get_or area k [])) → (k : ℕ) → Silent r (get_or (plan (other r) p vs area) k [])
  other-silents silents k =
      sym (get_or-map f (plan (other r) p vs area) k []) ∙ ap (λ (l : List Bool). get_or l k (f [])) same ∙ get_or-map f area k [] ∙ silents k
    where
      f : List ℕ → Bool
      f e = carries r (fields_of e)

      same : map f (plan (other r) p vs area) ≡ map f area
      same =
          unseen r f (λ e e' h g. h ∙ sym g) p vs area
          (each_of (λ (v : Use). Silent r (get_or area v.entry [])) (λ v. silents v.entry) vs)
          (subst (λ (n : ℕ). Each (λ (v : Use). v.entry < n) vs) (sym sixteen) places)

  -- so this one may begin as before
  pub other-before : (us : List Use) → Start r us area → Apart us vs → Start r us (plan (other r) p vs area)
  other-before us t away =
      record {
        sixteen = plan-length (other r) p vs area ∙ sixteen;
        silents = other-silents t.silents;
        off =
            each_both
            (λ (u : Use). Fresh u.entry vs)
            (λ (u : Use). Off (get_or area u.entry []))
            (λ (u : Use). Off (get_or (plan (other r) p vs area) u.entry []))
            (λ u f o. subst Off (sym (plan-leaves (other r) p vs area u.entry f)) o)
            us away t.off;
      }
