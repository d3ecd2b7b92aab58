-- Wrong planners on nonempty data: a call that writes nothing, one that clears alone, one that lays one direction and pretends in the other, one that invents its
-- sizes. Over the bytes that each leaves, translating and counting disagree. Where the direction's sync managers lie end to end that contradicts demand 3
-- (`contradicts`); where they don't, demand 3 has the two disagree anyhow, and it is the call's own promise that such a planner breaks.
-- Assumes nothing.
use mathlib.Core.Path.{◌≡◌, refl, sym, ◌∙◌, ap, subst}
use mathlib.Core.Bool.{true, false}
use mathlib.Core.List.{List, [], ◌∷◌}
use mathlib.Core.Logic.{◌⊎◌, inl, inr, ◌↔◌}
use mathlib.Core.Option.{none, some}
use Prim.Native.Nat.{ℕ, ◌+◌, ◌-◌, ◌^◌, ◌≤◌, ◌<◌}
use native.Mathlib.Omega.{arith}
use lib.Dec.{ltb}
use lib.ListN.{length, get_or}
use borrow.Author.Tests.{ltb-true, ltb-false, le-leb, eq-eqb}
use Rattle.wire.specs.Image.{Bytes}
use Rattle.wire.specs.Outcome.{accepted}
use Rattle.wire.specs.Lists.{Each}
use Rattle.sheet.specs.Sheet.{sheet_data}
use Rattle.pdo.specs.declared.PdoDirection.{PdoDirection}
use Rattle.pdo.specs.Direction.{other}
use Rattle.passes.specs.Use.{Use, total, size_of}
use Rattle.area.specs.Area.{entries_of, flat}
use Rattle.passes.specs.declared.OldEntries.{OldEntries}
use Rattle.passes.specs.declared.OldEntries.TheVariants as old
use Rattle.passes.specs.Old.{in_the_way}
use Rattle.passes.specs.Entries.{plan}
use Rattle.translation.specs.Translate.{says, odd, or_none, translate}
use Rattle.agreement.specs.Agreement.{EveryDisabled, Needs, Lent, weights, choice, Accepted, EndToEnd, laid_by, started_at, Agree, InReach}
use Rattle.agreement.specs.Clean.{zeroed}
use Rattle.translation.proofs.Lies.{inside, behind}
use Rattle.area.proofs.Flat.{length-chunks, sixteen-of, flat-bytes, flat-entries}
use Rattle.passes.proofs.Pieces.{uses-total}
use Rattle.passes.proofs.Kept.{sixteen-planned}
use Rattle.passes.proofs.Cleared.{sixteen-begun}
use Rattle.agreement.proofs.Basics.{either, first-none, none-at, never-none}
use Rattle.agreement.proofs.Straight.{lay, Lays, go_on, go_on-total, lay-behind}
use Rattle.agreement.proofs.Step.{Silent, off-silent, says-silent, odd-silent}
use Rattle.agreement.proofs.Run.{clean-start, said, none-odd, other-silents}
use Rattle.agreement.proofs.AsKeeping.{zeroed-long, zeroed-entries}
use Rattle.agreement.proofs.Demand3.{own_by, range_size, laid_by_both, begun, Facts, facts, lays, counted-own, counted-lay, begun-start, disabled-off, disabled-start}

-- end to end, bytes on which the two disagree are none of which demand 3 holds
pub contradicts : (sheet : List ℕ) (r : PdoDirection) (l : Lent) (area : List ℕ) → EndToEnd (laid_by sheet r l)
    → (Agree sheet r l area → ⊥) → (Agree sheet r l area ↔ EndToEnd (laid_by sheet r l)) → ⊥
contradicts sheet r l area straight disagree demanded = disagree (demanded.1 straight)

-- an address of the range at which laying names a device address
record Found (q : ℕ) (us : List Use) : Type 0 where
  at : ℕ
  there : (q ≤ at) × (at < q + total us)
  device : ℕ
  is : or_none (lay q us at) ≡ some device

module _ (q : ℕ) (u : Use) (us : List Use) where
  found_here : (n : ℕ) → n < u.size → u.at + n ≤ 65535 → Found q (u ∷ us)
  unfolding lay total
  found_here n h g =
      let e : q + n - q ≡ n = omega arith in
      record {
        at = q + n;
        there = (omega arith, omega arith);
        device = u.at + n;
        is = rw (inside q u.size (q + n) (omega arith) (omega arith), e, le-leb (u.at + n) 65535 g) refl;
      }

  found-later : Found (q + u.size) us → Found q (u ∷ us)
  unfolding lay total
  found-later f =
      let t = f.there in
      record { at = f.at; there = (omega arith, omega arith); device = f.device; is = rw (behind q u.size f.at f.there.0) f.is }

found_first : (q : ℕ) (us : List Use) → Each (λ (u : Use). u.at < 65536) us → 0 < total us → Found q us
unfolding total
found_first q [] b h = absurd (omega arith)
found_first q (u ∷ us) b h = go (either (ltb 0 u.size)) (found_first (q + u.size) us b.1)
  where
    go : (ltb 0 u.size ≡ true) ⊎ (ltb 0 u.size ≡ false) → (0 < total us → Found (q + u.size) us) → Found q (u ∷ us)
    go (inl e) i = let l = b.0 in found_here q u us 0 (ltb-true 0 u.size e) (omega arith)
    go (inr e) i = let l = ltb-false 0 u.size e in found-later q u us (i (omega arith))

abbrev InReachOf : List Use → Type 0
InReachOf us = Each (λ (u : Use). 0 < u.size → u.at + u.size ≤ 65536) us

found-last : (q : ℕ) (us : List Use) → InReachOf us → 0 < total us → (f : Found q us) × (f.at + 1 ≡ q + total us)
unfolding total found_here found-later
found-last q [] b h = absurd (omega arith)
found-last q (u ∷ us) b h = go (either (ltb 0 (total us))) (found-last (q + u.size) us b.1)
  where
    go : (ltb 0 (total us) ≡ true) ⊎ (ltb 0 (total us) ≡ false) → (0 < total us → (f : Found (q + u.size) us) × (f.at + 1 ≡ q + u.size + total us))
        → (f : Found q (u ∷ us)) × (f.at + 1 ≡ q + (u.size + total us))
    go (inl e) i = let f = i (ltb-true 0 (total us) e) in let w = f.1 in (found-later q u us f.0, omega arith)
    go (inr e) i =
        let l = ltb-false 0 (total us) e in
        let c : u.at + u.size ≤ 65536 = b.0 (omega arith) in
        (found_here q u us (u.size - 1) (omega arith) (omega arith), omega arith)

-- entries of no weight for a direction name nothing: on nonempty data that isn't what counting names
module _ (sheet : List ℕ) (bytes : Bytes sheet) (r : PdoDirection) (l : Lent) (area after : List ℕ) (f : Facts sheet l area after) where
  silent-disagrees : (final : List ℕ) → length final ≡ 256 → ((k : ℕ) → Silent r (get_or (entries_of 16 final) k [])) → 0 < range_size sheet r l → Agree sheet r l final → ⊥
  unfolding translate
  silent-disagrees final long silents h agree =
      let q = started_at sheet r l in
      let z : total (laid_by sheet r l) ≡ range_size sheet r l = uses-total (sheet_data sheet) (weights sheet l) r l.settings.mode (choice l) in
      let y = lays sheet bytes l area after f r in
      let s = found_first q (laid_by sheet r l) y.addresses (omega arith) in
      let ends = y.ends in
      let there = s.there in
      let nothing : translate r final s.at ≡ accepted none =
      rw (
        eq-eqb (length final) 256 long,
        none-at (odd r) (entries_of 16 final) [] (λ k. odd-silent r _ (silents k)),
        first-none (says r s.at) (entries_of 16 final) [] (λ k. says-silent r s.at _ (silents k)),
      )
      refl in
      let e : accepted none ≡ accepted (or_none (lay q (laid_by sheet r l) s.at)) = sym nothing ∙ agree s.at (omega arith) ∙ counted-lay sheet bytes l area after f r s.at in
      let n : or_none (lay q (laid_by sheet r l) s.at) ≡ none = cc in
      never-none (sym s.is ∙ n)

-- a call that is accepted and writes nothing: they disagree over the area as it was
pub writes_nothing : (sheet : List ℕ) → Bytes sheet → (r : PdoDirection) (l : Lent) (area after : List ℕ) → Accepted sheet l area after
    → EveryDisabled area → 0 < range_size sheet r l → Agree sheet r l area → ⊥
writes_nothing sheet bytes r l area after p d =
    let f = facts sheet l area after p in
    silent-disagrees sheet bytes r l area after f area f.long (λ k. off-silent r _ (disabled-off area d k))

-- one that clears old entries, as the default asks, and lays nothing: over any area
pub clears-alone : (sheet : List ℕ) → Bytes sheet → (r : PdoDirection) (l : Lent) (area after : List ℕ) → Accepted sheet l area after
    → l.settings.old ≡ old.Clear → 0 < range_size sheet r l → Agree sheet r l (zeroed area) → ⊥
clears-alone sheet bytes r l area after p clean =
    let f = facts sheet l area after p in
    let free = subst (λ (o : OldEntries). in_the_way o (laid_by_both sheet l) (entries_of 16 area) ≡ false) clean f.free in
    let t = clean-start r (laid_by_both sheet l) (entries_of 16 area) (length-chunks 16 16 area) free in
    silent-disagrees sheet bytes r l area after f (zeroed area) (zeroed-long area f.long)
    (subst (λ (es : List (List ℕ)). (k : ℕ) → Silent r (get_or es k [])) (sym (zeroed-entries area f.long)) t.silents)

-- one that lays the other direction and pretends in this one: over what it begins with and the other's entries
pub pretends : (sheet : List ℕ) → Bytes sheet → (r : PdoDirection) (l : Lent) (area after : List ℕ) → Accepted sheet l area after
    → Needs l.settings.old area → 0 < range_size sheet r l
    → Agree sheet r l (flat (plan (other r) (started_at sheet (other r) l) (laid_by sheet (other r) l) (begun l area))) → ⊥
pretends sheet bytes r l area after p needs =
    let f = facts sheet l area after p in
    let t = begun-start sheet bytes l area after needs f r in
    let vs = laid_by sheet (other r) l in
    let es = plan (other r) (started_at sheet (other r) l) vs (begun l area) in
    let sixteen = sixteen-planned (other r) (started_at sheet (other r) l) vs (begun l area) (sixteen-begun l.settings.old (entries_of 16 area) (sixteen-of 16 area f.long)) in
    silent-disagrees sheet bytes r l area after f (flat es) (flat-bytes 16 16 es sixteen)
    (subst (λ (xs : List (List ℕ)). (k : ℕ) → Silent r (get_or xs k [])) (sym (flat-entries 16 es sixteen))
    (other-silents r (started_at sheet (other r) l) vs (begun l area) t.sixteen (lays sheet bytes l area after f (other r)).places t.silents))

-- sizes that add up to less differ at the last byte of the longer
last-byte-differs : (q : ℕ) (us vs : List Use) → InReachOf us → total vs < total us → q + total us < 2 ^ 32 → ((a : ℕ) → a < 2 ^ 32 → or_none (lay q us a) ≡ or_none (lay q vs a)) → ⊥
last-byte-differs q us vs b h e same =
    let f = found-last q us b (omega arith) in
    let w = f.1 in
    let y = same f.0.at (omega arith) in
    let z : lay q vs f.0.at ≡ none = lay-behind q f.0.at vs (omega arith) in
    never-none (sym f.0.is ∙ y ∙ ap or_none z)

-- one that lays invented sizes: any uses that could be laid there, but of another total
module _ (sheet : List ℕ) (bytes : Bytes sheet) (r : PdoDirection) (l : Lent) (area after : List ℕ)
    (p : Accepted sheet l area after) (d : EveryDisabled area) (vs : List Use) (y : Lays (started_at sheet r l) vs) where
  long : length area ≡ 256
  long = (facts sheet l area after p).long

  invented : Agree sheet r l (flat (plan r (started_at sheet r l) vs (entries_of 16 area)))
      → (a : ℕ) → a < 2 ^ 32 → or_none (lay (started_at sheet r l) (own_by sheet r l) a) ≡ or_none (lay (started_at sheet r l) (go_on 16 0 vs) a)
  unfolding translate
  invented agree a h =
      let es = plan r (started_at sheet r l) vs (entries_of 16 area) in
      let t = disabled-start r vs area d in
      let sixteen = sixteen-planned r (started_at sheet r l) vs (entries_of 16 area) (sixteen-of 16 area long) in
      let x : translate r (flat es) a ≡ accepted (or_none (lay (started_at sheet r l) (go_on 16 0 vs) a)) =
      rw (
        eq-eqb (length (flat es)) 256 (flat-bytes 16 16 es sixteen),
        flat-entries 16 es sixteen,
        none-odd r (started_at sheet r l) vs (entries_of 16 area) y t,
        said r (started_at sheet r l) vs (entries_of 16 area) y t a,
      )
      refl in
      let c = counted-own sheet bytes l area after (facts sheet l area after p) r a in
      let g = agree a h in
      cc

  pub invented-too-small : InReach sheet r l → total vs < range_size sheet r l → Agree sheet r l (flat (plan r (started_at sheet r l) vs (entries_of 16 area))) → ⊥
  unfolding size_of
  invented-too-small b h agree =
      let z = go_on-total 16 0 vs in
      let e = ltb-false 4294967295 (started_at sheet r l + range_size sheet r l) ((facts sheet l area after p).end r) in
      last-byte-differs (started_at sheet r l) (own_by sheet r l) (go_on 16 0 vs) b (omega arith) (omega arith) (invented agree)

  pub invented-too-large : InReachOf (go_on 16 0 vs) → range_size sheet r l < total vs → Agree sheet r l (flat (plan r (started_at sheet r l) vs (entries_of 16 area))) → ⊥
  unfolding size_of
  invented-too-large b h agree =
      let z = go_on-total 16 0 vs in
      let e = y.ends in
      last-byte-differs (started_at sheet r l) (go_on 16 0 vs) (own_by sheet r l) b (omega arith) (omega arith) (λ a g. sym (invented agree a g))
