-- Uses laid one after another: what a turn keeps, where 8 is found, and what is there in the end.
-- Assumes nothing.
use mathlib.Core.Path.{◌≡◌, refl, sym, ◌∙◌, ap, subst}
use mathlib.Core.Bool.{Bool, true, false, cond}
use mathlib.Core.List.{List, [], ◌∷◌}
use Prim.Native.Nat.{ℕ, ◌+◌, ◌%◌}
use native.Mathlib.Nat.{add-zero, add_assoc}
use Rattle.wire.specs.Outcome.{Outcome, refused, accepted}
use Rattle.wire.proofs.Order.{never, passed-answer}
use Rattle.pdo.specs.declared.PdoDirection.{PdoDirection}
use Rattle.passes.specs.Use.{Use, total}
use Rattle.passes.specs.Entries.{with_use, plan}
use Rattle.passes.specs.Handed.{no_room, Short}
use Rattle.passes.proofs.Lengths.{too-long-none, too-long-first, short-after, too-long-rest}
use Rattle.entries.specs.Lay.{laid_one, Run, laid_all}
use Rattle.entries.proofs.Entry.{start-wraps}

-- what one use decides
kept : (r : PdoDirection) (start : ℕ) (u : Use) (entries after : List (List ℕ)) → accepted after ≡ laid_one r start u entries → (no_room u entries ≡ false) × (after ≡ with_use r start u entries)
kept r start u entries after e = go (no_room u entries) refl e
  where
    go : (b : Bool) → no_room u entries ≡ b → accepted after ≡ cond b (refused 8) (accepted (with_use r start u entries)) → (no_room u entries ≡ false) × (after ≡ with_use r start u entries)
    go true s q = absurd (never (sym q))
    go false s q = (s, passed-answer [] (with_use r start u entries) after q)

found : (r : PdoDirection) (start : ℕ) (u : Use) (entries : List (List ℕ)) (n : ℕ) → refused n ≡ laid_one r start u entries → (no_room u entries ≡ true) × (◌≡◌ {A = Outcome Run} (refused n) (refused 8))
found r start u entries n e = go (no_room u entries) refl e
  where
    go : (b : Bool) → no_room u entries ≡ b → refused n ≡ cond b (refused 8) (accepted (with_use r start u entries)) → (no_room u entries ≡ true) × (◌≡◌ {A = Outcome Run} (refused n) (refused 8))
    go true s q = (s, ap (λ (k : ℕ). refused k) cc)
    go false s q = absurd (never q)

-- the uses `us` from the offset on over the entries `before`, of which `rest` are still to be laid from `end` on over the entries `now`
pub record Laying (r : PdoDirection) (offset : ℕ) (us : List Use) (before : List (List ℕ)) (rest : List Use) (end : ℕ) (now : List (List ℕ)) : Type 0 where
  pub short : Short now
  pub same : laid_all r end rest now ≡ laid_all r offset us before

pub laying-starts : (r : PdoDirection) (offset : ℕ) (us : List Use) (entries : List (List ℕ)) → Short entries → Laying r offset us entries us offset entries
laying-starts r offset us entries s = record { short = s; same = refl }

module _ {r : PdoDirection} {offset : ℕ} {us : List Use} {before : List (List ℕ)} {left : List Use} {o : ℕ} {now : List (List ℕ)} (l : Laying r offset us before left o now) where
  -- by another name
  pub laying-at : {rest : List Use} {end : ℕ} {after : List (List ℕ)} → left ≡ rest → end ≡ o → after ≡ now → Laying r offset us before rest end after
  laying-at {rest} {end} {after} e n a =
      record {
        short = subst (λ (x : List (List ℕ)). Short x) (sym a) l.short;
        same = (λ i. laid_all r (n i) (sym e i) (a i)) ∙ l.same;
      }

  pub laying-ends : left ≡ [] → accepted (record { end = o; entries = now }) ≡ laid_all r offset us before
  unfolding plan total
  laying-ends e =
      sym
      (ap (λ (x : List Use). laid_all r o x now) e
      ∙ (λ i. cond (too-long-none now l.short i) (refused 8) (accepted (record { end = add-zero o i; entries = now }))))
      ∙ l.same

  module _ {u : Use} {rest : List Use} (e : left ≡ u ∷ rest) where
    -- 8
    pub laying-stops : (start n : ℕ) → refused n ≡ laid_one r start u now → refused n ≡ laid_all r offset us before
    laying-stops start n q =
        let s = found r start u now n q in
        s.1
        ∙ sym (ap (λ (x : List Use). laid_all r o x now) e
        ∙ ap (λ (b : Bool). cond b (refused 8) (accepted (record { end = o + total (u ∷ rest); entries = plan r o (u ∷ rest) now }))) (too-long-first u rest now s.0))
        ∙ l.same

    -- a turn
    pub laying-turns : {next : ℕ} {after : List (List ℕ)} → accepted after ≡ laid_one r (o % 4294967296) u now → next ≡ o + u.size → Laying r offset us before rest next after
    unfolding plan total
    laying-turns {next} {after} q n =
        let k = kept r (o % 4294967296) u now after q in
        let is : after ≡ with_use r o u now = k.1 ∙ start-wraps r o u now in
        let many = l.short.many in
        record {
          short = subst (λ (x : List (List ℕ)). Short x) (sym is) (short-after u now r o many k.0 l.short);
          same =
              (λ i. laid_all r (n i) rest (is i))
              ∙ (λ i.
              cond (sym (too-long-rest u now r o many k.0 rest) i) (refused 8)
              (accepted (record { end = add_assoc o u.size (total rest) i; entries = plan r (o + u.size) rest (with_use r o u now) })))
              ∙ ap (λ (x : List Use). laid_all r o x now) (sym e)
              ∙ l.same;
        }
