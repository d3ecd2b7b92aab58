-- A branch inside a walk, stated over any code, so that no code that follows it is ever written out and compared.
-- Assumes nothing.
use mathlib.Core.Bool.{Bool, not}
use mathlib.Core.List.{List}
use lib.Dec.{T as Holds}
use seplogic.Ra.Ura.{Ura}
use mir.Syntax.{Place, Opd as Operand, Body, seq, cond, skip}
use mir.Val.{Val, vbool}
use prog.Wp.{Heap, Env, Spot, Calls, Loops, Wp, after_seq}
use types.Logic.{Logic}
use types.Kit.{Item, Post, any_q, post, runs, settles, Seq, Step, step, ◌$◌}
use types.Run.{Opd, Finds, Writes, first, skips, branches, land_last}

-- what is to hold where code ends that `rest` follows
abbrev before : {M : Type 1} (𝓤 : Ura M) (H : Heap 𝓤) → Calls 𝓤 H → Loops 𝓤 H → Env 𝓤 H → Body → Post 𝓤 H → Post 𝓤 H
before 𝓤 H C Λ E rest q = any_q (after_seq 𝓤 H (Wp 𝓤 H C Λ E rest (post 𝓤 H q)) (post 𝓤 H q))

module _ {M : Type 1} {𝓤 : Ura M} {𝓛 : Logic 𝓤} {K : Type 0} {Γ : List (Item 𝓤)} {E : Env 𝓤 𝓛.H} {C : Calls 𝓤 𝓛.H} {Λ : Loops 𝓤 𝓛.H} {q : Post 𝓤 𝓛.H} where
  -- an `if` without an `else`
  open 𝓛 use {H}

  pub checks : K → {c : Operand} {a rest : Body} {y : Bool} → Opd K 𝓛 Γ E c (vbool y) → (Holds y → Seq K 𝓛 Γ (runs C Λ E a (before 𝓤 H C Λ E rest q))) → (Holds (not y) → Seq K 𝓛 Γ (runs C Λ E rest q))
      → Seq K 𝓛 Γ (runs C Λ E (seq (cond c a skip) rest) q)
  checks t o held failed = first t $ branches t o held (λ h. skips t $ record { prf = (failed h).prf })

  -- the answer of a call that ends an arm is stored, and the code after the branch runs
  pub lands-before : K → {d : Place} {r : Val} {rest : Body} {sp : Spot 𝓤 H} {Γ' : List (Item 𝓤)} → Finds K 𝓛 Γ E d sp → Writes K 𝓛 Γ sp.0 sp.1 sp.2 r Γ'
      → Step K 𝓛 Γ' (runs C Λ E rest q) Γ (settles E d r (before 𝓤 H C Λ E rest q))
  lands-before t f w = step (λ s. land_last t f w $ record { prf = s.prf })
