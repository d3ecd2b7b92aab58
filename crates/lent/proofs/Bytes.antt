-- What a lent list of bytes holds is below 256: its borrow is opened, looked at and shut.
-- Assumes nothing.
use mathlib.Core.Path.{refl, sym}
use mathlib.Core.List.{List, [], ◌∷◌}
use Prim.Native.Nat.{ℕ}
use lib.ListN.{length}
use lib.Dec.{lit<}
use seplogic.Ra.Ura.{Ura}
use mir.Syntax.{Lifetime, w8}
use base.Logic.{ent, sep, guard}
use base.Fml.{Lft, Share, Fml, flft}
use types.Logic.{Logic, sem}
use types.Kit.{‵, ⋆, ◌$◌, ◌∵◌, !, qed, move, use1, fsplit, fjoin, given, learn, check, rewrite, updating, now, done}
use types.SemTy.{cells}
use denote.Copied.{uint_Copied}
use denote.Builtin.{u8}
use denote.Index.{looks_slice, shuts_slice}
use denote.Ref.{Bor}
use denote.Slice.{slice_val, ShrSlice}
use borrow.Table.Referent.{f_int}
use borrow.Rule.Slice.Shared.{Sh, parts-cells}
use borrow.Rule.Slice.Know.{AllWt, fit_at, cells_fit}
use Rattle.wire.specs.Image.{Bytes}

module _ {M : Type 1} {𝓤 : Ura M} (𝓛 : Logic 𝓤) (ℓ : Lifetime) (κ : Lft) (q : Share) (x : Bor (List ℕ)) where
  -- what the list owns
  open 𝓛 use {H, A}

  abbrev X : Fml
  X = (ShrSlice ℓ κ u8).own_val x (slice_val x.ref_ptr (length x.now) ∷ [])

  pub below : ent 𝓤 (⋆ 𝓛 (‵ (flft κ q) ∷ ‵ X ∷ [])) (H.⇛ (guard 𝓤 (Bytes x.now) (sep 𝓤 (A.lft κ q) (sem 𝓛 X))))
  below =
      qed 𝓛 (‵ (flft κ q) ∷ ‵ X ∷ []) ∵ updating ! $ move ! (1 ∷ []) $ fsplit ! $ move ! (1 ∷ 2 ∷ []) $
      looks_slice ! tt u8 (uint_Copied 𝓛 w8) x.now x.ref_ptr.0 x.ref_ptr.1 (λ s.
      rewrite ! 0 (λ (F : Fml). ‵ F) (parts-cells u8 s x.now x.ref_ptr.0 x.ref_ptr.1) refl $
      use1 𝓛 (given (AllWt (f_int w8) x.now) (‵ (cells (Sh u8 s) x.now x.ref_ptr.0 x.ref_ptr.1))) (cells_fit 𝓛 (f_int w8) s x.now x.ref_ptr.0 x.ref_ptr.1) $ learn ! (λ a.
      rewrite ! 0 (λ (F : Fml). ‵ F) (sym (parts-cells u8 s x.now x.ref_ptr.0 x.ref_ptr.1)) refl $ shuts_slice ! tt u8 s x.now x.ref_ptr.0 x.ref_ptr.1 $
      move ! (2 ∷ 1 ∷ []) $ fjoin ! $
      now ! $ check ! (record { below = λ i. (fit_at (f_int w8) 0 (record { fits = lit< tt }) x.now a i).fits }) $ move ! (1 ∷ 0 ∷ []) $ done !))
