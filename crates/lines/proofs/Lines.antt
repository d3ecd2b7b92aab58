-- The line of an image, and the lines of images, typed one a turn.
-- Assumes nothing.
use mathlib.Core.Path.{◌≡◌, refl, sym, ◌∙◌, ap}
use mathlib.Core.Bool.{Bool, true, false, cond}
use mathlib.Core.List.{List, [], ◌∷◌, ◌++◌}
use Prim.Native.Nat.{ℕ, suc, ◌+◌, ◌<◌, ◌≤◌}
use native.Mathlib.Numerals.{add-one}
use lib.ListN.{length, get_or, drop, drop_of_length-le}
use lib.Seq.{drop-cons}
use Rattle.wire.specs.Text.{Page, typed_all, Types, Puts}
use Rattle.wire.specs.declared.Text.{Text}
use Rattle.wire.proofs.Typing.{typed-append, puts}
use Rattle.sync_manager_channel.specs.declared.SyncManagerChannel.{SyncManagerChannel}
use Rattle.sync_manager_channel.specs.Image.{channel_of}
use Rattle.sync_manager_channel.specs.Text.{channel_text}
use Rattle.fmmu.specs.declared.Fmmu.{Fmmu}
use Rattle.fmmu.specs.Image.{fields_of}
use Rattle.fmmu.specs.Text.{fmmu_text}
use Rattle.lines.specs.Text.{line, numbered, channel_line, entry_line, image_line, enabled_line, lines}

-- no line
pub none : (t : Text) → Puts t t []
unfolding typed_all
none t = record { types = record { is = refl }; same_room = refl }

-- the line of what an image says
pub image-typed :
    (k : ℕ) (image : List ℕ) (s : SyncManagerChannel) {t u : Text} → s ≡ channel_of image → Puts t u (line (numbered (83 ∷ 77 ∷ []) k) (channel_text s))
    → Puts t u (image_line k image)
unfolding channel_line
image-typed k image s says t = puts (ap (channel_line k) says) t

-- an entry that is enabled, and one that isn't
module _ (k : ℕ) (image : List ℕ) (f : Fmmu) (fields : f ≡ fields_of image) where
  pub entry-typed : {t u : Text} → f.enable ≡ true → Puts t u (line (numbered (70 ∷ 77 ∷ 77 ∷ 85 ∷ []) k) (fmmu_text f)) → Puts t u (enabled_line k image)
  unfolding entry_line
  entry-typed on t = puts (ap (λ (b : Bool). cond b (line (numbered (70 ∷ 77 ∷ 77 ∷ 85 ∷ []) k) (fmmu_text f)) []) (sym on) ∙ ap (entry_line k) fields) t

  pub entry-left-out : {t : Text} → f.enable ≡ false → Puts t t (enabled_line k image)
  unfolding entry_line
  entry-left-out {t} off = puts (ap (λ (b : Bool). cond b (line (numbered (70 ∷ 77 ∷ 77 ∷ 85 ∷ []) k) (fmmu_text f)) []) (sym off) ∙ ap (entry_line k) fields) (none t)

-- images one after another; `e` is the one that the loop stands at
module _ (line_of : ℕ → List ℕ → List ℕ) (es : List (List ℕ)) (k : ℕ) {p : Page} where
  -- a turn: its line is typed, the others are left
  pub lines-turn :
      (e : List ℕ) {q : Page} → k < length es → get_or es k [] ≡ e → Types p q (line_of k e)
      → typed_all q (lines line_of (k + 1) (drop (k + 1) es)) ≡ typed_all p (lines line_of k (drop k es))
  unfolding lines
  lines-turn e {q} h at t =
      ap (λ (o : Page). typed_all o (lines line_of (k + 1) (drop (k + 1) es))) t.is
      ∙ sym (typed-append p (line_of k e) (lines line_of (k + 1) (drop (k + 1) es)))
      ∙ ap (λ (j : ℕ). typed_all p (line_of k e ++ lines line_of j (drop j es))) (add-one k)
      ∙ ap (λ (l : List (List ℕ)). typed_all p (lines line_of k l)) (sym (drop-cons es k [] h ∙ ap (λ (x : List ℕ). x ∷ drop (suc k) es) at))

  -- the end: none are left
  pub lines_end : length es ≤ k → typed_all p (lines line_of k (drop k es)) ≡ p
  unfolding lines typed_all
  lines_end h = ap (λ (l : List (List ℕ)). typed_all p (lines line_of k l)) (drop_of_length-le es h)
