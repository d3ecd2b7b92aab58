-- One entry: what a use makes of it, and what it says before and after.
-- Assumes nothing.
use mathlib.Core.Path.{◌≡◌, refl, sym, ◌∙◌, subst}
use mathlib.Core.Bool.{Bool, true, false, cond}
use mathlib.Core.List.{List}
use mathlib.Core.Logic.{◌⊎◌, inl, inr}
use mathlib.Core.Option.{none, some}
use Prim.Native.Nat.{ℕ, ◌+◌, ◌-◌, ◌*◌, ◌^◌, ◌≤◌, ◌<◌}
use native.Mathlib.Omega.{arith}
use lib.Dec.{ltb}
use borrow.Author.Tests.{ltb-true, ltb-false}
use Rattle.wire.specs.Field.{flag_at, bit}
use Rattle.wire.proofs.Fields.{flag-bit}
use Rattle.fmmu.specs.declared.Fmmu.{Fmmu}
use Rattle.fmmu.specs.Image.{fields_of, image_of}
use Rattle.fmmu.proofs.RoundTrip.{read-write}
use Rattle.pdo.specs.declared.PdoDirection.{PdoDirection}
use Rattle.pdo.specs.declared.PdoDirection.TheVariants.{MasterRead, MasterWrite}
use Rattle.pdo.specs.Direction.{other}
use Rattle.passes.specs.Use.{Use}
use Rattle.passes.specs.Old.{is_old}
use Rattle.passes.specs.Entries.{mapped, laid, length_now}
use Rattle.passes.proofs.Cleared.{Off}
use Rattle.translation.specs.Translate.{within, named, carries, says, odd}
use Rattle.translation.proofs.Lies.{inside, before, behind}
use Rattle.agreement.proofs.Basics.{either}

-- of no weight for the direction: disabled, or without its bit
abbrev pub Silent : PdoDirection → List ℕ → Type 0
Silent r e = carries r (fields_of e) ≡ false

-- mapped for the direction; ends at the logical address q, where it would go on at the device address x
pub record Stand (r : PdoDirection) (q x : ℕ) (e : List ℕ) : Type 0 where
  pub start : ℕ
  pub size : ℕ
  pub physical : ℕ
  pub shows : fields_of e ≡ mapped r start size physical
  pub ends : start + size ≡ q
  pub goes : physical + size ≡ x
  pub fits : physical < 65536

-- of no weight, or mapped and at an end at or below q
pub data Good (r : PdoDirection) (q : ℕ) (e : List ℕ) : Type 0 where
  silent : Silent r e → Good r q e
  stands : (p x : ℕ) → p ≤ q → Stand r p x e → Good r q e

pub good-on : (r : PdoDirection) (q p : ℕ) (e : List ℕ) → q ≤ p → Good r q e → Good r p e
good-on r q p e h (silent s) = silent s
good-on r q p e h (stands o x l s) = stands o x (omega arith) s

pub off-silent : (r : PdoDirection) (e : List ℕ) → Off e → Silent r e
unfolding carries
off-silent MasterRead e h = rw h refl
off-silent MasterWrite e h = rw h refl

carries-mapped : (r : PdoDirection) (s n p : ℕ) → carries r (mapped r s n p) ≡ true
unfolding carries
carries-mapped MasterRead s n p = refl
carries-mapped MasterWrite s n p = refl

pub says-silent : (r : PdoDirection) (a : ℕ) (e : List ℕ) → Silent r e → says r a e ≡ none
unfolding says
says-silent r a e h = rw h refl

pub odd-silent : (r : PdoDirection) (e : List ℕ) → Silent r e → odd r e ≡ false
unfolding odd
odd-silent r e h = rw h refl

says-shown : (r : PdoDirection) (a : ℕ) (e : List ℕ) (s n p : ℕ) → fields_of e ≡ mapped r s n p
    → says r a e ≡ cond (within s n a) (some (named (p + (a - s)))) none
unfolding says
says-shown r a e s n p h = rw (h, carries-mapped r s n p) refl

odd-shown : (r : PdoDirection) (e : List ℕ) (s n p : ℕ) → fields_of e ≡ mapped r s n p → odd r e ≡ false
unfolding odd
odd-shown r e s n p h = rw (h, carries-mapped r s n p) refl

pub good-odd : (r : PdoDirection) (q : ℕ) (e : List ℕ) → Good r q e → odd r e ≡ false
good-odd r q e (silent s) = odd-silent r e s
good-odd r q e (stands p x l s) = odd-shown r e s.start s.size s.physical s.shows

pub good-says : (r : PdoDirection) (q a : ℕ) (e : List ℕ) → q ≤ a → Good r q e → says r a e ≡ none
good-says r q a e h (silent s) = says-silent r a e s
good-says r q a e h (stands p x l s) =
    let b : s.start + s.size ≤ a = omega (arith, s.ends) in
    says-shown r a e s.start s.size s.physical s.shows ∙ rw (behind s.start s.size a b) refl

-- what a use makes of its entry e, if it is held at the device address y
pub record Stepped (r : PdoDirection) (q : ℕ) (u : Use) (y : ℕ) (e e' : List ℕ) : Type 0 where
  pub stand : Stand r (q + u.size) (y + u.size) e'
  pub below : (a : ℕ) → a < q → says r a e' ≡ says r a e
  pub here : (a : ℕ) → q ≤ a → a < q + u.size → says r a e' ≡ some (named (y + (a - q)))
  pub long : length_now e' ≡ length_now e + u.size

mapped-back : (r : PdoDirection) (s n p : ℕ) → s < 2 ^ 32 → n ≤ 65535 → p < 65536 → fields_of (image_of (mapped r s n p)) ≡ mapped r s n p
mapped-back r s n p h g k =
    read-write
    (mapped r s n p)
    (record { start = omega arith; size = omega arith; physical = omega arith; start_bit = omega arith; end_bit = omega arith; physical_bit = omega arith })

-- a disabled entry begins with the use
pub step-off : (r : PdoDirection) (q : ℕ) (u : Use) (e : List ℕ) → Off e → q < 2 ^ 32 → u.size ≤ 65535 → u.at < 65536
    → Stepped r q u u.at e (image_of (laid r q u (fields_of e)))
step-off r q u e h l n k =
    let z : laid r q u (fields_of e) ≡ mapped r q u.size u.at = rw h refl in
    subst
    (λ (f : Fmmu). Stepped r q u u.at e (image_of f))
    (sym z)
    (let b = mapped-back r q u.size u.at l n k in
    record {
      stand = record { start = q; size = u.size; physical = u.at; shows = b; ends = refl; goes = refl; fits = k };
      below = λ a g. says-shown r a (image_of (mapped r q u.size u.at)) q u.size u.at b ∙ rw (before q u.size a g) (sym (says-silent r a e (off-silent r e h)));
      here = λ a g s. says-shown r a (image_of (mapped r q u.size u.at)) q u.size u.at b ∙ rw (inside q u.size a g s) refl;
      long = rw (b, h) (omega arith);
    })

-- an entry that ends where the use begins goes on
pub step-on : (r : PdoDirection) (q x : ℕ) (u : Use) (e : List ℕ) → Stand r q x e → q < 2 ^ 32 → length_now e + u.size ≤ 65535
    → Stepped r q u x e (image_of (laid r q u (fields_of e)))
step-on r q x u e d l n =
    let s = d.start in
    let m = d.size in
    let p = d.physical in
    let z : laid r q u (fields_of e) ≡ mapped r s (m + u.size) p = rw d.shows refl in
    let j : length_now e ≡ m = rw d.shows refl in
    let ends = d.ends in
    let goes = d.goes in
    let b = mapped-back r s (m + u.size) p (omega arith) (omega arith) d.fits in
    subst
    (λ (f : Fmmu). Stepped r q u x e (image_of f))
    (sym z)
    (record {
      stand = record { start = s; size = m + u.size; physical = p; shows = b; ends = omega arith; goes = omega arith; fits = d.fits };
      below =
          λ a g.
          says-shown r a (image_of (mapped r s (m + u.size) p)) s (m + u.size) p b
          ∙ grow a g
          ∙ sym (says-shown r a e s m p d.shows);
      here =
          λ a g k.
          let y : p + (a - s) ≡ x + (a - q) = omega arith in
          says-shown r a (image_of (mapped r s (m + u.size) p)) s (m + u.size) p b
          ∙ rw (inside s (m + u.size) a (omega arith) (omega arith), y) refl;
      long = rw (b, j) refl;
    })
  where
    grow : (a : ℕ) → a < q
        → cond (within d.start (d.size + u.size) a) (some (named (d.physical + (a - d.start)))) none
        ≡ cond (within d.start d.size a) (some (named (d.physical + (a - d.start)))) none
    grow a g = go (either (ltb a d.start))
      where
        go : (ltb a d.start ≡ true) ⊎ (ltb a d.start ≡ false)
            → cond (within d.start (d.size + u.size) a) (some (named (d.physical + (a - d.start)))) none
            ≡ cond (within d.start d.size a) (some (named (d.physical + (a - d.start)))) none
        go (inl f) = rw (before d.start (d.size + u.size) a (ltb-true a d.start f), before d.start d.size a (ltb-true a d.start f)) refl
        go (inr f) =
            let h = ltb-false a d.start f in
            let ends = d.ends in
            rw (inside d.start (d.size + u.size) a h (omega arith), inside d.start d.size a h (omega arith)) refl

-- the three flags come back whatever the numbers are
both-flags : (x y : Bool) → (flag_at (bit x + 2 * bit y) 0 ≡ x) × (flag_at (bit x + 2 * bit y) 1 ≡ y)
both-flags true true = (refl, refl)
both-flags true false = (refl, refl)
both-flags false true = (refl, refl)
both-flags false false = (refl, refl)

image-read : (f : Fmmu) → (fields_of (image_of f)).read_enable ≡ f.read_enable
unfolding fields_of image_of
image-read f = (both-flags f.read_enable f.write_enable).0

image-write : (f : Fmmu) → (fields_of (image_of f)).write_enable ≡ f.write_enable
unfolding fields_of image_of
image-write f = (both-flags f.read_enable f.write_enable).1

image-enable : (f : Fmmu) → (fields_of (image_of f)).enable ≡ f.enable
unfolding fields_of image_of
image-enable f = flag-bit f.enable

image-carries : (r : PdoDirection) (f : Fmmu) → carries r (fields_of (image_of f)) ≡ carries r f
unfolding carries
image-carries MasterRead f = rw (image-read f, image-enable f) refl
image-carries MasterWrite f = rw (image-write f, image-enable f) refl

pub image-old : (r : PdoDirection) (f : Fmmu) → is_old r (fields_of (image_of f)) ≡ is_old r f
image-old MasterRead f = rw (image-read f, image-write f, image-enable f) refl
image-old MasterWrite f = rw (image-read f, image-write f, image-enable f) refl

laid-carries : (r : PdoDirection) (q : ℕ) (u : Use) (f : Fmmu) → (f.enable ≡ true) ⊎ (f.enable ≡ false) → carries r f ≡ false → carries r (laid (other r) q u f) ≡ false
unfolding carries
laid-carries MasterRead q u f (inl t) h = rw t (rw t at h)
laid-carries MasterRead q u f (inr t) h = rw t refl
laid-carries MasterWrite q u f (inl t) h = rw t (rw t at h)
laid-carries MasterWrite q u f (inr t) h = rw t refl

-- the other direction's use leaves an entry of no weight without weight
pub silent-laid : (r : PdoDirection) (q : ℕ) (u : Use) (e : List ℕ) → Silent r e → Silent r (image_of (laid (other r) q u (fields_of e)))
silent-laid r q u e h = image-carries r (laid (other r) q u (fields_of e)) ∙ laid-carries r q u (fields_of e) (either (fields_of e).enable) h
