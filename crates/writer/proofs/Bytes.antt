-- A sheet that was written holds nothing but bytes.
-- Assumes nothing.
use mathlib.Core.Bool.{Bool, true, false, cond}
use mathlib.Core.Path.{◌≡◌, refl}
use mathlib.Core.List.{List, [], ◌∷◌, map}
use Prim.Native.Nat.{ℕ, ◌+◌, ◌≤◌}
use native.Mathlib.Omega.{arith}
use lib.ListN.{length, get_or}
use lib.Dec.{eqb}
use borrow.Author.Tests.{eqb-true}
use Rattle.wire.specs.Number.{big_of}
use Rattle.wire.specs.Image.{Bytes}
use Rattle.wire.specs.Lists.{Each}
use Rattle.wire.proofs.Fields.{bit-lt}
use Rattle.wire.proofs.Bytes.{no_bytes, cons-bytes, append-bytes, big-bytes}
use Rattle.area.specs.Area.{flat}
use Rattle.channel_bytes.proofs.Bytes.{control-laid}
use Rattle.sheet.specs.declared.SyncManager.{SyncManager}
use Rattle.sheet.specs.Device.{Pdo, Data}
use Rattle.writer.specs.Form.{manager_bytes, pdo_bytes, counted, body_bytes, sheet_of}
use Rattle.writer.proofs.Keeps.{KeepsManager, KeepsPdo, Keeps}

-- lists of bytes one after the other
pub all-bytes : {A : Type 0} (P : A → Type 0) (f : A → List ℕ) → ((x : A) → P x → Bytes (f x)) → (xs : List A) → Each P xs → Bytes (flat (map f xs))
unfolding flat
all-bytes P f h [] each = no_bytes
all-bytes P f h (x ∷ xs) each = append-bytes (h x each.0) (all-bytes P f h xs each.1)

-- each part of the sheet
manager-bytes : (m : SyncManager) → KeepsManager m → Bytes (manager_bytes m)
manager-bytes m k =
    append-bytes (big-bytes 2 m.start_addr)
    (cons-bytes (control-laid m.control).small (cons-bytes (omega (arith, bit-lt m.enable)) (cons-bytes (omega arith) no_bytes)))

usages-bytes : (us : List ℕ) → Each (λ (u : ℕ). u ≤ 3) us → Bytes us
usages-bytes [] each = no_bytes
usages-bytes (u ∷ us) each = cons-bytes (omega (arith, each.0)) (usages-bytes us each.1)

pub pdo-bytes : (p : Pdo) → KeepsPdo p → Bytes (pdo_bytes p)
pdo-bytes p k =
    cons-bytes (omega arith) (cons-bytes k.manager (append-bytes (big-bytes 2 p.index) (go (eqb p.kind 0) refl)))
  where
    go : (b : Bool) → eqb p.kind 0 ≡ b → Bytes (counted (cond b p.lengths (big_of 2 (get_or p.lengths 0 0))))
    go true e = let many = k.many (eqb-true p.kind 0 e) in cons-bytes many.0 many.1
    go false e = cons-bytes (omega arith) (big-bytes 2 (get_or p.lengths 0 0))

body_bytes_lem : (x : Data) → Keeps x → Bytes (body_bytes x)
unfolding body_bytes
body_bytes_lem x k =
    append-bytes (all-bytes KeepsManager manager_bytes manager-bytes x.managers k.managers)
    (append-bytes (usages-bytes x.usages k.usages) (all-bytes KeepsPdo pdo_bytes pdo-bytes x.pdos k.pdos))

-- and the whole, with its head
pub sheet-bytes : (x : Data) → Keeps x → Bytes (sheet_of x)
unfolding sheet_of
sheet-bytes x k =
    let a = bit-lt x.mailbox in
    let b = bit-lt x.coe_protocol in
    let c = bit-lt x.complete in
    let counts = cons-bytes {x = length x.managers} (omega arith) (cons-bytes {x = length x.usages} (omega arith) (cons-bytes k.few_pdos (body_bytes_lem x k))) in
    append-bytes (big-bytes 2 (9 + length (body_bytes x)))
    (cons-bytes (omega arith) (cons-bytes (omega arith) (append-bytes (big-bytes 2 x.receive) (append-bytes (big-bytes 2 x.send) counts))))
