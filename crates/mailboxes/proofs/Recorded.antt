-- The mailboxes as the code records and writes them: a turn of the loop, its end, and one that gets no size.
-- Assumes nothing.
use mathlib.Core.Path.{◌≡◌, refl}
use mathlib.Core.List.{List, [], ◌∷◌}
use Prim.Native.Nat.{ℕ, ◌+◌}
use native.Mathlib.Numerals.{add-one}
use mathlib.Core.Option.{Option, none}
use borrow.Author.Tests.{ne_eqb}
use Rattle.sheet.specs.declared.SyncManager.{SyncManager}
use Rattle.mailboxes.specs.declared.Mailbox.{Mailbox}
use Rattle.mailboxes.specs.Mailbox.{size_for, later_of, last_of}

-- what is recorded after one more
pub last_turn :
    (usage size k : ℕ) (before after : Option Mailbox) (m : SyncManager) (ms l : List SyncManager) → l ≡ m ∷ ms
    → after ≡ later_of usage size before k m → last_of usage size after (k + 1) ms ≡ last_of usage size before k l
unfolding last_of
last_turn usage size k before after m ms l e h = rw (e, h, add-one)

pub last_end : (usage size k : ℕ) (before : Option Mailbox) (l : List SyncManager) → l ≡ [] → before ≡ last_of usage size before k l
unfolding last_of
last_end usage size k before l e = rw e

-- neither usage, and no size
pub size_none : (receive send : ℕ) (m : SyncManager) → (m.usage_type ≡ 1 → ⊥) → (m.usage_type ≡ 2 → ⊥) → size_for receive send m ≡ none
size_none receive send m a b = rw (ne_eqb m.usage_type 1 a, ne_eqb m.usage_type 2 b) refl
