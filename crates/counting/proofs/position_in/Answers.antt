-- `counting::position_in`: not held, or the byte counted from the start.
-- Assumes nothing.
use mathlib.Core.Path.{◌≡◌, sym, ◌∙◌}
use mathlib.Core.Bool.{true}
use Prim.Native.Nat.{◌+◌, ◌-◌}
use native.Mathlib.Omega.{arith}
use Rattle.grammar.specs.Grammar.{manager_place}
use Rattle.sheet.specs.Sheet.{manager_at}
use Rattle.translation.specs.Translate.{within, named}
use Rattle.translation.proofs.Lies.{started, among}
use Rattle.counting.proofs.Counting.{not-held, held_at}
use Rattle.counting.proofs.position_in.Goals as goal

pub returns-then-not-within : goal.returns-then-not-within
returns-then-not-within c =
    let a = c.args in
    not-held a.start a.size.0 a.k _ a.address (sym c.within.ensures ∙ c.if-not-within.true)

pub overflow_sub-byte : goal.overflow_sub-byte
overflow_sub-byte c =
    let held : within c.args.start c.args.size.0 c.args.address ≡ true = sym c.within.ensures ∙ c.if-not-within.false in
    omega (arith, started c.args.start c.args.size.0 c.args.address held)

pub overflow_cast-result : goal.overflow_cast-result
overflow_cast-result c =
    let held : within c.args.start c.args.size.0 c.args.address ≡ true = sym c.within.ensures ∙ c.if-not-within.false in
    omega (arith, among c.args.start c.args.size.0 c.args.address held)

pub returns : goal.returns
returns c =
    let held : within c.args.start c.args.size.0 c.args.address ≡ true = sym c.within.ensures ∙ c.if-not-within.false in
    let a = c.args in
    let at : c.from.result ≡ a.address = omega arith in
    let from : c.from-2.result ≡ (manager_at a.sheet.now (manager_place a.k)).start_addr = omega arith in
    rw at (held_at a.start a.size.0 a.k _ a.address c.named.result held (c.named.ensures ∙ (λ i. named (from i + (at i - a.start)))))
