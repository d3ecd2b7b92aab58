-- `wanted::some_shared`: asked of each two.
-- Assumes nothing.
use Rattle.std.proofs.Common.{rules, Bool, false, ◌&&◌, ◌≡◌, ◌∙◌, sym, ap, length, get_or}
use Rattle.std.proofs.lemmas.Iterator.{YieldsList-from_slice, YieldsList-from_zip}
use Rattle.std.proofs.lemmas.Iterator.Search.{any_from_yields_List}
use borrow.Author.Tests.{tests}
use Rattle.wire.specs.Lists.{some_below}
use Rattle.wanted.specs.Judged.{some_shared}
use Rattle.wanted.proofs.Surveying.{some-pair}
use Rattle.wanted.proofs.some_shared.Goals as goal

pub returns : goal.returns
unfolding some_shared
returns c =
    let one = c.args.one in
    let two = c.args.two in
    let a : length one ≡ 16 = search rules in
    let b : length two ≡ 16 = search rules in
    any_from_yields_List (λ (p : Bool × Bool). p.0 && p.1) c.any.new.self _ _ c.any.ensures.ran
    (YieldsList-from_zip {s = c.zip.result} (YieldsList-from_slice {s = c.zip.result.a} one (search rules)) (YieldsList-from_slice {s = c.zip.result.b} two (search rules))) (λ x b q k. search (rules, tests))
    ∙ some-pair one two (a ∙ sym b) ∙ ap (some_below (λ k. get_or one k false && get_or two k false)) a
