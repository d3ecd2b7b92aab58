-- `wanted::sound::sum_bytes`: no byte is above 255.
-- Assumes nothing.
use Rattle.std.proofs.Common.{rules, arith, ◌≡◌, ℕ, map}
use Rattle.std.specs.List.{sum}
use Rattle.wanted.proofs.Sums.{sum-is, bytes-most}
use Rattle.wanted.proofs.sound.sum_bytes.Goals as goal

pub returns : goal.returns
returns c =
    let e : c.sum.result ≡ sum (map (λ (b : ℕ). b) c.args.part.now) = search rules in
    record { sums = e; most = omega (arith, sum-is c.args.part.now, bytes-most c.args.part.now (λ k. (c.type_inv.part k).fits)) }
