-- `wanted::sound::Sound::pdo_bits`: by its kind a record holds m bit lengths or one.
-- Assumes nothing.
use mathlib.Core.Path.{◌≡◌, refl, ◌∙◌}
use Prim.Native.Nat.{◌+◌, ◌-◌}
use native.Mathlib.Omega.{arith}
use lib.ListN.{get_or}
use Rattle.sheet.proofs.Sound.{fits-two}
use Rattle.pdo.proofs.Part.{sum-part}
use Rattle.pdo.proofs.Records.{bits-coe, bits-eeprom}
use Rattle.wanted.proofs.Sums.{sum-is}
use Rattle.wanted.proofs.sound.Sound.pdo_bits.Goals as goal

pub returns-then-self-at-eq0 : goal.returns-then-self-at-eq0
returns-then-self-at-eq0 c =
    let a = c.args in
    let s = a.self.now.bytes.now in
    let n = a.at + 5 + c.from.result - (a.at + 5) in (
      bits-coe s a.at (get_or s a.at 0) _ c.sum_bytes.result refl c.if-self-at-eq0.true refl
          (sum-part s (a.at + 5) (get_or s (a.at + 4) 0) n c.sum_bytes.result (c.sum_bytes.ensures.sums ∙ sum-is _) (omega arith)),
      omega arith,
    )

pub bounds-self-at-2 : goal.bounds-self-at-2
bounds-self-at-2 c =
    let two : get_or c.args.self.now.bytes.now (c.args.at + 4) 0 ≡ 2 = (fits-two (get_or c.args.self.now.bytes.now c.args.at 0) _ c.requires.kind c.if-self-at-eq0.false).1 in
    omega (arith, two)

pub bounds-self-at-3 : goal.bounds-self-at-3
bounds-self-at-3 c =
    let two : get_or c.args.self.now.bytes.now (c.args.at + 4) 0 ≡ 2 = (fits-two (get_or c.args.self.now.bytes.now c.args.at 0) _ c.requires.kind c.if-self-at-eq0.false).1 in
    omega (arith, two)

pub returns : goal.returns
returns c =
    let a = c.args in
    let s = a.self.now.bytes.now in
    let same : c.from-2.result ≡ c.be16.result = omega arith in
    (same ∙ bits-eeprom s a.at (get_or s a.at 0) (get_or s (a.at + 5) 0) (get_or s (a.at + 6) 0) c.be16.result refl c.if-self-at-eq0.false refl refl c.be16.ensures, omega arith)
