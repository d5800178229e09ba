use Rattle.std.proofs.Common.{◌≡◌, ◌^◌, arith, ap}
use Rattle.lert_spec.proofs.MixLaws.{cone_below}
use Rattle.lert_reference.proofs.parts.cone.Goals as goal

pub returns-then-s-eq0 : goal.returns-then-s-eq0
returns-then-s-eq0 c =
    let one : 2 ^ c.args.s.now.cone_bits ≡ 1 = ap (λ n. 2 ^ n) c.if-s-eq0.true in
    omega (arith, cone_below c.args.s.now c.args.key (omega arith) c.ranges.key.fits)
