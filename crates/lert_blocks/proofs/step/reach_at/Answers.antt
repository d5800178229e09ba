use Rattle.std.proofs.Common.{arith}
use Rattle.lert_blocks.proofs.EndLaws.{reach_by_bits}
use Rattle.lert_blocks.proofs.step.reach_at.Goals as goal

pub returns : goal.returns
returns c =
    let bits = c.bits_from-ends in
    reach_by_bits c.args.slots c.args.at bits.result bits.ensures.word bits.ensures.next c.min-2.result c.requires.word c.requires.within bits.type_inv
    (omega (arith, c.min.ensures, c.min-2.ensures))
