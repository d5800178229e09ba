use Rattle.std.proofs.Common.{arith}
use Rattle.lert_cone.proofs.WeighLaws.{bytes_weigh}
use Rattle.lert_cone.proofs.items.sum_of.Goals as goal

pub added-requires : goal.added-requires
added-requires c = omega (arith, bytes_weigh c.args.weights.now (λ i. (c.type_inv.weights i).fits), c.requires.few)

pub returns-clause-most : goal.returns-clause-most
returns-clause-most c = omega (arith, bytes_weigh c.args.weights.now (λ i. (c.type_inv.weights i).fits), c.added.ensures)
