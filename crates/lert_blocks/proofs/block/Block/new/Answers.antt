use Rattle.std.proofs.Common.{arith, refl}
use Rattle.lert_blocks.proofs.FillingLaws.{filled_none}
use Rattle.lert_blocks.proofs.block.Block.new.Goals as goal

pub returns : goal.returns
returns c = λ width block. filled_none width block _ refl (omega arith) refl (c.in_ok-ends.ensures.items_if_clones_equal (λ y same. same))
