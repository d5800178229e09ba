use Rattle.std.proofs.Common.{arith}
use Rattle.lert_blocks.specs.Text.{block_text}
use Rattle.lert_frames.proofs.OutletLaws.{laid_behind}
use Rattle.lert_frames.proofs.outlet.lay_block.Goals as goal

pub returns-clause-text : goal.returns-clause-text
returns-clause-text c width number pieces filled =
    laid_behind c.args.place c.lay.result c.args.into.now c.lay.new.into _ (block_text width number pieces) (omega arith) (omega arith)
    (c.lay.ensures.text width number pieces filled)
