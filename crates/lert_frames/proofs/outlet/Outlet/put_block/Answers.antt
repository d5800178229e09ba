use Rattle.std.proofs.Common.{◌∙◌, refl}
use Rattle.lert_blocks.specs.Text.{block_text}
use Rattle.lert_frames.proofs.OutletLaws.{out_laid}
use Rattle.lert_frames.proofs.outlet.Outlet.put_block.Goals as goal

pub returns-clause-out : goal.returns-clause-out
returns-clause-out c width number pieces filled begin text file out =
    out_laid begin text file c.args.self.now out (block_text width number pieces) c.deref_mut.result.now c.lay_block.new.into c.lay_block.result _
    c.deref_mut.ensures.value (c.lay_block.auto.into ∙ c.deref_mut.ensures.len) (c.lay_block.ensures.text width number pieces filled) refl refl
