use Rattle.lert_merge.proofs.tree.MaskLemmas.{picks}
use Rattle.lert_merge.proofs.tree.mask.stream_of.Goals as goal

pub returns : goal.returns
returns c = picks 32 c.args.is_other c.args.one c.args.other c.wrapping_neg-mask.result c.ranges.one.fits c.ranges.other.fits c.wrapping_neg-mask.type_inv c.wrapping_neg-mask.ensures
