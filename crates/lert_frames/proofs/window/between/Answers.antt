use Rattle.std.proofs.Common.{◌-◌}
use Rattle.lert_frames.proofs.WindowLaws.{small_part}
use Rattle.lert_frames.proofs.window.between.Goals as goal

pub returns-clause-small : goal.returns-clause-small
returns-clause-small c = small_part c.args.bytes.now c.args.from (c.args.upto - c.args.from) (λ k. (c.type_inv.bytes k).fits)
