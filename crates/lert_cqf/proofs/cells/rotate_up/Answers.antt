use Rattle.lert_cqf.proofs.RotateLemmas.{rotated}
use Rattle.lert_cqf.proofs.cells.rotate_up.Goals as goal

pub returns : goal.returns
returns c = rotated c.args.slots.now c.rotate_right.new.self c.args.from c.args.to c.requires.order c.requires.within c.rotate_right.ensures.after
