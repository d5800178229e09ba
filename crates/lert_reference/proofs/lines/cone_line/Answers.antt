use Rattle.std.proofs.Common.{append_assoc}
use Rattle.lert_reference.proofs.lines.cone_line.Goals as goal

pub returns : goal.returns
returns c = simp append_assoc (rw (← c.ending-end.ensures) c.format.ensures.ok)
