use Rattle.std.proofs.Common.{rules}
use Rattle.lert_reports.proofs.log.read.read_position.Goals as goal

pub returns-then-at-n0 : goal.returns-then-at-n0
returns-then-at-n0 c = search rules
