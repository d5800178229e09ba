use Rattle.std.proofs.Common.{rules}
use Rattle.lert_reports.proofs.log.read.keeps_n0.Goals as goal

pub returns-then-n0-capacity : goal.returns-then-n0-capacity
returns-then-n0-capacity c = search rules
