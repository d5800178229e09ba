use Rattle.std.proofs.Common.{rules}
use Rattle.lert_io.proofs.seen.Seen.push.Goals as goal

pub returns : goal.returns
returns g c = search rules
