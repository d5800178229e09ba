use Rattle.std.proofs.Common.{ap}
use Rattle.lert_cone.specs.Unread.{unread}
use Rattle.lert_cone.proofs.unread.Unread.of.Goals as goal

pub returns : goal.returns
returns g c = ap (λ made. unread c.args.version c.args.settings.now c.args.cone c.args.len (g.B.Bay.files made)) c.of.ensures
