use Rattle.std.proofs.Common.{sym}
use Rattle.lert_cone.proofs.UnreadLaws.{length_unread}
use Rattle.lert_cone.proofs.unread.Unread.len.Goals as goal

pub returns : goal.returns
returns g c = rw (← c.self.view_is) (sym (length_unread c.self.inside.version c.self.inside.settings c.self.inside.cone c.self.inside.len (g.B.Bay.files c.self.inside.made.value)))
