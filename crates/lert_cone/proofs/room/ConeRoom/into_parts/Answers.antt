use Rattle.std.proofs.Common.{◌∙◌}
use Rattle.lert_cone.proofs.UnreadLaws.{unread_none}
use Rattle.lert_cone.proofs.room.ConeRoom.into_parts.Goals as goal
use Rattle.lert_cone.specs.History.{most_version}

pub new-requires-clause-unread : goal.new-requires-clause-unread
new-requires-clause-unread g c = c.of-unread.ensures ∙ unread_none most_version c.args.self.settings c.args.cone (g.B.Bay.files c.args.bay.now)
