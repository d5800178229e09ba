use Rattle.std.proofs.Common.{◌≡◌, length, subst}
use Rattle.std.specs.Prelude.{IfOk}
use Rattle.lert_top.proofs.cones.rooms.make_rooms.Goals as goal

pub returns-clause-number : goal.returns-clause-number
returns-clause-number g c =
    subst (λ n. IfOk c.share_rooms.result (λ rooms. length rooms.items ≡ n)) c.cones.ensures c.share_rooms.ensures.number
