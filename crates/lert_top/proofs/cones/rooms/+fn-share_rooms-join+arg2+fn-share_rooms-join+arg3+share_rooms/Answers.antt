use denote.Param.Send.{sendable}
use Rattle.std.proofs.{Crossing.crosses, Common.rules, lemmas.List.Elements.{All-append, All-same}}
use Rattle.lert_cone.proofs.ConeSend.{room_send}
use Rattle.std.specs.Prelude.{All}
use Rattle.lert_ingest.specs.Cones.{IsNewRoom}
use Rattle.lert_top.proofs.cones.rooms.+fn-share_rooms-join+arg2+fn-share_rooms-join+arg3+share_rooms.Goals as goal

pub returns-clause-each : goal.returns-clause-each
returns-clause-each g t c =
    let front : All (IsNewRoom c.args.settings.now) c.in_ok-rooms.rooms.items = search rules in
    let back : All (IsNewRoom c.args.settings.now) c.in_ok-back.field-0.items = search rules in
    All-same (IsNewRoom c.args.settings.now) c.append.new.self.items _ c.in_ok-append.ensures.items
    (All-append (IsNewRoom c.args.settings.now) c.in_ok-rooms.rooms.items c.in_ok-back.field-0.items front back)

pub join-front-requires-send-A : goal.join-front-requires-send-A
join-front-requires-send-A g t c κs within = search (sendable, crosses, room_send) depth 60 fits 20000
