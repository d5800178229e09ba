use Rattle.std.proofs.Common.{◌≢◌, ◌^◌, ◌<◌, length, refl, ◌∙◌, sym, subst}
use Rattle.lert_buffers.specs.Rings.{ring_of}
use Rattle.lert_worker.proofs.{RestLaws.{lanes_above, lanes_rested, may_go, rest_goes, rest_none, rest_turned, ring_empty, room_rest}, MayLaws.same_none}
use Rattle.lert_worker.proofs.sending.send_rest.Goals as goal

pub returns-then-left-eq0-clause-sent : goal.returns-then-left-eq0-clause-sent
returns-then-left-eq0-clause-sent g c = λ start items lanes rested.
    let outbox = c.args.outbox.now in
    rest_none outbox.settings c.requires.may.idle.valid.limits.packet_from outbox.rings c.args.cone outbox.entry.by outbox.entry.trace items start c.args.pass.now lanes rested
    (sym c.len-left.ensures.value ∙ c.if-left-eq0.true)

pub returns-in-Ok-clause-sent : goal.returns-in-Ok-clause-sent
returns-in-Ok-clause-sent g c = λ start items lanes rested.
    let outbox = c.args.outbox.now in
    let some : length (ring_of outbox.rings c.args.cone) ≢ 0 = λ none. c.if-left-eq0.false (c.len-left.ensures.value ∙ none) in
    rest_goes outbox.settings c.requires.may.idle.valid.limits.packet_from outbox.rings c.args.cone outbox.entry.by outbox.entry.trace items start c.args.pass.now lanes rested
    c.wait_packet.new.pass c.wait_packet.ensures.others (may_go outbox.settings c.args.cone (ring_of outbox.rings c.args.cone) (c.requires.room c.args.cone c.requires.cone) some)
    c.wait_packet.new.self.rings c.in-Ok.ensures.done

pub returns-in-Err-clause-refused : goal.returns-in-Err-clause-refused
returns-in-Err-clause-refused g c = λ start items lanes rested.
    let outbox = c.args.outbox.now in
    let some : length (ring_of outbox.rings c.args.cone) ≢ 0 = λ none. c.if-left-eq0.false (c.len-left.ensures.value ∙ none) in
    rest_turned outbox.settings c.requires.may.idle.valid.limits.packet_from outbox.rings c.args.cone outbox.entry.by outbox.entry.trace items start c.args.pass.now lanes rested
    c.wait_packet.new.pass c.wait_packet.ensures.others (may_go outbox.settings c.args.cone (ring_of outbox.rings c.args.cone) (c.requires.room c.args.cone c.requires.cone) some)
    c.in-Err.fault (2 ^ outbox.settings.cone_bits) c.in-Err.ensures.refused

pub len-left-requires : goal.len-left-requires
len-left-requires g c = subst (λ n. c.args.cone < n) (sym c.requires.may.idle.rings_are) c.requires.cone

pub returns-then-left-eq0-clause-may : goal.returns-then-left-eq0-clause-may
returns-then-left-eq0-clause-may g c = c.requires.may

pub returns-then-left-eq0-clause-room : goal.returns-then-left-eq0-clause-room
returns-then-left-eq0-clause-room g c = c.requires.room

pub returns-then-left-eq0-clause-same : goal.returns-then-left-eq0-clause-same
returns-then-left-eq0-clause-same g c = same_none c.args.outbox.now c.args.pass.now

pub returns-then-left-eq0-clause-rings : goal.returns-then-left-eq0-clause-rings
returns-then-left-eq0-clause-rings g c = ring_empty c.args.outbox.now.rings c.args.cone (sym c.len-left.ensures.value ∙ c.if-left-eq0.true)

pub returns-then-left-eq0-clause-lanes : goal.returns-then-left-eq0-clause-lanes
returns-then-left-eq0-clause-lanes g c =
    λ start items lanes.
    let outbox = c.args.outbox.now in
    lanes_above outbox.settings outbox.entry.by outbox.entry.trace c.args.cone items start c.args.pass.now outbox.rings lanes

pub returns-then-left-eq0-clause-refused : goal.returns-then-left-eq0-clause-refused
returns-then-left-eq0-clause-refused g c = λ start items lanes rested. tt

pub returns-then-left-eq0-clause-by_cone : goal.returns-then-left-eq0-clause-by_cone
returns-then-left-eq0-clause-by_cone g c = tt

pub wait_packet-requires-clause-may : goal.wait_packet-requires-clause-may
wait_packet-requires-clause-may g c = c.requires.may

pub wait_packet-requires-clause-cone : goal.wait_packet-requires-clause-cone
wait_packet-requires-clause-cone g c = c.requires.cone

pub wait_packet-requires-clause-items : goal.wait_packet-requires-clause-items
wait_packet-requires-clause-items g c =
    let some : length (ring_of c.args.outbox.now.rings c.args.cone) ≢ 0 = λ none. c.if-left-eq0.false (c.len-left.ensures.value ∙ none) in
    may_go c.args.outbox.now.settings c.args.cone (ring_of c.args.outbox.now.rings c.args.cone) (c.requires.room c.args.cone c.requires.cone) some

pub returns-in-Ok-clause-may : goal.returns-in-Ok-clause-may
returns-in-Ok-clause-may g c = c.wait_packet.ensures.may

pub returns-in-Ok-clause-room : goal.returns-in-Ok-clause-room
returns-in-Ok-clause-room g c =
    room_rest c.args.outbox.now.settings c.wait_packet.new.self.settings c.args.outbox.now.rings c.wait_packet.new.self.rings c.args.cone
    c.requires.may.idle.valid.limits.packet_from c.requires.may.idle.rings_are c.requires.room c.in-Ok.ensures.done.rings_are c.wait_packet.ensures.same.outbox.settings_is

pub returns-in-Ok-clause-same : goal.returns-in-Ok-clause-same
returns-in-Ok-clause-same g c = c.wait_packet.ensures.same

pub returns-in-Ok-clause-rings : goal.returns-in-Ok-clause-rings
returns-in-Ok-clause-rings g c = c.in-Ok.ensures.done.rings_are

pub returns-in-Ok-clause-lanes : goal.returns-in-Ok-clause-lanes
returns-in-Ok-clause-lanes g c =
    λ start items lanes.
    let outbox = c.args.outbox.now in
    lanes_rested outbox.settings outbox.entry.by outbox.entry.trace c.args.cone items start c.args.pass.now c.wait_packet.new.pass outbox.rings c.wait_packet.new.self.rings
    c.wait_packet.ensures.others c.in-Ok.ensures.done.rings_are lanes

pub returns-in-Ok-clause-refused : goal.returns-in-Ok-clause-refused
returns-in-Ok-clause-refused g c = λ start items lanes rested. tt

pub returns-in-Ok-clause-by_cone : goal.returns-in-Ok-clause-by_cone
returns-in-Ok-clause-by_cone g c = tt

pub returns-in-Err-clause-may : goal.returns-in-Err-clause-may
returns-in-Err-clause-may g c = c.wait_packet.ensures.may

pub returns-in-Err-clause-room : goal.returns-in-Err-clause-room
returns-in-Err-clause-room g c =
    room_rest c.args.outbox.now.settings c.wait_packet.new.self.settings c.args.outbox.now.rings c.wait_packet.new.self.rings c.args.cone
    c.requires.may.idle.valid.limits.packet_from c.requires.may.idle.rings_are c.requires.room c.in-Err.ensures.dropped c.wait_packet.ensures.same.outbox.settings_is

pub returns-in-Err-clause-same : goal.returns-in-Err-clause-same
returns-in-Err-clause-same g c = c.wait_packet.ensures.same

pub returns-in-Err-clause-rings : goal.returns-in-Err-clause-rings
returns-in-Err-clause-rings g c = c.in-Err.ensures.dropped

pub returns-in-Err-clause-lanes : goal.returns-in-Err-clause-lanes
returns-in-Err-clause-lanes g c = λ start items lanes. tt

pub returns-in-Err-clause-sent : goal.returns-in-Err-clause-sent
returns-in-Err-clause-sent g c = λ start items lanes rested. tt

pub returns-in-Err-clause-by_cone : goal.returns-in-Err-clause-by_cone
returns-in-Err-clause-by_cone g c = record { cone = c.args.cone; fault = c.in-Err.fault; is = refl; named = c.requires.cone }
