use Rattle.std.proofs.Common.{◌+◌, ◌*◌, ◌<◌, ◌^◌, ◌++◌, ◌∷◌, [], length, refl, ap, sym, ◌∙◌, subst, arith}
use Rattle.lert_buffers.specs.Rings.{Rings, fill_of, ring_of}
use Rattle.lert_spec.specs.declared.numbers.Numbers.{Numbers}
use Rattle.lert_worker.specs.{Outbox.{HaveRoom, IsSendable}, Sending.waits_at}
use Rattle.lert_worker.proofs.{TakeLaws.{may_send, room_brought, room_emptied, took, took_refused, waits_few}, MayLaws.{alike_with, may_with}}
use Rattle.lert_worker.proofs.sending.take_item.Goals as goal

pub returns-in-Ok-clause-room : goal.returns-in-Ok-clause-room
returns-in-Ok-clause-room g c =
    let outbox = c.args.outbox.now in
    let idle = c.requires.may.idle in
    let at = c.cone_of-cone.result in
    let within : at < length outbox.rings.rings = omega (arith, c.cone_of-cone.ensures.below, idle.rings_are) in
    subst (λ (s : Numbers). HaveRoom s c.bring.new.self.rings) (sym c.bring.ensures.same.outbox.settings_is)
    (room_brought outbox.settings idle.valid.limits.packet_from outbox.rings c.args.item at c.cone_of-cone.ensures.value within (c.requires.weight, omega arith)
    (c.requires.room at c.cone_of-cone.ensures.below)
    c.push-fill.result c.push-fill.new.self c.bring.new.self.rings (record { by = outbox.entry.by; trace = outbox.entry.trace; items = ring_of c.push-fill.new.self at })
    c.args.pass.now c.bring.new.pass idle.rings_are c.requires.room c.push-fill.ensures.rings
    (c.push-fill.ensures.fill ∙ ap (λ p. fill_of p (length (ring_of outbox.rings at) + 1)) idle.packet_is) c.in-Ok.ensures.brought)

pub returns-in-Ok-clause-taken : goal.returns-in-Ok-clause-taken
returns-in-Ok-clause-taken g c = λ start items lanes.
    let outbox = c.args.outbox.now in
    let idle = c.requires.may.idle in
    let at = c.cone_of-cone.result in
    let within : at < length outbox.rings.rings = omega (arith, c.cone_of-cone.ensures.below, idle.rings_are) in
    took outbox.settings idle.valid.limits.packet_from outbox.rings c.args.item at c.cone_of-cone.ensures.value within (c.requires.weight, omega arith)
    (c.requires.room at c.cone_of-cone.ensures.below)
    outbox.entry.by outbox.entry.trace items start c.args.pass.now lanes c.push-fill.new.self c.push-fill.ensures.rings c.bring.new.pass c.bring.new.self.rings
    c.bring.ensures.others c.push-fill.result (c.push-fill.ensures.fill ∙ ap (λ p. fill_of p (length (ring_of outbox.rings at) + 1)) idle.packet_is) c.in-Ok.ensures.brought

pub returns-in-Err-clause-room : goal.returns-in-Err-clause-room
returns-in-Err-clause-room g c =
    let outbox = c.args.outbox.now in
    let idle = c.requires.may.idle in
    let at = c.cone_of-cone.result in
    subst (λ (s : Numbers). HaveRoom s c.bring.new.self.rings) (sym c.bring.ensures.same.outbox.settings_is)
    (room_emptied outbox.settings outbox.rings c.push-fill.new.self c.bring.new.self.rings at (ring_of outbox.rings at ++ c.args.item ∷ []) idle.valid.limits.packet_from
    idle.rings_are c.requires.room c.push-fill.ensures.rings c.in-Err.ensures.dropped)

pub returns-in-Err-clause-refused : goal.returns-in-Err-clause-refused
returns-in-Err-clause-refused g c = λ start items lanes.
    let outbox = c.args.outbox.now in
    let idle = c.requires.may.idle in
    let at = c.cone_of-cone.result in
    let within : at < length outbox.rings.rings = omega (arith, c.cone_of-cone.ensures.below, idle.rings_are) in
    took_refused outbox.settings idle.valid.limits.packet_from outbox.rings c.args.item at c.cone_of-cone.ensures.value within (c.requires.weight, omega arith)
    (c.requires.room at c.cone_of-cone.ensures.below)
    outbox.entry.by outbox.entry.trace items start c.args.pass.now lanes c.push-fill.new.self c.push-fill.ensures.rings c.in-Err.fault (waits_at c.push-fill.result)
    (2 ^ outbox.settings.cone_bits) c.bring.new.pass c.bring.ensures.others c.in-Err.ensures.brought (waits_few c.push-fill.result)

pub push-fill-requires-clause-cone : goal.push-fill-requires-clause-cone
push-fill-requires-clause-cone g c = subst (λ n. c.cone_of-cone.result < n) (sym c.requires.may.idle.rings_are) c.cone_of-cone.ensures.below

pub push-fill-requires-clause-some : goal.push-fill-requires-clause-some
push-fill-requires-clause-some g c = c.requires.weight

pub push-fill-requires-clause-room : goal.push-fill-requires-clause-room
push-fill-requires-clause-room g c =
    let ring = ring_of c.args.outbox.now.rings c.cone_of-cone.result in
    subst (λ n. length ring < 4 * n) (sym c.requires.may.idle.packet_is) (c.requires.room c.cone_of-cone.result c.cone_of-cone.ensures.below).short

pub bring-requires-clause-may : goal.bring-requires-clause-may
bring-requires-clause-may g c =
    let outbox = c.args.outbox.now in
    let at = c.cone_of-cone.result in
    may_with g.H.Held c.args.fleet.now c.args.pass.now outbox c.push-fill.new.self c.requires.may
    (alike_with outbox.rings c.push-fill.new.self at (ring_of outbox.rings at ++ c.args.item ∷ []) c.push-fill.ensures.rings)

pub bring-requires-clause-cone : goal.bring-requires-clause-cone
bring-requires-clause-cone g c = c.cone_of-cone.ensures.below

pub bring-requires-clause-items : goal.bring-requires-clause-items
bring-requires-clause-items g c =
    let outbox = c.args.outbox.now in
    let idle = c.requires.may.idle in
    let at = c.cone_of-cone.result in
    let within = subst (λ n. at < n) (sym idle.rings_are) c.cone_of-cone.ensures.below in
    subst (λ (r : Rings). IsSendable outbox.settings at (ring_of r at)) (sym c.push-fill.ensures.rings)
    (may_send outbox.settings idle.valid.limits.packet_from outbox.rings c.args.item at c.cone_of-cone.ensures.value within (c.requires.weight, omega arith)
    (c.requires.room at c.cone_of-cone.ensures.below))

pub returns-in-Ok-clause-may : goal.returns-in-Ok-clause-may
returns-in-Ok-clause-may g c = c.bring.ensures.may

pub returns-in-Ok-clause-same : goal.returns-in-Ok-clause-same
returns-in-Ok-clause-same g c =
    let same = c.bring.ensures.same in
    record { outbox = record { settings_is = same.outbox.settings_is; by_is = same.outbox.by_is; trace_is = same.outbox.trace_is }; hi_is = same.hi_is }

pub returns-in-Ok-clause-refused : goal.returns-in-Ok-clause-refused
returns-in-Ok-clause-refused g c = λ start items lanes. tt

pub returns-in-Ok-clause-by_cone : goal.returns-in-Ok-clause-by_cone
returns-in-Ok-clause-by_cone g c = tt

pub returns-in-Err-clause-may : goal.returns-in-Err-clause-may
returns-in-Err-clause-may g c = c.bring.ensures.may

pub returns-in-Err-clause-same : goal.returns-in-Err-clause-same
returns-in-Err-clause-same g c =
    let same = c.bring.ensures.same in
    record { outbox = record { settings_is = same.outbox.settings_is; by_is = same.outbox.by_is; trace_is = same.outbox.trace_is }; hi_is = same.hi_is }

pub returns-in-Err-clause-taken : goal.returns-in-Err-clause-taken
returns-in-Err-clause-taken g c = λ start items lanes. tt

pub returns-in-Err-clause-by_cone : goal.returns-in-Err-clause-by_cone
returns-in-Err-clause-by_cone g c = record { cone = c.cone_of-cone.result; fault = c.in-Err.fault; is = refl; named = c.cone_of-cone.ensures.below }
