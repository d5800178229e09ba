use Rattle.std.proofs.Common.{◌+◌, ◌<◌, ◌≤◌, ◌^◌, length, ap, sym, ◌∙◌, subst, arith}
use Rattle.lert_spec.specs.declared.numbers.Numbers.{Numbers}
use Rattle.lert_worker.specs.{Sending.{AreSent, Lanes}, declared.end.WorkerEnd.TheVariants.Ran, Trace.IsByCone}
use Rattle.lert_worker.proofs.{Steps.{drained_below, drained_more, same_on, sent_below, sent_none, to_new, to_old}, MayLaws.same_none}
use Rattle.lert_worker.proofs.sending.send_rests.Goals as goal

pub returns-in-Err-clause-refused : goal.returns-in-Err-clause-refused
returns-in-Err-clause-refused g c = λ start items lanes.
    let old = c.args.outbox.now in
    let here = c.loop-cone.outbox in
    let same = c.loop-cone.invariant.same.outbox in
    to_old (λ s n t. AreSent s n t (2 ^ s.cone_bits) items c.in-Err.end start c.send_rest.new.pass) old here same
    (c.in-Err.ensures.refused start items
    (to_new (λ s n t. Lanes s n t c.loop-cone.cone items start c.loop-cone.pass here.rings) old here same (c.loop-cone.invariant.lanes start items lanes))
    (to_new (λ s n t. AreSent s n t c.loop-cone.cone items Ran start c.loop-cone.pass) old here same (c.loop-cone.invariant.sent start items lanes)))

pub loop-cone-preserved : goal.loop-cone-preserved
loop-cone-preserved g c =
    let old = c.args.outbox.now in
    let here = c.loop-cone.outbox in
    let new = c.send_rest.new.outbox in
    let same = c.loop-cone.invariant.same.outbox in
    let bits = ap (λ (s : Numbers). 2 ^ s.cone_bits) same.settings_is in
    let within : c.loop-cone.cone < length here.rings.rings = omega (arith, c.loop-cone-test.true, c.cones-cone-end.ensures, c.loop-cone.invariant.may.idle.rings_are, bits) in
    record {
      may = c.send_rest.ensures.may;
      room = c.send_rest.ensures.room;
      same = same_on old here new c.args.pass.now c.loop-cone.pass c.send_rest.new.pass c.loop-cone.invariant.same c.send_rest.ensures.same;
      drained = drained_more here.rings new.rings c.loop-cone.cone within c.send_rest.ensures.rings c.loop-cone.invariant.drained;
      lanes = λ start items lanes.
          to_old (λ s n t. Lanes s n t (c.loop-cone.cone + 1) items start c.send_rest.new.pass new.rings) old here same
          (c.in_default.ensures.lanes start items
          (to_new (λ s n t. Lanes s n t c.loop-cone.cone items start c.loop-cone.pass here.rings) old here same (c.loop-cone.invariant.lanes start items lanes)));
      sent = λ start items lanes.
          to_old (λ s n t. AreSent s n t (c.loop-cone.cone + 1) items Ran start c.send_rest.new.pass) old here same
          (c.in_default.ensures.sent start items
          (to_new (λ s n t. Lanes s n t c.loop-cone.cone items start c.loop-cone.pass here.rings) old here same (c.loop-cone.invariant.lanes start items lanes))
          (to_new (λ s n t. AreSent s n t c.loop-cone.cone items Ran start c.loop-cone.pass) old here same (c.loop-cone.invariant.sent start items lanes)));
    }

pub returns-clause-sent : goal.returns-clause-sent
returns-clause-sent g c = λ start items lanes.
    let old = c.args.outbox.now in
    sent_below old.settings old.entry.by old.entry.trace c.loop-cone.cone (2 ^ old.settings.cone_bits) items Ran start c.loop-cone.pass
    (omega (arith, c.loop-cone-test.false, c.cones-cone-end.ensures)) (c.loop-cone.invariant.sent start items lanes)

pub loop-cone-init : goal.loop-cone-init
loop-cone-init g c =
    let outbox = c.args.outbox.now in
    record {
      may = c.requires.may;
      room = c.requires.room;
      same = same_none outbox c.args.pass.now;
      drained = λ cone below. absurd (omega (arith, below));
      lanes = λ start items lanes. lanes;
      sent = λ start items lanes. sent_none outbox.settings outbox.entry.by outbox.entry.trace items start c.args.pass.now lanes.as_many;
    }

pub send_rest-requires-clause-may : goal.send_rest-requires-clause-may
send_rest-requires-clause-may g c = c.loop-cone.invariant.may

pub send_rest-requires-clause-room : goal.send_rest-requires-clause-room
send_rest-requires-clause-room g c = c.loop-cone.invariant.room

pub send_rest-requires-clause-cone : goal.send_rest-requires-clause-cone
send_rest-requires-clause-cone g c =
    let bits = ap (λ (s : Numbers). 2 ^ s.cone_bits) c.loop-cone.invariant.same.outbox.settings_is in
    subst (λ n. c.loop-cone.cone < n) (c.cones-cone-end.ensures ∙ sym bits) c.loop-cone-test.true

pub returns-in-Err-clause-may : goal.returns-in-Err-clause-may
returns-in-Err-clause-may g c = c.send_rest.ensures.may

pub returns-in-Err-clause-same : goal.returns-in-Err-clause-same
returns-in-Err-clause-same g c =
    same_on c.args.outbox.now c.loop-cone.outbox c.send_rest.new.outbox c.args.pass.now c.loop-cone.pass c.send_rest.new.pass c.loop-cone.invariant.same c.send_rest.ensures.same

pub returns-in-Err-clause-drained : goal.returns-in-Err-clause-drained
returns-in-Err-clause-drained g c = tt

pub returns-in-Err-clause-sent : goal.returns-in-Err-clause-sent
returns-in-Err-clause-sent g c = λ start items lanes. tt

pub returns-in-Err-clause-by_cone : goal.returns-in-Err-clause-by_cone
returns-in-Err-clause-by_cone g c = subst (λ (s : Numbers). IsByCone (2 ^ s.cone_bits) c.in-Err.end) c.loop-cone.invariant.same.outbox.settings_is c.in-Err.ensures.by_cone

pub returns-clause-may : goal.returns-clause-may
returns-clause-may g c = c.loop-cone.invariant.may

pub returns-clause-same : goal.returns-clause-same
returns-clause-same g c = c.loop-cone.invariant.same

pub returns-clause-drained : goal.returns-clause-drained
returns-clause-drained g c =
    let bits = ap (λ (s : Numbers). 2 ^ s.cone_bits) c.loop-cone.invariant.same.outbox.settings_is in
    let all = subst (λ n. n ≤ c.loop-cone.cone) (c.cones-cone-end.ensures ∙ sym bits) c.loop-cone-test.false in
    drained_below c.loop-cone.outbox.rings c.loop-cone.cone (2 ^ c.loop-cone.outbox.settings.cone_bits) all c.loop-cone.invariant.drained

pub returns-clause-refused : goal.returns-clause-refused
returns-clause-refused g c = λ start items lanes. tt

pub returns-clause-by_cone : goal.returns-clause-by_cone
returns-clause-by_cone g c = tt
