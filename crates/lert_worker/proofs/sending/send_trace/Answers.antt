use Rattle.std.proofs.Common.{◌^◌}
use Rattle.lert_worker.specs.{Sending.{AreSent, Lanes}, Trace.IsNamed, declared.end.WorkerEnd.TheVariants.Ran}
use Rattle.lert_worker.proofs.{ReadLaws.{ends_by_cone, named_by_cone}, Steps.{same_on, same_outbox, to_new, to_old}, MayLaws.may_rested}
use Rattle.lert_worker.proofs.sending.send_trace.Goals as goal

pub returns-in-Err-send_rests-clause-sent : goal.returns-in-Err-send_rests-clause-sent
returns-in-Err-send_rests-clause-sent g c =
    let old = c.args.outbox.now in
    let mid = c.read_items.new.outbox in
    let read = c.in_default.ensures.read in
    let same = c.read_items.ensures.same.outbox in
    record {
      items = read.items;
      read = read.read;
      ends = ends_by_cone g.S.Source.remaining c.in-Err-send_rests.end old.entry.trace c.read_items.new.reader (2 ^ mid.settings.cone_bits) c.in-Err-send_rests.ensures.by_cone read.at_end.sound;
      named = to_old (λ s n t. IsNamed c.in-Err-send_rests.end (2 ^ s.cone_bits)) old mid same
          (named_by_cone c.in-Err-send_rests.end (2 ^ mid.settings.cone_bits) c.in-Err-send_rests.ensures.by_cone);
      sent = to_old (λ s n t. AreSent s n t (2 ^ s.cone_bits) read.items c.in-Err-send_rests.end c.args.pass.now c.send_rests.new.pass) old mid same
          (c.in-Err-send_rests.ensures.refused c.args.pass.now read.items
          (to_new (λ s n t. Lanes s n t 0 read.items c.args.pass.now c.read_items.new.pass mid.rings) old mid same read.lanes));
    }

pub returns-clause-sent : goal.returns-clause-sent
returns-clause-sent g c =
    let old = c.args.outbox.now in
    let mid = c.read_items.new.outbox in
    let read = c.in_default.ensures.read in
    let same = c.read_items.ensures.same.outbox in
    record {
      items = read.items;
      read = read.read;
      ends = read.at_end;
      named = λ cone fault is. absurd (cc);
      sent = to_old (λ s n t. AreSent s n t (2 ^ s.cone_bits) read.items Ran c.args.pass.now c.send_rests.new.pass) old mid same
          (c.in_default-send_rests.ensures.sent c.args.pass.now read.items
          (to_new (λ s n t. Lanes s n t 0 read.items c.args.pass.now c.read_items.new.pass mid.rings) old mid same read.lanes));
    }

pub read_items-requires-clause-may : goal.read_items-requires-clause-may
read_items-requires-clause-may g c = c.requires.may

pub read_items-requires-clause-resting : goal.read_items-requires-clause-resting
read_items-requires-clause-resting g c = c.requires.resting

pub drop_items-requires : goal.drop_items-requires
drop_items-requires g c = c.read_items.ensures.may.idle

pub returns-in-Err-clause-may : goal.returns-in-Err-clause-may
returns-in-Err-clause-may g c =
    may_rested g.H.Held c.args.fleet.now c.read_items.new.pass c.read_items.new.outbox c.drop_items.new.self c.read_items.ensures.may c.drop_items.ensures.resting c.drop_items.ensures.same

pub returns-in-Err-clause-resting : goal.returns-in-Err-clause-resting
returns-in-Err-clause-resting g c = c.drop_items.ensures.resting

pub returns-in-Err-clause-same : goal.returns-in-Err-clause-same
returns-in-Err-clause-same g c =
    record {
      outbox = same_outbox c.args.outbox.now c.read_items.new.outbox c.drop_items.new.self c.read_items.ensures.same.outbox c.drop_items.ensures.same;
      hi_is = c.read_items.ensures.same.hi_is;
    }

pub returns-in-Err-clause-sent : goal.returns-in-Err-clause-sent
returns-in-Err-clause-sent g c =
    let read = c.in-Err.ensures.read in
    record { items = read.items; read = read.read; ends = read.stopped; named = read.named; sent = read.sent }

pub send_rests-requires-clause-may : goal.send_rests-requires-clause-may
send_rests-requires-clause-may g c = c.read_items.ensures.may

pub send_rests-requires-clause-room : goal.send_rests-requires-clause-room
send_rests-requires-clause-room g c = c.read_items.ensures.room

pub drop_items-requires-in-Err-send_rests : goal.drop_items-requires-in-Err-send_rests
drop_items-requires-in-Err-send_rests g c = c.send_rests.ensures.may.idle

pub returns-in-Err-send_rests-clause-may : goal.returns-in-Err-send_rests-clause-may
returns-in-Err-send_rests-clause-may g c =
    let dropped = c.drop_items-in-Err-send_rests in
    may_rested g.H.Held c.args.fleet.now c.send_rests.new.pass c.send_rests.new.outbox dropped.new.self c.send_rests.ensures.may dropped.ensures.resting dropped.ensures.same

pub returns-in-Err-send_rests-clause-resting : goal.returns-in-Err-send_rests-clause-resting
returns-in-Err-send_rests-clause-resting g c = c.drop_items-in-Err-send_rests.ensures.resting

pub returns-in-Err-send_rests-clause-same : goal.returns-in-Err-send_rests-clause-same
returns-in-Err-send_rests-clause-same g c =
    let old = c.args.outbox.now in
    let same = same_on old c.read_items.new.outbox c.send_rests.new.outbox c.args.pass.now c.read_items.new.pass c.send_rests.new.pass c.read_items.ensures.same c.send_rests.ensures.same in
    record {
      outbox = same_outbox old c.send_rests.new.outbox c.drop_items-in-Err-send_rests.new.self same.outbox c.drop_items-in-Err-send_rests.ensures.same;
      hi_is = same.hi_is;
    }

pub returns-clause-may : goal.returns-clause-may
returns-clause-may g c = c.send_rests.ensures.may

pub returns-clause-resting : goal.returns-clause-resting
returns-clause-resting g c = record { idle = c.send_rests.ensures.may.idle; drained = c.in_default-send_rests.ensures.drained }

pub returns-clause-same : goal.returns-clause-same
returns-clause-same g c =
    same_on c.args.outbox.now c.read_items.new.outbox c.send_rests.new.outbox c.args.pass.now c.read_items.new.pass c.send_rests.new.pass c.read_items.ensures.same c.send_rests.ensures.same
