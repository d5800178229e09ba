use Rattle.std.proofs.{Common.{◌^◌, ◌++◌, ◌∷◌, [], refl, sym, ◌∙◌, subst}, lemmas.Option.same_Some}
use Rattle.lert_trace.specs.Reader.{Means}
use Rattle.lert_worker.specs.{Sending.{AreSent, Lanes}, Trace.IsNamed, declared.end.WorkerEnd.TheVariants.Trace}
use Rattle.lert_worker.proofs.ReadLaws.{at_end, ends_by_cone, fewer_left, named_by_cone, was_ended, was_more, was_new, was_still}
use Rattle.lert_worker.proofs.Steps.{lanes_start, lanes_stopped, room_resting, same_on, to_new, to_old}
use Rattle.lert_worker.proofs.sending.read_items.Goals as goal

pub loop-item-init : goal.loop-item-init
loop-item-init g c =
    let outbox = c.args.outbox.now in
    record {
      may = c.requires.may;
      room = room_resting outbox c.requires.resting;
      same = record { outbox = record { settings_is = refl; by_is = refl; trace_is = refl }; hi_is = refl };
      items = [];
      read = was_new g.S.Source.remaining g.S.Faulty.faults g.S.Faulty.mark c.args.reader.now;
      lanes = lanes_start outbox.settings c.requires.resting.idle.valid.limits.packet_from outbox.entry.by outbox.entry.trace c.args.pass.now outbox.rings
          (c.requires.may.belongs.as_many ∙ c.requires.may.cones) c.requires.resting.drained;
    }

pub loop-item-preserved : goal.loop-item-preserved
loop-item-preserved g c =
    let here = c.loop-item.invariant in
    let old = c.args.outbox.now in
    let mid = c.loop-item.outbox in
    let counted = rw c.in-Ok-Some.field-0-is at c.in-Ok-Some.ensures.counted in
    record {
      may = c.take_item.ensures.may;
      room = c.take_item.ensures.room;
      same = same_on old mid c.take_item.new.outbox c.args.pass.now c.loop-item.pass c.take_item.new.pass here.same c.take_item.ensures.same;
      items = here.items ++ c.in-Ok-Some.item ∷ [];
      read = was_more g.S.Source.remaining g.S.Faulty.faults g.S.Faulty.mark c.args.reader.now c.loop-item.reader c.next.new.self here.items here.read
          c.next.ensures.same_reader c.next.ensures.same_limit c.next.ensures.never_falls c.next.ensures.mark c.in-Ok-Some.item counted.0 counted.1
          (λ bytes was. rw c.in-Ok-Some.field-0-is at (c.in-Ok-Some.ensures.item bytes was)) (c.in-Ok-Some.ensures.no_fault refl);
      lanes = to_old (λ s n t. Lanes s n t 0 (here.items ++ c.in-Ok-Some.item ∷ []) c.args.pass.now c.take_item.new.pass c.take_item.new.outbox.rings) old mid here.same.outbox
          (c.in_default.ensures.taken c.args.pass.now here.items
          (to_new (λ s n t. Lanes s n t 0 here.items c.args.pass.now c.loop-item.pass mid.rings) old mid here.same.outbox here.lanes));
    }

pub returns-in-Ok-None-clause-read : goal.returns-in-Ok-None-clause-read
returns-in-Ok-None-clause-read g c =
    let here = c.loop-item.invariant in
    let given = rw c.in-Ok-None.field-0-is at c.in-Ok-None.ensures.ended in
    record {
      items = here.items;
      read = was_ended g.S.Source.remaining g.S.Faulty.faults g.S.Faulty.mark c.args.reader.now c.loop-item.reader c.next.new.self here.items here.read
          c.next.ensures.same_reader c.next.ensures.same_limit c.next.ensures.never_falls c.next.ensures.mark given (c.in-Ok-None.ensures.no_fault refl);
      at_end = at_end g.S.Source.remaining c.loop-item.reader c.next.new.self c.next.ensures.same_reader given (c.in-Ok-None.ensures.no_fault refl)
          (λ bytes was. rw c.in-Ok-None.field-0-is at (c.in-Ok-None.ensures.end bytes was));
      lanes = here.lanes;
      stopped = tt;
      named = tt;
      sent = tt;
    }

pub returns-in-Err-clause-read : goal.returns-in-Err-clause-read
returns-in-Err-clause-read g c =
    let here = c.loop-item.invariant in
    let old = c.args.outbox.now in
    let faulty = c.in-Err.ensures.fault in
    record {
      items = here.items;
      read = was_still g.S.Source.remaining g.S.Faulty.faults g.S.Faulty.mark c.args.reader.now c.loop-item.reader c.next.new.self here.items here.read
          c.next.ensures.same_reader c.next.ensures.same_limit c.next.ensures.never_falls c.next.ensures.mark faulty.1
          (λ fault is. subst (Means g.S.Source.remaining g.S.Faulty.faults c.next.new.self.made c.next.new.self.source c.next.new.self.limit c.next.new.self.given)
          (same_Some c.in-Err.fault fault (sym faulty.0 ∙ is)) c.in-Err.ensures.cause);
      at_end = tt;
      lanes = tt;
      stopped = (here.same.outbox.trace_is, faulty.0);
      named = λ cone fault is. absurd (cc);
      sent = lanes_stopped old.settings c.requires.resting.idle.valid.limits.packet_from old.entry.by old.entry.trace here.items c.args.pass.now c.loop-item.pass c.loop-item.outbox.rings
          (Trace c.loop-item.outbox.entry.trace c.in-Err.fault) (2 ^ old.settings.cone_bits) (λ cone. refl) (λ ran. cc) here.lanes;
    }

pub returns-in-Err-take_item-clause-read : goal.returns-in-Err-take_item-clause-read
returns-in-Err-take_item-clause-read g c =
    let here = c.loop-item.invariant in
    let old = c.args.outbox.now in
    let mid = c.loop-item.outbox in
    let counted = rw c.in-Ok-Some.field-0-is at c.in-Ok-Some.ensures.counted in
    record {
      items = here.items ++ c.in-Ok-Some.item ∷ [];
      read = was_more g.S.Source.remaining g.S.Faulty.faults g.S.Faulty.mark c.args.reader.now c.loop-item.reader c.next.new.self here.items here.read
          c.next.ensures.same_reader c.next.ensures.same_limit c.next.ensures.never_falls c.next.ensures.mark c.in-Ok-Some.item counted.0 counted.1
          (λ bytes was. rw c.in-Ok-Some.field-0-is at (c.in-Ok-Some.ensures.item bytes was)) (c.in-Ok-Some.ensures.no_fault refl);
      at_end = tt;
      lanes = tt;
      stopped = ends_by_cone g.S.Source.remaining c.in-Err-take_item.end old.entry.trace c.next.new.self (2 ^ mid.settings.cone_bits) c.in-Err-take_item.ensures.by_cone
          (c.in-Ok-Some.ensures.no_fault refl);
      named = to_old (λ s n t. IsNamed c.in-Err-take_item.end (2 ^ s.cone_bits)) old mid here.same.outbox
          (named_by_cone c.in-Err-take_item.end (2 ^ mid.settings.cone_bits) c.in-Err-take_item.ensures.by_cone);
      sent = to_old (λ s n t. AreSent s n t (2 ^ s.cone_bits) (here.items ++ c.in-Ok-Some.item ∷ []) c.in-Err-take_item.end c.args.pass.now c.take_item.new.pass) old mid here.same.outbox
          (c.in-Err-take_item.ensures.refused c.args.pass.now here.items
          (to_new (λ s n t. Lanes s n t 0 here.items c.args.pass.now c.loop-item.pass mid.rings) old mid here.same.outbox here.lanes));
    }

pub returns-in-Ok-None-clause-may : goal.returns-in-Ok-None-clause-may
returns-in-Ok-None-clause-may g c = c.loop-item.invariant.may

pub returns-in-Ok-None-clause-room : goal.returns-in-Ok-None-clause-room
returns-in-Ok-None-clause-room g c = c.loop-item.invariant.room

pub returns-in-Ok-None-clause-same : goal.returns-in-Ok-None-clause-same
returns-in-Ok-None-clause-same g c = c.loop-item.invariant.same

pub returns-in-Err-clause-may : goal.returns-in-Err-clause-may
returns-in-Err-clause-may g c = c.loop-item.invariant.may

pub returns-in-Err-clause-room : goal.returns-in-Err-clause-room
returns-in-Err-clause-room g c = c.loop-item.invariant.room

pub returns-in-Err-clause-same : goal.returns-in-Err-clause-same
returns-in-Err-clause-same g c = c.loop-item.invariant.same

pub take_item-requires-clause-may : goal.take_item-requires-clause-may
take_item-requires-clause-may g c = c.loop-item.invariant.may

pub take_item-requires-clause-room : goal.take_item-requires-clause-room
take_item-requires-clause-room g c = c.loop-item.invariant.room

pub returns-in-Err-take_item-clause-may : goal.returns-in-Err-take_item-clause-may
returns-in-Err-take_item-clause-may g c = c.take_item.ensures.may

pub returns-in-Err-take_item-clause-room : goal.returns-in-Err-take_item-clause-room
returns-in-Err-take_item-clause-room g c = c.take_item.ensures.room

pub returns-in-Err-take_item-clause-same : goal.returns-in-Err-take_item-clause-same
returns-in-Err-take_item-clause-same g c =
    same_on c.args.outbox.now c.loop-item.outbox c.take_item.new.outbox c.args.pass.now c.loop-item.pass c.take_item.new.pass c.loop-item.invariant.same c.take_item.ensures.same

pub loop-item-smaller : goal.loop-item-smaller
loop-item-smaller g c =
    fewer_left c.in-Ok-Some.field-0 c.in-Ok-Some.item c.loop-item.reader.limit c.next.new.self.limit c.loop-item.reader.given c.next.new.self.given c.in-Ok-Some.field-0-is
    c.next.ensures.same_limit c.in-Ok-Some.ensures.counted

pub take_item-requires-clause-weight : goal.take_item-requires-clause-weight
take_item-requires-clause-weight g c = rw c.in-Ok-Some.field-0-is at c.in-Ok-Some.ensures.weight
