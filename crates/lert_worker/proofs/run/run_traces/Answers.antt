use Rattle.std.proofs.Common.{◌≡◌, ◌<◌, ◌^◌, length, arith, subst, refl, ◌∙◌}
use Rattle.lert_fleet.proofs.Places.{read_at}
use Rattle.lert_spec.specs.declared.numbers.Numbers.{Numbers}
use Rattle.lert_worker.specs.{Sending.AreSent, Trace.IsNamed, declared.end.WorkerEnd.TheVariants.Ran}
use Rattle.lert_worker.proofs.{GoingLaws.{runs_all, runs_more, runs_none, runs_stopped}, Given.trace_few, MayLaws.{may_named, resting_named}}
use Rattle.lert_worker.proofs.run.run_traces.Goals as goal

pub loop-place-init : goal.loop-place-init
loop-place-init g c = record {
  may = c.requires.may;
  resting = c.requires.resting;
  settings = refl;
  by_is = refl;
  hi_is = refl;
  so_far = runs_none g.S.Source.remaining g.S.Faulty.faults g.S.Faulty.mark c.args.outbox.now.settings c.args.outbox.now.entry.by c.args.traces.now.items
      c.args.readers.now.items c.args.pass.now;
}

pub loop-place-preserved : goal.loop-place-preserved
loop-place-preserved g c =
    let here = c.loop-place.invariant in
    let old = c.args.outbox.now in
    let place = c.loop-place.place in
    let traces = c.args.traces.now.items in
    let readers = c.loop-place.readers.items in
    let trace = c.index.result.now in
    let below = 2 ^ c.loop-place.outbox.settings.cone_bits in
    let sent = c.in-Ran.ensures.sent in
    let inside : place < length traces = omega (arith, c.loop-place-test.true, c.loop-place.auto.place-end, c.len-place-end.ensures) in
    let many = here.so_far.read.as_many.0 in
    let within : place < length readers = omega (arith, inside, many, c.requires.given.as_many) in
    record {
      may = c.send_trace.ensures.may;
      resting = c.send_trace.ensures.resting;
      settings = c.send_trace.ensures.same.outbox.settings_is ∙ here.settings;
      by_is = c.send_trace.ensures.same.outbox.by_is ∙ here.by_is;
      hi_is = c.send_trace.ensures.same.hi_is ∙ here.hi_is;
      so_far = runs_more g.S.Source.remaining g.S.Faulty.faults g.S.Faulty.mark old.settings old.entry.by traces c.requires.given.ascend place trace
          c.args.readers.now.items readers c.args.pass.now c.loop-place.pass here.so_far c.requires.given.as_many (read_at traces place trace inside c.index.ensures)
          c.index_mut.result.now c.send_trace.new.reader (read_at readers place c.index_mut.result.now within c.index_mut.ensures.value)
          sent.items sent.read below (here.may.belongs.as_many ∙ here.may.cones) c.send_trace.new.pass sent.ends
          (subst (λ (s : Numbers). AreSent s old.entry.by trace below sent.items Ran c.loop-place.pass c.send_trace.new.pass) here.settings
          (subst (λ n. AreSent c.loop-place.outbox.settings n trace below sent.items Ran c.loop-place.pass c.send_trace.new.pass) here.by_is sent.sent));
    }

pub returns-in_default-clause-ended : goal.returns-in_default-clause-ended
returns-in_default-clause-ended g c =
    let here = c.loop-place.invariant in
    let old = c.args.outbox.now in
    let place = c.loop-place.place in
    let traces = c.args.traces.now.items in
    let readers = c.loop-place.readers.items in
    let trace = c.index.result.now in
    let below = 2 ^ c.loop-place.outbox.settings.cone_bits in
    let end = c.send_trace.result in
    let sent = c.send_trace.ensures.sent in
    let inside : place < length traces = omega (arith, c.loop-place-test.true, c.loop-place.auto.place-end, c.len-place-end.ensures) in
    let many = here.so_far.read.as_many.0 in
    let within : place < length readers = omega (arith, inside, many, c.requires.given.as_many) in
    runs_stopped g.S.Source.remaining g.S.Faulty.faults g.S.Faulty.mark old.settings old.entry.by traces c.requires.given.ascend place trace
    c.args.readers.now.items readers c.args.pass.now c.loop-place.pass here.so_far c.requires.given.as_many (read_at traces place trace inside c.index.ensures)
    c.index_mut.result.now c.send_trace.new.reader (read_at readers place c.index_mut.result.now within c.index_mut.ensures.value)
    sent.items sent.read below (here.may.belongs.as_many ∙ here.may.cones) c.send_trace.new.pass end sent.ends c.in_default.not-Ran
    (subst (λ (s : Numbers). IsNamed end (2 ^ s.cone_bits)) here.settings sent.named)
    (subst (λ (s : Numbers). AreSent s old.entry.by trace below sent.items end c.loop-place.pass c.send_trace.new.pass) here.settings
    (subst (λ n. AreSent c.loop-place.outbox.settings n trace below sent.items end c.loop-place.pass c.send_trace.new.pass) here.by_is sent.sent))

pub returns-clause-ended : goal.returns-clause-ended
returns-clause-ended g c =
    let old = c.args.outbox.now in
    let traces = c.args.traces.now.items in
    let all : c.loop-place.place ≡ length traces = omega (arith, c.loop-place-test.false, c.loop-place.auto.place-end, c.len-place-end.ensures) in
    runs_all g.S.Source.remaining g.S.Faulty.faults g.S.Faulty.mark old.settings old.entry.by traces c.loop-place.place c.args.readers.now.items c.loop-place.readers.items
    c.args.pass.now c.loop-place.pass all c.requires.given.as_many c.loop-place.invariant.so_far

pub index-requires : goal.index-requires
index-requires g c = omega (arith, c.loop-place-test.true, c.loop-place.auto.place-end, c.len-place-end.ensures)

pub index_mut-requires : goal.index_mut-requires
index_mut-requires g c =
    let many = c.loop-place.invariant.so_far.read.as_many.0 in
    omega (arith, c.loop-place-test.true, c.loop-place.auto.place-end, c.len-place-end.ensures, many, c.requires.given.as_many)

pub send_trace-requires-clause-may : goal.send_trace-requires-clause-may
send_trace-requires-clause-may g c =
    let inside : c.loop-place.place < length c.args.traces.now.items = omega (arith, c.loop-place-test.true, c.loop-place.auto.place-end, c.len-place-end.ensures) in
    may_named g.H.Held c.args.fleet.now c.loop-place.pass c.loop-place.outbox c.index.result.now
    (trace_few c.args.traces.now.items c.loop-place.place c.index.result.now c.requires.given.few inside c.index.ensures) c.loop-place.invariant.may

pub send_trace-requires-clause-resting : goal.send_trace-requires-clause-resting
send_trace-requires-clause-resting g c =
    let inside : c.loop-place.place < length c.args.traces.now.items = omega (arith, c.loop-place-test.true, c.loop-place.auto.place-end, c.len-place-end.ensures) in
    resting_named c.loop-place.outbox c.index.result.now
    (trace_few c.args.traces.now.items c.loop-place.place c.index.result.now c.requires.given.few inside c.index.ensures) c.loop-place.invariant.resting

pub returns-in_default-clause-may : goal.returns-in_default-clause-may
returns-in_default-clause-may g c = c.send_trace.ensures.may

pub returns-in_default-clause-resting : goal.returns-in_default-clause-resting
returns-in_default-clause-resting g c = c.send_trace.ensures.resting

pub returns-in_default-clause-settings : goal.returns-in_default-clause-settings
returns-in_default-clause-settings g c = c.send_trace.ensures.same.outbox.settings_is ∙ c.loop-place.invariant.settings

pub returns-in_default-clause-by : goal.returns-in_default-clause-by
returns-in_default-clause-by g c = c.send_trace.ensures.same.outbox.by_is ∙ c.loop-place.invariant.by_is

pub returns-in_default-clause-hi : goal.returns-in_default-clause-hi
returns-in_default-clause-hi g c = c.send_trace.ensures.same.hi_is ∙ c.loop-place.invariant.hi_is

pub returns-clause-may : goal.returns-clause-may
returns-clause-may g c = c.loop-place.invariant.may

pub returns-clause-resting : goal.returns-clause-resting
returns-clause-resting g c = c.loop-place.invariant.resting

pub returns-clause-settings : goal.returns-clause-settings
returns-clause-settings g c = c.loop-place.invariant.settings

pub returns-clause-by : goal.returns-clause-by
returns-clause-by g c = c.loop-place.invariant.by_is

pub returns-clause-hi : goal.returns-clause-hi
returns-clause-hi g c = c.loop-place.invariant.hi_is
