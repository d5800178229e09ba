use Rattle.std.proofs.{Common.{refl, sym, ◌∙◌}, lemmas.List.length-map}
use Rattle.lert_cone.specs.Stands.{Standing}
use Rattle.lert_ingest.specs.{Bays.bays_of, Stops.out_of_memory}
use Rattle.lert_ingest.proofs.{BayLaws.{are_more, are_same}, Exactly.exact_memory}
use Rattle.lert_top.proofs.cones.TakenLaws.{taken_since}
use Rattle.lert_top.proofs.{cones.StatusLaws.{err_at, ok_at, no_memory_not_done}, cones.AskedLaws.traces_same, runs.DoneLaws.reading_not_done, runs.Ending.ends_since}
use Rattle.lert_top.proofs.runs.RunLaws.{exact_ended, exact_stopped}
use Rattle.lert_top.specs.runs.Run.{ended, stopped}
use Rattle.lert_top.proofs.runs.runs.run_cones.Goals as goal

-- there was no memory, and nothing was read
pub returns-in-Err : goal.returns-in-Err
returns-in-Err g c =
    let bays = bays_of c.args.cones.items in
    record {
      later = are_same g.B.Bay.files g.B.Faulty.faults g.B.Faulty.mark bays;
      traces_later = traces_same g.S.Faulty.faults g.S.Faulty.mark c.args.traces.items;
      shows = stopped (out_of_memory refl refl) refl;
      exact = exact_memory g.S.Source.remaining g.S.Faulty.faults g.B.Bay.files g.B.Faulty.faults c.args.settings.now c.args.traces.items c.args.traces.items c.args.workers bays bays _ _
          (λ texts are. refl);
      closed = λ is. absurd (no_memory_not_done is);
    }

pub ingest-traces-requires-clause-least : goal.ingest-traces-requires-clause-least
ingest-traces-requires-clause-least g c = λ lifetimes outlive. c.requires.least

pub ingest-traces-requires-clause-most : goal.ingest-traces-requires-clause-most
ingest-traces-requires-clause-most g c = λ lifetimes outlive. c.requires.most

pub ingest-traces-requires-clause-some : goal.ingest-traces-requires-clause-some
ingest-traces-requires-clause-some g c = λ lifetimes outlive. c.requires.some

pub ingest-traces-requires-clause-few : goal.ingest-traces-requires-clause-few
ingest-traces-requires-clause-few g c = λ lifetimes outlive. c.requires.few

pub ingest-traces-requires-clause-number : goal.ingest-traces-requires-clause-number
ingest-traces-requires-clause-number g c = λ lifetimes outlive. c.requires.number

pub ingest-traces-requires-clause-new_cones : goal.ingest-traces-requires-clause-new_cones
ingest-traces-requires-clause-new_cones g c = λ lifetimes outlive. c.requires.new_cones

pub returns-in-Err-read : goal.returns-in-Err-read
returns-in-Err-read g c = record {
  later = c.ingest-traces.ensures.later;
  traces_later = c.ingest-traces.ensures.traces_later;
  shows = stopped (err_at c.ingest-traces.result.2 c.in-Err-read.status _ c.in-Err-read.is c.ingest-traces.ensures.stopped) refl;
  exact =
      exact_stopped g.S.Source.remaining g.S.Faulty.faults g.K.Sink.taken g.K.Faulty.faults g.B.Bay.files g.B.Faulty.faults c.args.settings.now c.args.workers
      c.args.traces.items c.ingest-traces.result.0.items c.args.out.now c.args.out.now (bays_of c.args.cones.items) (bays_of c.ingest-traces.result.1.items)
      c.ingest-traces.result.2 c.in-Err-read.status c.in-Err-read.is c.ingest-traces.ensures.exact;
  closed = λ is.
      absurd (reading_not_done g.S.Source.remaining g.S.Faulty.faults g.B.Bay.files g.B.Faulty.faults c.args.settings.now c.args.workers
      c.args.traces.items c.ingest-traces.result.0.items (bays_of c.args.cones.items) (bays_of c.ingest-traces.result.1.items) c.in-Err-read.status
      (err_at c.ingest-traces.result.2 c.in-Err-read.status _ c.in-Err-read.is c.ingest-traces.ensures.stopped) is);
}

pub finish_and_print-status-requires : goal.finish_and_print-status-requires
finish_and_print-status-requires g c = record {
  empty = c.in-Ok.ensures;
  number =
      sym (length-map c.ingest-traces.result.1.items (λ (cone : Standing g.row.B.Denot). cone.bay))
      ∙ (c.ingest-traces.ensures.later.number ∙ (length-map c.args.cones.items (λ (cone : Standing g.row.B.Denot). cone.bay) ∙ c.requires.number));
  weaving =
      let read = ok_at c.ingest-traces.result.2 _ c.in_default.is c.ingest-traces.ensures.read in
      (c.args.workers, (read.traces, read.weaving));
}

pub returns : goal.returns
returns g c = record {
  later =
      are_more g.B.Bay.files g.B.Faulty.faults g.B.Faulty.mark (bays_of c.args.cones.items) (bays_of c.ingest-traces.result.1.items)
      (bays_of c.finish_and_print-status.new.cones.items) c.ingest-traces.ensures.later c.finish_and_print-status.ensures.later;
  traces_later = c.ingest-traces.ensures.traces_later;
  shows =
      let read = ok_at c.ingest-traces.result.2 _ c.in_default.is c.ingest-traces.ensures.read in
      ended read.traces read.items read.read
      (taken_since g.B.Bay.files g.B.Faulty.faults g.B.Faulty.mark c.args.settings.now read.traces (bays_of c.ingest-traces.result.1.items)
      (bays_of c.finish_and_print-status.new.cones.items) c.finish_and_print-status.ensures.later read.fits)
      (ends_since g.S.Source.remaining g.S.Faulty.faults g.K.Sink.taken g.K.Faulty.faults g.B.Bay.files g.B.Faulty.faults
      c.args.settings.now c.args.workers g.B.Faulty.mark c.args.traces.items c.ingest-traces.result.0.items c.args.out.now c.finish_and_print-status.new.out
      (bays_of c.args.cones.items) (bays_of c.ingest-traces.result.1.items) (bays_of c.finish_and_print-status.new.cones.items)
      c.ingest-traces.ensures.later c.finish_and_print-status.ensures.later read.traces (c.finish_and_print-status.ensures.shows c.args.workers read.traces read.weaving read.fits));
  exact =
      let read = ok_at c.ingest-traces.result.2 _ c.in_default.is c.ingest-traces.ensures.read in
      let first = bays_of c.args.cones.items in
      let then = bays_of c.ingest-traces.result.1.items in
      let now = bays_of c.finish_and_print-status.new.cones.items in
      exact_ended g.S.Source.remaining g.S.Faulty.faults g.K.Sink.taken g.K.Faulty.faults g.B.Bay.files g.B.Faulty.faults
      c.args.settings.now c.args.workers c.args.traces.items c.ingest-traces.result.0.items c.args.out.now c.finish_and_print-status.new.out first now g.B.Faulty.mark then read.traces
      c.ingest-traces.ensures.later c.finish_and_print-status.ensures.later c.ingest-traces.result.2 c.in_default.is c.ingest-traces.ensures.exact c.finish_and_print-status.result
      (ends_since g.S.Source.remaining g.S.Faulty.faults g.K.Sink.taken g.K.Faulty.faults g.B.Bay.files g.B.Faulty.faults
      c.args.settings.now c.args.workers g.B.Faulty.mark c.args.traces.items c.ingest-traces.result.0.items c.args.out.now c.finish_and_print-status.new.out
      first then now c.ingest-traces.ensures.later c.finish_and_print-status.ensures.later read.traces (c.finish_and_print-status.ensures.shows c.args.workers read.traces read.weaving read.fits));
  closed = c.finish_and_print-status.ensures.closed;
}
