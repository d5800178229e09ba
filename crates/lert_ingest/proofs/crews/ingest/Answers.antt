use Rattle.std.proofs.Common.{◌∙◌, List, [], length, ap, refl, sym, subst, arith}
use Rattle.std.proofs.lemmas.List.{length-map}
use Rattle.lert_trace.specs.Reader.{Reading}
use Rattle.lert_ingest.specs.{Ingest.HasIngested, Readers.{AreReadable, fresh_reader}}
use Rattle.lert_ingest.proofs.{Assembling.untouched, BayLaws.are_same, Freshly.{fresh_readable, of_fresh}, Starting.{new_held}}
use Rattle.lert_ingest.proofs.crews.ingest.Given as given
use Rattle.lert_ingest.proofs.crews.ingest.Goals as goal
use Rattle.lert_ingest.proofs.crews.ingest.Goals.{After-close_readers}

pub ingest_rest-readers-requires-clause-readable : goal.ingest_rest-readers-requires-clause-readable
ingest_rest-readers-requires-clause-readable g c κs within = subst AreReadable (sym c.open_readers-readers.ensures.readers) (fresh_readable c.args.traces.items)

pub ingest_rest-readers-requires-clause-held : goal.ingest_rest-readers-requires-clause-held
ingest_rest-readers-requires-clause-held g c κs within =
    ((λ _. []), new_held g.B.Bay.files g.B.Bay.leaves g.B.Faulty.faults c.args.settings.now c.args.cones.items c.requires.new_cones)

pub close_readers-requires-clause-room : goal.close_readers-requires-clause-room
close_readers-requires-clause-room g c =
    let has = c.ingest_rest-readers.ensures.ingested (λ _. []) (new_held g.B.Bay.files g.B.Bay.leaves g.B.Faulty.faults c.args.settings.now c.args.cones.items c.requires.new_cones) in
    let news = sym (length-map c.ingest_rest-readers.result.0.items (λ (r : Reading _). r.source)) in
    let olds = length-map c.open_readers-readers.result.0.items (λ (r : Reading _). r.source) in
    let fresh = ap (λ (rs : List (Reading _)). length rs) c.open_readers-readers.ensures.readers ∙ length-map c.args.traces.items fresh_reader in
    let same = has.traces_later.number in
    let room = c.open_readers-readers.ensures.room in
    omega (arith, news, olds, fresh, same, room)

ingested : (g : given.Over) (c : After-close_readers g) → HasIngested g.S.Source.remaining g.S.Faulty.faults g.S.Faulty.mark g.B.Bay.files g.B.Bay.leaves g.B.Faulty.faults
    g.B.Faulty.mark c.args.settings.now c.args.workers c.args.traces.items c.close_readers.result.items c.args.cones.items c.ingest_rest-readers.result.1.items c.ingest_rest-readers.result.2
ingested g c = of_fresh g.S.Source.remaining g.S.Faulty.faults g.S.Faulty.mark g.B.Bay.files g.B.Bay.leaves g.B.Faulty.faults g.B.Faulty.mark c.args.settings.now c.args.workers
    c.args.traces.items c.open_readers-readers.result.0.items c.open_readers-readers.ensures.readers _ c.close_readers.result.items (sym c.close_readers.ensures) c.args.cones.items
    c.ingest_rest-readers.result.1.items c.requires.new_cones c.ingest_rest-readers.result.2
    (c.ingest_rest-readers.ensures.ingested (λ _. []) (new_held g.B.Bay.files g.B.Bay.leaves g.B.Faulty.faults c.args.settings.now c.args.cones.items c.requires.new_cones))

pub returns : goal.returns
returns g c = record {
  later = (ingested g c).later;
  traces_later = (ingested g c).traces_later;
  read = (ingested g c).read;
  stopped = (ingested g c).stopped;
  exact = (ingested g c).exact;
}

pub returns-in_default : goal.returns-in_default
returns-in_default g c =
    let as_was = untouched _ g.S.Source.remaining g.S.Faulty.faults g.S.Faulty.mark g.B.Bay.files g.B.Bay.leaves g.B.Faulty.faults g.B.Faulty.mark
    c.args.settings.now c.args.workers c.args.traces.items c.args.traces.items c.args.traces.items _ c.args.cones.items c.args.cones.items
    (are_same g.B.Bay.files g.B.Faulty.faults g.B.Faulty.mark _) refl refl in
    record { later = as_was.later; traces_later = as_was.traces_later; read = tt; stopped = as_was.stopped; exact = as_was.exact }
