use Rattle.std.proofs.{Common.{◌∙◌, ap, sym, length}, lemmas.Bool.{false≢true, eqb-true, eq-eqb}, lemmas.List.nil_from_length}
use Rattle.std.specs.Result.{is_err}
use Rattle.lert_bay.specs.Kept.{Bays, seen_by}
use Rattle.lert_bay.specs.declared.bay.TheConstants.{JOURNAL}
use Rattle.lert_bay.proofs.KeptLaws.{IsLawful, reads_as, reads_call}
use Rattle.lert_cone.proofs.headers.is_empty.Given as given
use Rattle.lert_cone.proofs.headers.is_empty.Goals as goal

abbrev bays : (g : given.Over) → Bays g.row.B.Denot
bays g = seen_by g.B.Faulty g.B.Bay

lawful : (g : given.Over) → IsLawful (bays g)
lawful g = record { as_read = g.met.B.Bay.as_read; since_now = g.met.B.Bay.since_now; only_now = g.met.B.Bay.only_now; since_earlier = g.met.B.Bay.since_earlier }

pub returns-in_err-len-clause-only_reads : goal.returns-in_err-len-clause-only_reads
returns-in_err-len-clause-only_reads g c =
    let e = c.len.ensures in
    reads_as (bays g) (lawful g) c.args.bay.now c.len.new.self _ _ (λ _. ap is_err c.in_err-len.was)
    (reads_call (bays g) (lawful g) c.args.bay.now c.len.new.self _ e.time e.cause.never_falls e.cause.failed e.mark e.seen e.images (ap (λ handed. handed JOURNAL) e.handed))

pub returns-clause-only_reads : goal.returns-clause-only_reads
returns-clause-only_reads g c =
    let e = c.len.ensures in
    reads_as (bays g) (lawful g) c.args.bay.now c.len.new.self _ _ (λ failed. absurd (false≢true failed))
    (reads_call (bays g) (lawful g) c.args.bay.now c.len.new.self _ e.time e.cause.never_falls e.cause.failed e.mark e.seen e.images (ap (λ handed. handed JOURNAL) e.handed))

pub returns-clause-told : goal.returns-clause-told
returns-clause-told g c = λ seen told.
    let count = c.in_ok-len.ensures.told seen told in (
      (λ zero. nil_from_length (seen c.args.file) (sym count ∙ eqb-true c.in_ok-len.field-0 0 zero)),
      (λ empty. eq-eqb c.in_ok-len.field-0 0 (count ∙ ap length empty)),
    )
