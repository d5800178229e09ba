use Rattle.std.proofs.{Common.ap, lemmas.Result.err_from_is_err_and}
use Rattle.std.specs.Prelude.{Err}
use Rattle.lert_bay.specs.Kept.{Bays, seen_by}
use Rattle.lert_bay.proofs.KeptLaws.{IsLawful, reads_as}
use Rattle.lert_frames.proofs.FaultLaws.{not_err}
use Rattle.lert_levels.proofs.rows.ReadLaws.{failed_there, malformed_there}
use Rattle.lert_levels.proofs.merger.count_bins.Given as given
use Rattle.lert_levels.proofs.merger.count_bins.Goals as goal

abbrev bays : (g : given.Over) → Bays g.row.B.Denot
bays g = seen_by g.B.Faulty g.B.Bay

lawful : (g : given.Over) → IsLawful (bays g)
lawful g = record { as_read = g.met.B.Bay.as_read; since_now = g.met.B.Bay.since_now; only_now = g.met.B.Bay.only_now; since_earlier = g.met.B.Bay.since_earlier }

pub merge_all-requires : goal.merge_all-requires
merge_all-requires g c = record { unread = c.requires.unread; wide = c.requires.wide; totals = c.requires.totals }

pub returns : goal.returns
returns g c =
    let e = c.in_ok-merge_all.ensures in
    record {
      counted = e.merged;
      malformed = λ at is. absurd (not_err _ _ is);
      only_reads = reads_as (bays g) (lawful g) c.args.bay.now c.merge_all.new.bay _ _ (λ is. absurd (not_err _ _ is)) e.only_reads;
      streams = e.streams;
      ahead = e.ahead;
    }

pub returns-in_err-merge_all : goal.returns-in_err-merge_all
returns-in_err-merge_all g c =
    let r = c.from_residual in
    let fault = c.in_err-merge_all.field-0.0 in
    let e = c.in_err-merge_all.ensures in
    record {
      counted = rw (err_from_is_err_and r.result r.ensures.1).1 tt;
      malformed = λ at is. e.malformed at (ap Err (malformed_there r.result fault at r.ensures.1 is));
      only_reads = reads_as (bays g) (lawful g) c.args.bay.now c.merge_all.new.bay _ _ (λ is. ap Err (failed_there r.result fault r.ensures.1 is)) e.only_reads;
      streams = e.streams;
      ahead = e.ahead;
    }
