-- Each exit is one record; where nothing is written, the bay is as `is_fresh` left it.
use Rattle.lert_bay.specs.Kept.{Bays, seen_by}
use Rattle.std.proofs.{Common.{◌∙◌, ap, sym}, lemmas.Result.err_from_is_err_and, lemmas.Bool.false≢true}
use Rattle.std.specs.Prelude.{is_err}
use Rattle.lert_cone.proofs.{BeginLaws.{failed_not_fresh, not_fresh_not_failed, frames_same}, Refusals.{frames_stay_on, no_fault}}
use Rattle.lert_bay.proofs.KeptLaws.{IsLawful, keeps_as, keeps_on}
use Rattle.lert_cone.proofs.cone.begin.Given as given
use Rattle.lert_cone.proofs.cone.begin.Goals as goal

abbrev bays : (g : given.Over) → Bays g.row.B.Denot
bays g = seen_by g.B.Faulty g.B.Bay

lawful : (g : given.Over) → IsLawful (bays g)
lawful g = record { as_read = g.met.B.Bay.as_read; since_now = g.met.B.Bay.since_now; only_now = g.met.B.Bay.only_now; since_earlier = g.met.B.Bay.since_earlier }

pub returns-in_err-is_fresh : goal.returns-in_err-is_fresh
returns-in_err-is_fresh g c =
    let p = err_from_is_err_and c.from_residual.result c.from_residual.ensures.1 in
    rw (p.1, p.2) (record {
      journal = tt;
      log = tt;
      begun = tt;
      fresh = λ seen told. tt;
      not_fresh = λ seen told same empty. failed_not_fresh same;
      unwritten = λ seen told some. (c.is_fresh.ensures.only_reads.seen, c.is_fresh.ensures.only_reads.images);
      frames = frames_same (g.B.Bay.files c.args.bay.now) (g.B.Bay.files c.is_fresh.new.bay) c.is_fresh.ensures.only_reads.seen;
      kept = keeps_as (bays g) (lawful g) c.args.bay.now c.is_fresh.new.bay _ _ (λ _. ap is_err c.in_err-is_fresh.was) c.is_fresh.ensures.only_reads.kept;
    })

pub returns-then-not-branch : goal.returns-then-not-branch
returns-then-not-branch g c = record {
  journal = tt;
  log = tt;
  begun = tt;
  fresh = λ seen told. tt;
  not_fresh = λ seen told same empty. false≢true (sym c.if-not-branch.true ∙ (c.in_ok-is_fresh.ensures.fresh seen told).1 empty);
  unwritten = λ seen told some. (c.is_fresh.ensures.only_reads.seen, c.is_fresh.ensures.only_reads.images);
  frames = frames_same (g.B.Bay.files c.args.bay.now) (g.B.Bay.files c.is_fresh.new.bay) c.is_fresh.ensures.only_reads.seen;
  kept = keeps_as (bays g) (lawful g) c.args.bay.now c.is_fresh.new.bay _ _ (λ same. absurd (not_fresh_not_failed same)) c.is_fresh.ensures.only_reads.kept;
}

pub write_headers-requires-clause-fresh : goal.write_headers-requires-clause-fresh
write_headers-requires-clause-fresh g c = λ seen told. (c.in_ok-is_fresh.ensures.fresh seen (sym c.is_fresh.ensures.only_reads.seen ∙ told)).0 c.if-not-branch.false

pub returns-in_err-write_headers : goal.returns-in_err-write_headers
returns-in_err-write_headers g c =
    let p = err_from_is_err_and c.from_residual-in_err-write_headers.result c.from_residual-in_err-write_headers.ensures.1 in
    rw (p.1, p.2) (record {
      journal = tt;
      log = tt;
      begun = tt;
      fresh = λ seen told. tt;
      not_fresh = λ seen told same empty. failed_not_fresh same;
      unwritten = λ seen told some. absurd (some ((c.in_ok-is_fresh.ensures.fresh seen told).0 c.if-not-branch.false));
      frames = frames_stay_on (g.B.Bay.files c.args.bay.now) (g.B.Bay.files c.is_fresh.new.bay) (g.B.Bay.files c.write_headers.new.bay)
          (frames_same (g.B.Bay.files c.args.bay.now) (g.B.Bay.files c.is_fresh.new.bay) c.is_fresh.ensures.only_reads.seen) c.write_headers.ensures.frames;
      kept = keeps_as (bays g) (lawful g) c.args.bay.now c.write_headers.new.bay _ _ (λ _. ap is_err c.in_err-write_headers.was)
          (keeps_on (bays g) (lawful g) c.args.bay.now c.is_fresh.new.bay c.write_headers.new.bay _ _ c.is_fresh.ensures.only_reads.kept c.write_headers.ensures.kept);
    })

pub returns : goal.returns
returns g c = record {
  journal = c.in_ok-write_headers.ensures.journal;
  log = c.in_ok-write_headers.ensures.log;
  begun = c.in_ok-write_headers.ensures.begun;
  fresh = λ seen told. (c.in_ok-is_fresh.ensures.fresh seen told).0 c.if-not-branch.false;
  not_fresh = λ seen told same empty. no_fault same;
  unwritten = λ seen told. tt;
  frames = frames_stay_on (g.B.Bay.files c.args.bay.now) (g.B.Bay.files c.is_fresh.new.bay) (g.B.Bay.files c.write_headers.new.bay)
      (frames_same (g.B.Bay.files c.args.bay.now) (g.B.Bay.files c.is_fresh.new.bay) c.is_fresh.ensures.only_reads.seen) c.write_headers.ensures.frames;
  kept = keeps_as (bays g) (lawful g) c.args.bay.now c.write_headers.new.bay _ _ (λ same. absurd (no_fault same))
      (keeps_on (bays g) (lawful g) c.args.bay.now c.is_fresh.new.bay c.write_headers.new.bay _ _ c.is_fresh.ensures.only_reads.kept c.write_headers.ensures.kept);
}
