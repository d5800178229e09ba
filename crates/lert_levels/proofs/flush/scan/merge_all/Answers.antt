use Rattle.lert_bay.specs.Kept.{seen_by}
use Rattle.std.{proofs.Common.{◌∙◌, [], Ok, get_or, ap, sym, arith}, proofs.lemmas.Result.err_from_is_err_and}
use Rattle.lert_levels.{specs.landing.Summed.sums_of, proofs.flush.BoundLaws.{came_fits, all_fit, left_less}}
use Rattle.lert_levels.proofs.flush.GatheringLaws.{nothing, more, gathering_none, gathering_more, breaks_back, sound_by, taken_all, up_so_far}
use Rattle.lert_levels.{proofs.flush.MergingLaws.{given_at, none_at, never_failed, table_of}, proofs.flush.SteadyLaws.reads_failed}
use Rattle.lert_frames.{proofs.CallLaws.{reads_then, reads_same, reads_turned}}
use Rattle.lert_levels.proofs.flush.scan.merge_all.Goals as goal

pub loop-next-init : goal.loop-next-init
loop-next-init g c = record {
  lists = nothing (g.S.Streams.count c.args.order.now.streams);
  gathering = gathering_none g.S.Streams g.O.Totals.took c.args.order.now c.args.bay.now c.args.totals.now c.new-sum.result g.met.S.Streams.same_self
      c.requires.unread c.requires.totals c.new-sum.ensures;
  read = reads_same (seen_by g.B.Faulty g.B.Bay) g.met.B.Bay.only_now (λ none. none);
}

-- ---- a piece

pub add_total-requires : goal.add_total-requires
add_total-requires g c =
    let was = c.loop-next.invariant in
    let step = given_at g.S.Streams g.B.Faulty.faults g.B.Faulty.mark c.loop-next.bay c.loop-next.order c.step.new.ctx c.step.new.self _ _ c.in-Some.is c.in_ok-next.ensures in (
      sums_of was.lists,
      was.gathering.totals_are,
      up_so_far was.gathering step,
      omega (
        arith,
        all_fit g.S.Streams g.S.Bins.version g.S.Bins.width g.met.S.Bins.summed g.met.S.Bins.version_same g.met.S.Bins.width_same was.gathering step
            g.met.S.Streams.same_on c.requires.wide.0 c.requires.wide.1,
        c.requires.wide.1.all,
      ),
    )

pub loop-next-smaller : goal.loop-next-smaller
loop-next-smaller g c =
    let step = given_at g.S.Streams g.B.Faulty.faults g.B.Faulty.mark c.loop-next.bay c.loop-next.order c.step.new.ctx c.step.new.self _ _ c.in-Some.is c.in_ok-next.ensures in
    left_less g.S.Streams g.S.Bins.version g.S.Bins.width g.met.S.Bins.summed g.met.S.Bins.version_same g.met.S.Bins.width_same c.loop-next.invariant.gathering step g.met.S.Streams.same_on

pub loop-next-preserved : goal.loop-next-preserved
loop-next-preserved g c =
    let was = c.loop-next.invariant in
    let step = given_at g.S.Streams g.B.Faulty.faults g.B.Faulty.mark c.loop-next.bay c.loop-next.order c.step.new.ctx c.step.new.self _ _ c.in-Some.is c.in_ok-next.ensures in
    record {
      lists = more was.gathering step;
      gathering = gathering_more was.gathering step g.met.S.Streams.same_on c.add_total.new.totals c.add_total.new.sum c.add_total.ensures;
      read = reads_then g.met.B.Bay.since_earlier was.read (g.met.S.Bins.reading c.loop-next.bay c.step.new.ctx c.step.ensures.keeps);
    }

-- ---- a step that fails

pub returns-in_err-next : goal.returns-in_err-next
returns-in_err-next g c =
    let was = c.loop-next.invariant in
    let p = err_from_is_err_and c.from_residual.result c.from_residual.ensures.1 in
    record {
      merged = rw p.1 tt;
      took = rw p.1 tt;
      sound = λ lists are at is. sound_by g.S.Streams c.args.bay.now c.args.order.now.streams lists at are (breaks_back was.gathering at (c.in_err-next.ensures.malformed at (cc (p.1, p.2, is))));
      malformed = λ at is. breaks_back was.gathering at (c.in_err-next.ensures.malformed at (cc (p.1, p.2, is)));
      only_reads = reads_then g.met.B.Bay.since_earlier was.read
          (reads_failed (λ is. c.in_err-next.ensures.failed (cc (p.1, p.2, is))) (g.met.S.Bins.reading c.loop-next.bay c.step.new.ctx c.step.ensures.keeps));
      streams = g.met.S.Streams.same_on c.args.order.now.streams c.loop-next.order.streams c.step.new.self.streams was.gathering.kept c.step.ensures.kept;
      count = c.step.ensures.same.streams ∙ was.gathering.same.streams;
      ahead = c.step.ensures.same.room ∙ was.gathering.same.room;
    }

-- ---- the end

pub end_totals-requires : goal.end_totals-requires
end_totals-requires g c = let was = c.loop-next.invariant in (sums_of was.lists, was.gathering.totals_are)

pub returns : goal.returns
returns g c =
    let was = c.loop-next.invariant in
    let read = g.met.S.Bins.reading c.loop-next.bay c.step.new.ctx c.step.ensures.keeps in
    let on : g.S.Streams.tells c.args.bay.now → g.S.Streams.tells c.step.new.ctx = λ tells.
    (g.met.S.Bins.telling c.step.new.ctx).1 (λ none. (g.met.S.Bins.telling c.args.bay.now).0 tells (sym (read.seen ∙ was.read.seen) ∙ none)) in
    record {
      merged = (
        was.lists,
        taken_all was.gathering g.S.Bins.version g.S.Bins.width c.step.new.ctx c.step.new.self c.end_totals.new.totals
            (λ k below. came_fits g.S.Streams g.S.Bins.version g.S.Bins.width g.met.S.Bins.summed g.met.S.Bins.version_same g.met.S.Bins.width_same c.args.order.now c.loop-next.order k
            (get_or was.lists k []) was.gathering.kept
            (omega (arith, below, was.gathering.same.streams)) (was.gathering.taken k below))
            (λ left tells. none_at c.in_ok-next.field-0 _ _ c.in_default.is (c.in_ok-next.ensures.told left tells))
            c.end_totals.ensures.took on (c.in_ok-next.ensures.over (ap Ok c.in_default.is)) c.in_ok-next.ensures.whole c.step.ensures.same c.step.ensures.untold,
      );
      took = λ s limits. (sums_of was.lists, (table_of was.gathering _ limits, c.end_totals.ensures.took (sums_of was.lists) was.gathering.totals_are));
      sound = λ lists are at is. never_failed _ _ is;
      malformed = λ at is. absurd (never_failed _ _ is);
      only_reads = reads_turned (λ failed. never_failed _ _ failed)
          (reads_then g.met.B.Bay.since_earlier was.read read);
      streams = g.met.S.Streams.same_on c.args.order.now.streams c.loop-next.order.streams c.step.new.self.streams was.gathering.kept c.step.ensures.kept;
      count = c.step.ensures.same.streams ∙ was.gathering.same.streams;
      ahead = c.step.ensures.same.room ∙ was.gathering.same.room;
    }
