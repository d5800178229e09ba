use Rattle.lert_bay.specs.Kept.{seen_by}
use Rattle.std.{proofs.Common.{ℕ, ◌≡◌, ◌<◌, ◌∙◌, None, Some, Ok, [], ap, length, get_or, arith}, specs.Prelude.IsErrOf, proofs.lemmas.Result.err_from_is_err_and}
use Rattle.lert_bay.proofs.KeptLaws.{IsLawful}
use Rattle.lert_base.specs.declared.pieces.PieceFault.TheVariants.{Failed}
use Rattle.lert_levels.{specs.landing.Landed.CanTake, specs.landing.Summed.sums_of, specs.declared.landing.landing.Landing.Landing, specs.landing.Landings.IsOutside, specs.rows.Landing.LeavesRest}
use Rattle.lert_levels.proofs.{flush.BoundLaws.{came_fits, all_fit, can_take, left_less}, flush.GatheringLaws.{breaks_back, sound_by, taken_all, within, up_so_far}}
use Rattle.lert_levels.{proofs.flush.MergingLaws.{merging_none, merging_more, given_at, none_at, if_some, is_own, never_failed, table_of}, proofs.flush.WholeLaws.told_still}
use Rattle.lert_levels.proofs.flush.SteadyLaws.{AreSteady, landings_same, writes_read, writes_on, writes_as, reads_failed}
use Rattle.lert_frames.{proofs.CallLaws.{keeps_turned}}
use Rattle.lert_levels.proofs.flush.merge.merge_bins.Given as given
use Rattle.lert_levels.proofs.flush.merge.merge_bins.Goals as goal

lawful : (g : given.Over) → IsLawful (seen_by g.B.Faulty g.B.Bay)
lawful g = record { as_read = g.met.B.Bay.as_read; since_now = g.met.B.Bay.since_now; only_now = g.met.B.Bay.only_now; since_earlier = g.met.B.Bay.since_earlier }

steady : (g : given.Over) → AreSteady g.S.Streams (seen_by g.B.Faulty g.B.Bay) g.S.Bins.version g.S.Bins.width g.S.Bins.reads g.S.Bins.sure
steady g = record {
  summed = g.met.S.Bins.summed;
  version_same = g.met.S.Bins.version_same;
  width_same = g.met.S.Bins.width_same;
  reads_same = g.met.S.Bins.reads_same;
  sure_same = g.met.S.Bins.sure_same;
  stays = g.met.S.Bins.stays;
  sure_stays = g.met.S.Bins.sure_stays;
  stays_untold = g.met.S.Bins.stays_untold;
  telling = g.met.S.Bins.telling;
  reading = g.met.S.Bins.reading;
  same_self = g.met.S.Streams.same_self;
  same_on = g.met.S.Streams.same_on;
}

pub loop-next-init : goal.loop-next-init
loop-next-init g c = merging_none (lawful g) (steady g) c.requires.unread c.requires.totals c.new-sum.ensures c.requires.room.empty c.requires.sure

-- ---- a piece

pub add_total-requires : goal.add_total-requires
add_total-requires g c =
    let was = c.loop-next.invariant in
    let step = given_at g.S.Streams g.B.Faulty.faults g.B.Faulty.mark c.loop-next.bay c.loop-next.order c.step.new.ctx c.step.new.self _ _ c.in-Some.is c.in_ok-next.ensures in (
      sums_of was.lists,
      was.gathering.totals_are,
      up_so_far was.gathering step,
      omega (
        arith,
        all_fit g.S.Streams g.S.Bins.version g.S.Bins.width g.met.S.Bins.summed g.met.S.Bins.version_same g.met.S.Bins.width_same was.gathering step
            g.met.S.Streams.same_on c.requires.room.widths c.requires.room.wide,
        c.requires.room.wide.all,
      ),
    )

pub bounds-parts-next : goal.bounds-parts-next
bounds-parts-next g c =
    let step = given_at g.S.Streams g.B.Faulty.faults g.B.Faulty.mark c.loop-next.bay c.loop-next.order c.step.new.ctx c.step.new.self _ _ c.in-Some.is c.in_ok-next.ensures in
    omega (arith, within c.loop-next.invariant.gathering step, c.requires.parts.len)

pub put_piece-requires : goal.put_piece-requires
put_piece-requires g c =
    let was = c.loop-next.invariant in
    let room = c.requires.room in
    let parts = c.args.parts.now in
    let own_is = get_or parts c.in-Some.next.0 None in
    let step = given_at g.S.Streams g.B.Faulty.faults g.B.Faulty.mark c.loop-next.bay c.loop-next.order c.step.new.ctx c.step.new.self _ _ c.in-Some.is c.in_ok-next.ensures in
    let inside = within was.gathering step in
    let below : (own : ℕ) → own_is ≡ Some own → own < length c.args.landings.now =
    λ own is. rw is at (c.requires.parts.within c.in-Some.next.0 (omega (arith, inside, c.requires.parts.len))) in
    record {
      part = if_some own_is (λ own. own < length c.loop-next.landings) (λ own is. omega (arith, below own is, c.loop-next.auto.landings));
      piece = if_some own_is (λ own. (d : Landing) → CanTake (get_or c.loop-next.landings own d) c.in-Some.next.1) (λ own is d.
          let under : own < length c.loop-next.landings = omega (arith, below own is, c.loop-next.auto.landings) in
          can_take g.S.Streams g.S.Bins.version g.S.Bins.width g.met.S.Bins.summed g.met.S.Bins.version_same g.met.S.Bins.width_same was.gathering step
          g.met.S.Streams.same_on room.settings room.number room.of_streams room.limits parts c.requires.parts.len
          own (is_own own_is own is) room.widths room.wide (room.fits own (below own is)) (get_or c.loop-next.landings own d)
          (landings_same c.args.landings.now c.loop-next.landings was.writes.homes room.settings room.number room.landings_are own d under) (was.landed own d under));
    }

pub loop-next-smaller : goal.loop-next-smaller
loop-next-smaller g c =
    let step = given_at g.S.Streams g.B.Faulty.faults g.B.Faulty.mark c.loop-next.bay c.loop-next.order c.step.new.ctx c.step.new.self _ _ c.in-Some.is c.in_ok-next.ensures in
    left_less g.S.Streams g.S.Bins.version g.S.Bins.width g.met.S.Bins.summed g.met.S.Bins.version_same g.met.S.Bins.width_same c.loop-next.invariant.gathering step g.met.S.Streams.same_on

pub loop-next-preserved : goal.loop-next-preserved
loop-next-preserved g c =
    let step = given_at g.S.Streams g.B.Faulty.faults g.B.Faulty.mark c.loop-next.bay c.loop-next.order c.step.new.ctx c.step.new.self _ _ c.in-Some.is c.in_ok-next.ensures in
    merging_more (lawful g) (steady g) c.loop-next.invariant step c.step.ensures.keeps c.add_total.ensures c.requires.parts.len c.requires.apart
    (omega (arith, c.put_piece.auto.landings)) c.in_ok-put_piece.ensures.taken c.put_piece.ensures.writes

-- ---- a step that fails

pub returns-in_err-next : goal.returns-in_err-next
returns-in_err-next g c =
    let was = c.loop-next.invariant in
    let p = err_from_is_err_and c.from_residual.result c.from_residual.ensures.1 in
    let Fails = IsErrOf c.from_residual.result Failed in
    let read = reads_failed {Failed = Fails} (λ is. c.in_err-next.ensures.failed (cc (p.1, p.2, is))) (g.met.S.Bins.reading c.loop-next.bay c.step.new.ctx c.step.ensures.keeps) in
    let writes = writes_on (lawful g) was.writes (writes_read c.loop-next.landings read) in
    record {
      merged = rw p.1 tt;
      took = rw p.1 tt;
      landing = writes.landing;
      homes = writes.homes;
      landings = landings_same c.args.landings.now c.loop-next.landings writes.homes;
      sound = λ lists are at is. sound_by g.S.Streams c.args.bay.now c.args.order.now.streams lists at are (breaks_back was.gathering at (c.in_err-next.ensures.malformed at (cc (p.1, p.2, is))));
      malformed = λ at is. breaks_back was.gathering at (c.in_err-next.ensures.malformed at (cc (p.1, p.2, is)));
      rest = writes.rest;
      kept = writes.kept;
      streams = g.met.S.Streams.same_on c.args.order.now.streams c.loop-next.order.streams c.step.new.self.streams was.gathering.kept c.step.ensures.kept;
      count = c.step.ensures.same.streams ∙ was.gathering.same.streams;
      ahead = c.step.ensures.same.room ∙ was.gathering.same.room;
    }

-- ---- a piece that can't be put

pub returns-in_err-put_piece : goal.returns-in_err-put_piece
returns-in_err-put_piece g c =
    let was = c.loop-next.invariant in
    let p = err_from_is_err_and c.from_residual-in_err-put_piece.result c.from_residual-in_err-put_piece.ensures.1 in
    let Fails = IsErrOf c.from_residual-in_err-put_piece.result Failed in
    let read = g.met.S.Bins.reading c.loop-next.bay c.step.new.ctx c.step.ensures.keeps in
    let writes = writes_on (lawful g) (writes_on (lawful g) was.writes (writes_read c.loop-next.landings read))
    (writes_as {Failed = Fails} (λ is. cc (p.1, p.2, is)) c.in_err-put_piece.ensures.writes) in
    record {
      merged = rw p.1 tt;
      took = rw p.1 tt;
      landing = writes.landing;
      homes = writes.homes;
      landings = landings_same c.args.landings.now c.put_piece.new.landings writes.homes;
      sound = λ lists are at is. c.in_err-put_piece.ensures.whole at (cc (p.1, p.2, is));
      malformed = λ at is. absurd (c.in_err-put_piece.ensures.whole at (cc (p.1, p.2, is)));
      rest = writes.rest;
      kept = writes.kept;
      streams = g.met.S.Streams.same_on c.args.order.now.streams c.loop-next.order.streams c.step.new.self.streams was.gathering.kept c.step.ensures.kept;
      count = c.step.ensures.same.streams ∙ was.gathering.same.streams;
      ahead = c.step.ensures.same.room ∙ was.gathering.same.room;
    }

-- ---- the end

pub end_totals-requires : goal.end_totals-requires
end_totals-requires g c = let was = c.loop-next.invariant in (sums_of was.lists, was.gathering.totals_are)

pub returns : goal.returns
returns g c =
    let was = c.loop-next.invariant in
    let read = g.met.S.Bins.reading c.loop-next.bay c.step.new.ctx c.step.ensures.keeps in
    let writes = writes_on (lawful g) was.writes (writes_read c.loop-next.landings read) in
    let on : g.S.Streams.tells c.args.bay.now → g.S.Streams.tells c.step.new.ctx = λ tells. (g.met.S.Bins.telling c.step.new.ctx).1
    (told_still (LeavesRest (IsOutside c.args.landings.now)) (g.B.Bay.files c.args.bay.now) (g.B.Bay.files c.step.new.ctx) writes.rest.seen
    ((g.met.S.Bins.telling c.args.bay.now).0 tells)) in
    record {
      merged = record {
        lists = was.lists;
        all = taken_all was.gathering g.S.Bins.version g.S.Bins.width c.step.new.ctx c.step.new.self c.end_totals.new.totals
            (λ k below. came_fits g.S.Streams g.S.Bins.version g.S.Bins.width g.met.S.Bins.summed g.met.S.Bins.version_same g.met.S.Bins.width_same c.args.order.now c.loop-next.order k
            (get_or was.lists k []) was.gathering.kept
            (omega (arith, below, was.gathering.same.streams)) (was.gathering.taken k below))
            (λ left tells. none_at c.in_ok-next.field-0 _ _ c.in_default.is (c.in_ok-next.ensures.told left tells))
            c.end_totals.ensures.took on (c.in_ok-next.ensures.over (ap Ok c.in_default.is)) c.in_ok-next.ensures.whole c.step.ensures.same c.step.ensures.untold;
        landed = was.landed;
      };
      took = λ s limits. (sums_of was.lists, (table_of was.gathering _ limits, c.end_totals.ensures.took (sums_of was.lists) was.gathering.totals_are));
      landing = writes.landing;
      homes = writes.homes;
      landings = landings_same c.args.landings.now c.loop-next.landings writes.homes;
      sound = λ lists are at is. never_failed _ _ is;
      malformed = λ at is. absurd (never_failed _ _ is);
      rest = writes.rest;
      kept = keeps_turned (λ failed. never_failed _ _ failed) writes.kept;
      streams = g.met.S.Streams.same_on c.args.order.now.streams c.loop-next.order.streams c.step.new.self.streams was.gathering.kept c.step.ensures.kept;
      count = c.step.ensures.same.streams ∙ was.gathering.same.streams;
      ahead = c.step.ensures.same.room ∙ was.gathering.same.room;
    }
