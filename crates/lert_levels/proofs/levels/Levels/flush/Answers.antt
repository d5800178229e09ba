use Rattle.std.proofs.{Common.{◌-◌, ◌≤◌, ◌∙◌, take, refl, ap, sym, subst, arith}, lemmas.Result.err_from_is_err_and}
use Rattle.std.specs.Prelude.{Err}
use Rattle.lert_bay.specs.{declared.bay.TheConstants.FRAMES, Kept.{Bays, seen_by}}
use Rattle.lert_bay.proofs.KeptLaws.{IsLawful, keeps_on, keeps_as}
use Rattle.lert_frames.proofs.{FaultLaws.not_err, WriteLaws.same_err}
use Rattle.lert_spec.specs.Edges.{capacity, depth}
use Rattle.lert_levels.specs.{Flushed.InNamed, Merged.IsFrames, OnDisk.OnDisk, rows.Landing.{AreApart, Anywhere}, rows.Rows.{IsAt, moved, tallied_in}}
use Rattle.lert_levels.proofs.{rows.LandLaws.{rest_on, rest_fewer}, rows.RowLaws.IsAt-moved, FlushLaws.{made_took, made_taken}, HoldLaws.rows_stand}
use Rattle.lert_levels.proofs.{ReachLaws.{failed_by, no_break, no_place, reached_first, has_moved, apart}, ArrivalLaws.deep}
use Rattle.lert_levels.proofs.levels.Levels.flush.Given as given
use Rattle.lert_levels.proofs.levels.Levels.flush.Goals as goal

abbrev bays : (g : given.Over) → Bays g.row.B.Denot
bays g = seen_by g.B.Faulty g.B.Bay

lawful : (g : given.Over) → IsLawful (bays g)
lawful g = record { as_read = g.met.B.Bay.as_read; since_now = g.met.B.Bay.since_now; only_now = g.met.B.Bay.only_now; since_earlier = g.met.B.Bay.since_earlier }

-- ---- a merge that failed

pub returns-in_err-merge : goal.returns-in_err-merge
returns-in_err-merge g c =
    let p = err_from_is_err_and c.from_residual.result c.from_residual.ensures.1 in
    let s = c.args.self.now.settings in
    let version = c.args.self.now.version in
    let m = c.args.m in
    let rows = c.args.self.now.rows in
    let first = c.requires.first in
    let last = c.requires.last in
    let at_m = c.requires.at in
    let e = c.in_err-merge.ensures in
    let reached = take (depth s m) rows in
    let deepest = deep s e.valid m first last rows at_m in
    let are = reached_first s version e.valid m first last rows at_m e.rows in
    rw (p.1, p.2) (record {
      ok = tt;
      at = tt;
      refused = e.same;
      told = λ seen told events of.
          (let stand = rows_stand s version events (m - 1) rows (seen FRAMES) at_m e.rows (omega (arith, of.len)) of.weighed of.held (depth s m) deepest in
          failed_by _ (λ at is. no_break s version e.valid reached (seen FRAMES) (tallied_in s events) at are stand (e.malformed seen told at (ap Err is))));
      took = tt;
      durable = tt;
      rest = rest_fewer (bays g) (AreApart s version m reached) (InNamed s version rows) c.args.bay.now c.merge.new.bay (apart s version e.valid m first last rows at_m e.rows) e.rest;
      whole = λ seen told. tt;
      sound = λ seen told hold stand.
          failed_by _ (λ at is. no_break s version e.valid reached (seen FRAMES) hold at are stand (e.malformed seen told at (ap Err is)));
      malformed = λ seen told at is. e.malformed seen told at (same_err _ _ is);
      malformed_after = λ seen told at is. e.malformed_after seen told at (same_err _ _ is);
      kept = keeps_as (bays g) (lawful g) c.args.bay.now c.merge.new.bay _ _ (λ is. same_err _ _ is) e.kept;
    })

-- ---- a sync that failed

pub returns-in_err-sync_frames : goal.returns-in_err-sync_frames
returns-in_err-sync_frames g c =
    let r = c.from_residual-in_err-sync_frames in
    let p = err_from_is_err_and r.result r.ensures.1 in
    let s = c.args.self.now.settings in
    let version = c.args.self.now.version in
    let m = c.args.m in
    let rows = c.args.self.now.rows in
    let one = c.in_ok-merge.ensures in
    let two = c.in_err-sync_frames.ensures in
    record {
      ok = rw p.1 tt;
      at = rw p.1 tt;
      refused = rw p.1 one.same;
      told = λ seen told events of. rw p.1 p.2;
      took = rw p.1 tt;
      durable = rw p.1 tt;
      rest = rest_on (bays g) (lawful g) (InNamed s version rows) c.args.bay.now c.merge.new.bay c.sync_frames.new.bay _ _ one.kept two.kept
          (rest_fewer (bays g) (AreApart s version m (take (depth s m) rows)) (InNamed s version rows) c.args.bay.now c.merge.new.bay
          (apart s version one.valid m c.requires.first c.requires.last rows c.requires.at one.rows) one.rest)
          (rest_fewer (bays g) Anywhere (InNamed s version rows) c.merge.new.bay c.sync_frames.new.bay (λ from to inside. tt) two.rest);
      whole = λ seen told. rw p.1 tt;
      sound = λ seen told hold stand. rw p.1 p.2;
      malformed = λ seen told at is. absurd (no_place r.result r.ensures.1 at is);
      malformed_after = λ seen told at is. absurd (no_place r.result r.ensures.1 at is);
      kept = keeps_as (bays g) (lawful g) c.args.bay.now c.sync_frames.new.bay _ _ (λ is. refl)
          (keeps_on (bays g) (lawful g) c.args.bay.now c.merge.new.bay c.sync_frames.new.bay _ _ one.kept two.kept);
    }

-- ---- all went well

pub returns : goal.returns
returns g c =
    let s = c.args.self.now.settings in
    let version = c.args.self.now.version in
    let m = c.args.m in
    let rows = c.args.self.now.rows in
    let first = c.requires.first in
    let last = c.requires.last in
    let at_m = c.requires.at in
    let young = c.args.zero.now.bins in
    let one = c.in_ok-merge.ensures in
    let two = c.in_ok-sync_frames.ensures in
    let took = g.O.Totals.took c.merge.new.totals in
    let before = g.B.Bay.files c.args.bay.now in
    let has = one.made in
    record {
      ok = c.move_on.ensures ∙ ap (λ (v : OnDisk). record { settings = v.settings; version = v.version; rows = moved v.settings m v.rows }) one.same;
      at = subst (λ (v : OnDisk). IsAt v.settings m v.rows) (sym c.move_on.ensures)
          (subst (λ (v : OnDisk). IsAt v.settings m (moved v.settings m v.rows)) (sym one.same) (IsAt-moved s one.valid m first last rows at_m));
      refused = tt;
      told = λ seen told events of. (
        λ after told_after. has_moved s version one.valid m first last rows at_m one.rows young took before (g.B.Bay.files c.merge.new.bay) has one.rest.seen seen told events of
            after (sym two.seen ∙ told_after),
        made_taken s version one.valid m first last rows at_m young took (IsFrames before) has.made has.is (seen FRAMES) events
            (record { seen = seen; told = told; is = refl }) one.rows of,
      );
      took = made_took s version one.valid m first last rows at_m young took (IsFrames before) has.made has.is;
      durable = two.durable;
      rest = rest_on (bays g) (lawful g) (InNamed s version rows) c.args.bay.now c.merge.new.bay c.sync_frames.new.bay _ _ one.kept two.kept
          (rest_fewer (bays g) (AreApart s version m (take (depth s m) rows)) (InNamed s version rows) c.args.bay.now c.merge.new.bay
          (apart s version one.valid m first last rows at_m one.rows) one.rest)
          (rest_fewer (bays g) Anywhere (InNamed s version rows) c.merge.new.bay c.sync_frames.new.bay (λ from to inside. tt) two.rest);
      whole = λ seen told. has.is.whole (seen FRAMES) (record { seen = seen; told = told; is = refl });
      sound = λ seen told hold stand. tt;
      malformed = λ seen told at is. absurd (not_err _ _ is);
      malformed_after = λ seen told at is. absurd (not_err _ _ is);
      kept = keeps_as (bays g) (lawful g) c.args.bay.now c.sync_frames.new.bay _ _ (λ is. absurd (not_err _ _ is))
          (keeps_on (bays g) (lawful g) c.args.bay.now c.merge.new.bay c.sync_frames.new.bay _ _ one.kept two.kept);
    }

-- ---- what the calls ask for

pub merge-requires : goal.merge-requires
merge-requires g c = record {
  same = c.requires.same;
  first = c.requires.first;
  last = c.requires.last;
  from = c.requires.from;
  to = c.requires.to;
  at = c.requires.at;
  light = c.requires.light;
  none_taken = c.requires.none_taken;
}

pub move_on-requires : goal.move_on-requires
move_on-requires g c =
    let same = sym c.in_ok-merge.ensures.same in
    record {
      first = c.requires.first;
      last = subst (λ (v : OnDisk). c.args.m ≤ capacity v.settings) same c.requires.last;
      at = subst (λ (v : OnDisk). IsAt v.settings (c.args.m - 1) v.rows) same c.requires.at;
    }
