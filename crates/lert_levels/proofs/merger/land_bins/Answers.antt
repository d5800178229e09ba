use Rattle.std.proofs.{Common.{◌∙◌, ap, refl}, lemmas.Result.err_from_is_err_and}
use Rattle.std.specs.Prelude.{Err}
use Rattle.lert_bay.specs.Kept.{Bays, seen_by}
use Rattle.lert_bay.proofs.KeptLaws.{IsLawful, keeps_on, keeps_as}
use Rattle.lert_frames.proofs.FaultLaws.{not_err}
use Rattle.lert_levels.specs.landing.Landings.{IsOutside}
use Rattle.lert_levels.proofs.{rows.LandLaws.{rest_on, rest_fewer}, rows.ReadLaws.{failed_there, malformed_there}, ReachLaws.no_place, ReadyLaws.{apart_same, stand_all}}
use Rattle.lert_levels.proofs.merger.land_bins.Given as given
use Rattle.lert_levels.proofs.merger.land_bins.Goals as goal

abbrev bays : (g : given.Over) → Bays g.row.B.Denot
bays g = seen_by g.B.Faulty g.B.Bay

lawful : (g : given.Over) → IsLawful (bays g)
lawful g = record { as_read = g.met.B.Bay.as_read; since_now = g.met.B.Bay.since_now; only_now = g.met.B.Bay.only_now; since_earlier = g.met.B.Bay.since_earlier }

-- ---- a merge that failed

pub returns-in_err-merge_bins : goal.returns-in_err-merge_bins
returns-in_err-merge_bins g c =
    let r = c.from_residual in
    let fault = c.in_err-merge_bins.field-0.0 in
    let one = c.in_err-merge_bins.ensures in
    record {
      landed = rw (err_from_is_err_and r.result r.ensures.1).1 tt;
      homes = one.homes;
      malformed = λ at is. one.malformed at (ap Err (malformed_there r.result fault at r.ensures.1 is));
      rest = one.rest;
      kept = keeps_as (bays g) (lawful g) c.args.bay.now c.merge_bins.new.bay _ _ (λ is. ap Err (failed_there r.result fault r.ensures.1 is)) one.kept;
      streams = one.streams;
      ahead = one.ahead;
    }

-- ---- an end that failed

pub returns-in_err-end_all : goal.returns-in_err-end_all
returns-in_err-end_all g c =
    let r = c.from_residual-in_err-end_all in
    let old = c.args.landings.now in
    let one = c.in_ok-merge_bins.ensures in
    let two = c.in_err-end_all.ensures in
    record {
      landed = rw (err_from_is_err_and r.result r.ensures.1).1 tt;
      homes = two.homes ∙ one.homes;
      malformed = λ at is. absurd (no_place r.result r.ensures.1 at is);
      rest = rest_on (bays g) (lawful g) (IsOutside old) c.args.bay.now c.merge_bins.new.bay c.end_all.new.bay _ _ one.kept two.kept one.rest
          (rest_fewer (bays g) (IsOutside c.merge_bins.new.landings) (IsOutside old) c.merge_bins.new.bay c.end_all.new.bay
          (apart_same old c.merge_bins.new.landings one.homes) two.rest);
      kept = keeps_as (bays g) (lawful g) c.args.bay.now c.end_all.new.bay _ _ (λ is. refl)
          (keeps_on (bays g) (lawful g) c.args.bay.now c.merge_bins.new.bay c.end_all.new.bay _ _ one.kept two.kept);
      streams = one.streams;
      ahead = one.ahead;
    }

-- ---- all went well

pub returns : goal.returns
returns g c =
    let old = c.args.landings.now in
    let one = c.in_ok-merge_bins.ensures in
    let two = c.in_ok-end_all.ensures in
    record {
      landed = record {
        lists = one.merged.lists;
        all = one.merged.all;
        stand = λ s version are seen told.
            stand_all (bays g) old c.merge_bins.new.landings c.args.bay.now c.merge_bins.new.bay c.end_all.new.bay s version c.args.parts.now one.merged.lists seen one.homes are
            one.rest two.rest c.requires.landing one.landing two.stand one.merged.landed told;
      };
      homes = two.homes ∙ one.homes;
      malformed = λ at is. absurd (not_err _ _ is);
      rest = rest_on (bays g) (lawful g) (IsOutside old) c.args.bay.now c.merge_bins.new.bay c.end_all.new.bay _ _ one.kept two.kept one.rest
          (rest_fewer (bays g) (IsOutside c.merge_bins.new.landings) (IsOutside old) c.merge_bins.new.bay c.end_all.new.bay
          (apart_same old c.merge_bins.new.landings one.homes) two.rest);
      kept = keeps_as (bays g) (lawful g) c.args.bay.now c.end_all.new.bay _ _ (λ is. absurd (not_err _ _ is))
          (keeps_on (bays g) (lawful g) c.args.bay.now c.merge_bins.new.bay c.end_all.new.bay _ _ one.kept two.kept);
      streams = one.streams;
      ahead = one.ahead;
    }

-- ---- what a merge asks for

pub merge_bins-requires : goal.merge_bins-requires
merge_bins-requires g c = record {
  unread = c.requires.unread;
  parts = c.requires.parts;
  room = c.requires.room;
  apart = c.requires.apart;
  sure = c.requires.sure;
  totals = c.requires.totals;
}
