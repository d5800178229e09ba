use Rattle.lert_bay.specs.Kept.{seen_by}
use Rattle.std.proofs.Common.{ℕ, Option, refl, ap, sym, get_or}
use Rattle.lert_levels.{specs.landing.Landed.taken, specs.flush.Merged.{is_of, with_piece}, proofs.flush.MergingLaws.{never_failed, not_malformed}, proofs.flush.PartLaws.landed_one}
use Rattle.lert_levels.proofs.flush.SteadyLaws.{writes_read, writes_as}
use Rattle.lert_frames.{proofs.CallLaws.{reads_same, keeps_turned}}
use Rattle.lert_levels.proofs.flush.put.put_piece.Goals as goal

-- ---- of no part

pub returns-in_default : goal.returns-in_default
returns-in_default g c = record {
  taken = λ own d below. sym (ap (λ (part : Option ℕ). with_piece (is_of part own) c.args.piece (taken (get_or c.args.landings.now own d))) c.in_default.is);
  writes = writes_as (λ failed. never_failed _ _ failed) (writes_read c.args.landings.now (reads_same (seen_by g.B.Faulty g.B.Bay) g.met.B.Bay.only_now (λ none. none)));
  whole = λ at malformed. never_failed _ _ malformed;
}

-- ---- of a part

pub add_to-requires : goal.add_to-requires
add_to-requires g c = record { part = rw c.in-Some.is at c.requires.part; piece = rw c.in-Some.is at c.requires.piece }

pub returns-in-Ok : goal.returns-in-Ok
returns-in-Ok g c =
    let added = c.in-Ok.ensures in
    record {
      taken = landed_one c.args.landings.now c.add_to.new.landings c.args.part c.in-Some.own c.args.piece c.in-Some.is (rw c.in-Some.is at c.requires.part) added.taken;
      writes = record {
        homes = added.homes;
        landing = added.landing;
        rest = added.rest;
        kept = keeps_turned (λ failed. absurd (never_failed _ _ failed)) added.kept;
      };
      whole = λ at malformed. never_failed _ _ malformed;
    }

pub returns-in-Err : goal.returns-in-Err
returns-in-Err g c =
    let added = c.in-Err.ensures in
    record {
      taken = tt;
      writes = record {
        homes = added.homes;
        landing = added.landing;
        rest = added.rest;
        kept = keeps_turned (λ failed. refl) added.kept;
      };
      whole = λ at malformed. not_malformed at malformed;
    }
