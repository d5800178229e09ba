use Rattle.std.proofs.{Common.{◌≡◌, ◌∙◌, ap, arith, refl}, lemmas.Result.err_from_is_err_and}
use Rattle.std.specs.Prelude.{Err}
use Rattle.lert_bay.specs.{declared.bay.TheConstants.JOURNAL, Kept.{Bays, seen_by}}
use Rattle.lert_bay.proofs.KeptLaws.{IsLawful, reads_on, reads_as, reads_call}
use Rattle.lert_frames.proofs.FaultLaws.{not_err}
use Rattle.lert_levels.proofs.{rows.ReadLaws.{failed_there, malformed_there}, ReachLaws.no_place}
use Rattle.lert_levels.proofs.secure.secure_rows.Given as given
use Rattle.lert_levels.proofs.secure.secure_rows.Goals as goal

abbrev bays : (g : given.Over) → Bays g.row.B.Denot
bays g = seen_by g.B.Faulty g.B.Bay

lawful : (g : given.Over) → IsLawful (bays g)
lawful g = record { as_read = g.met.B.Bay.as_read; since_now = g.met.B.Bay.since_now; only_now = g.met.B.Bay.only_now; since_earlier = g.met.B.Bay.since_earlier }

pub secure_levels-requires : goal.secure_levels-requires
secure_levels-requires g c = record { same = c.requires.same; version = c.requires.version; rows = c.requires.rows }

pub returns : goal.returns
returns g c =
    let len = c.in_ok-len.ensures in
    let e = c.in_ok-secure_levels.ensures in
    record {
      secure = λ seen told.
          (let long : c.in_ok-len.len ≡ _ = len.told seen told in
          e.secure seen (len.seen ∙ told) (omega (arith, long)));
      malformed = λ seen told at is. absurd (not_err _ _ is);
      room = e.room;
      only_reads = reads_on (bays g) (lawful g) c.args.bay.now c.len.new.self c.secure_levels.new.bay ⊥ _
          (reads_call (bays g) (lawful g) c.args.bay.now c.len.new.self ⊥ len.time len.cause.never_falls (λ is. absurd is) len.mark len.seen len.images (ap (λ h. h JOURNAL) len.handed))
          (reads_as (bays g) (lawful g) c.len.new.self c.secure_levels.new.bay _ _ (λ is. absurd (not_err _ _ is)) e.only_reads);
    }

pub returns-in_err-len : goal.returns-in_err-len
returns-in_err-len g c =
    let r = c.from_residual in
    let len = c.in_err-len.ensures in
    record {
      secure = λ seen told. rw (err_from_is_err_and r.result r.ensures.1).1 tt;
      malformed = λ seen told at is. absurd (no_place r.result r.ensures.1 at is);
      room = c.requires.same;
      only_reads = reads_call (bays g) (lawful g) c.args.bay.now c.len.new.self _ len.time len.cause.never_falls (λ is. len.cause.failed refl) len.mark len.seen len.images
          (ap (λ h. h JOURNAL) len.handed);
    }

pub returns-in_err-secure_levels : goal.returns-in_err-secure_levels
returns-in_err-secure_levels g c =
    let r = c.from_residual-in_err-secure_levels in
    let fault = c.in_err-secure_levels.field-0.0 in
    let len = c.in_ok-len.ensures in
    let e = c.in_err-secure_levels.ensures in
    record {
      secure = λ seen told. rw (err_from_is_err_and r.result r.ensures.1).1 tt;
      malformed = λ seen told at is. e.malformed seen (len.seen ∙ told) at (ap Err (malformed_there r.result fault at r.ensures.1 is));
      room = e.room;
      only_reads = reads_on (bays g) (lawful g) c.args.bay.now c.len.new.self c.secure_levels.new.bay ⊥ _
          (reads_call (bays g) (lawful g) c.args.bay.now c.len.new.self ⊥ len.time len.cause.never_falls (λ is. absurd is) len.mark len.seen len.images (ap (λ h. h JOURNAL) len.handed))
          (reads_as (bays g) (lawful g) c.len.new.self c.secure_levels.new.bay _ _ (λ is. ap Err (failed_there r.result fault r.ensures.1 is)) e.only_reads);
    }
