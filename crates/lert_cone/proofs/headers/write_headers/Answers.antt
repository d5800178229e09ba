use Rattle.lert_bay.specs.Kept.{Bays, seen_by}
use Rattle.std.proofs.{Common.{◌∙◌, ◌++◌, ◌∷◌, [], ap, arith, refl}, lemmas.Result.err_from_is_err_and, lemmas.Bool.false≢true}
use Rattle.std.specs.Prelude.{is_err}
use Rattle.lert_cone.proofs.{Refusals.{frames_stay, frames_stay_on}, SoundLaws.{turns_back, begun_new}}
use Rattle.lert_bay.proofs.KeptLaws.{IsLawful, keeps_as, keeps_on}
use Rattle.lert_cone.proofs.headers.write_headers.Given as given
use Rattle.lert_cone.proofs.headers.write_headers.Goals as goal

abbrev bays : (g : given.Over) → Bays g.row.B.Denot
bays g = seen_by g.B.Faulty g.B.Bay

lawful : (g : given.Over) → IsLawful (bays g)
lawful g = record { as_read = g.met.B.Bay.as_read; since_now = g.met.B.Bay.since_now; only_now = g.met.B.Bay.only_now; since_earlier = g.met.B.Bay.since_earlier }

pub create-requires-clause-empty : goal.create-requires-clause-empty
create-requires-clause-empty g c = λ seen told. (c.requires.fresh seen told).journal

pub returns-in_err-journal : goal.returns-in_err-journal
returns-in_err-journal g c =
    let p = err_from_is_err_and c.from_residual.result c.from_residual.ensures.1 in
    rw p.1 (record {
      journal = tt;
      log = tt;
      begun = tt;
      frames = frames_stay 0 (λ same. absurd (omega (arith, same))) (g.B.Bay.files c.args.bay.now) (g.B.Bay.files c.create.new.bay) c.create.ensures.seen;
      kept = keeps_as (bays g) (lawful g) c.args.bay.now c.create.new.bay _ _ (λ _. ap is_err c.in_err-journal.was) c.create.ensures.kept;
    })

pub create-requires-2-clause-empty : goal.create-requires-2-clause-empty
create-requires-2-clause-empty g c = λ seen told.
    let was = turns_back c.create.ensures.seen seen told in
    was.2 1 (λ same. absurd (omega (arith, same))) ∙ (c.requires.fresh was.0 was.1).log

pub returns-in_err-log : goal.returns-in_err-log
returns-in_err-log g c =
    let p = err_from_is_err_and c.from_residual-in_err-log.result c.from_residual-in_err-log.ensures.1 in
    rw p.1 (record {
      journal = tt;
      log = tt;
      begun = tt;
      frames = frames_stay_on (g.B.Bay.files c.args.bay.now) (g.B.Bay.files c.create.new.bay) (g.B.Bay.files c.create-2.new.bay)
          (frames_stay 0 (λ same. absurd (omega (arith, same))) (g.B.Bay.files c.args.bay.now) (g.B.Bay.files c.create.new.bay) c.create.ensures.seen)
          (frames_stay 1 (λ same. absurd (omega (arith, same))) (g.B.Bay.files c.create.new.bay) (g.B.Bay.files c.create-2.new.bay) c.create-2.ensures.seen);
      kept = keeps_as (bays g) (lawful g) c.args.bay.now c.create-2.new.bay _ _ (λ _. ap is_err c.in_err-log.was)
          (keeps_on (bays g) (lawful g) c.args.bay.now c.create.new.bay c.create-2.new.bay _ _ c.create.ensures.kept c.create-2.ensures.kept);
    })

pub returns-clause-frames : goal.returns-clause-frames
returns-clause-frames g c = frames_stay_on (g.B.Bay.files c.args.bay.now) (g.B.Bay.files c.create.new.bay) (g.B.Bay.files c.create-2.new.bay)
    (frames_stay 0 (λ same. absurd (omega (arith, same))) (g.B.Bay.files c.args.bay.now) (g.B.Bay.files c.create.new.bay) c.create.ensures.seen)
    (frames_stay 1 (λ same. absurd (omega (arith, same))) (g.B.Bay.files c.create.new.bay) (g.B.Bay.files c.create-2.new.bay) c.create-2.ensures.seen)

pub returns-clause-kept : goal.returns-clause-kept
returns-clause-kept g c =
    keeps_as (bays g) (lawful g) c.args.bay.now c.create-2.new.bay _ _ (λ never. absurd (false≢true never))
    (keeps_on (bays g) (lawful g) c.args.bay.now c.create.new.bay c.create-2.new.bay _ _ c.create.ensures.kept c.create-2.ensures.kept)

pub returns-clause-begun : goal.returns-clause-begun
returns-clause-begun g c = λ seen told.
    let one = turns_back c.create-2.ensures.seen seen told in
    let zero_ = turns_back c.create.ensures.seen one.0 one.1 in
    begun_new c.args.settings.now c.args.cone (g.B.Bay.leaves c.create.new.bay) (g.B.Bay.leaves c.create-2.new.bay) (g.B.Bay.left_since c.create-2.new.bay
    (g.B.Bay.moment c.create.new.bay)) one.0 seen refl
    (record {
      journal = λ image may. c.in_ok-journal.ensures.text zero_.0 zero_.1 image may ∙ ap (λ bytes. bytes ++ 0 ∷ []) c.write_header.ensures.text;
      journal_settled = c.in_ok-journal.ensures.settled one.0 one.1;
      first_read = g.met.B.Bay.as_read c.create.new.bay one.0 one.1;
      others = c.in_ok-log.ensures.others one.0 one.1;
      now = λ image may. g.met.B.Bay.since_earlier c.create-2.new.bay (g.B.Bay.moment c.create.new.bay) (g.B.Bay.moment c.create-2.new.bay) image c.create-2.ensures.kept.time.later
          (g.met.B.Bay.since_now c.create-2.new.bay image may);
      stay = one.2;
      log = c.in_ok-log.ensures.text one.0 one.1;
      log_settled = c.in_ok-log.ensures.settled seen told;
    })
