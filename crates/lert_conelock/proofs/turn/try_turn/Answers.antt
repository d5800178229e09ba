use Rattle.std.proofs.Common.{refl, sym, ◌∙◌}
use Rattle.lert_conelock.proofs.Turning.{taker, fitting, trying, short_history, me_pass, lock_taken, lock_refused, reasoned, was_taken_as, was_refused_as}
use Rattle.lert_conelock.proofs.SameTurn.{done_busy, done_refused, refused_busy, same_done, same_refused}
use Rattle.lert_conelock.proofs.turn.try_turn.Goals as goal

pub apply-requires : goal.apply-requires
apply-requires g c = let may = c.requires.idle in fitting _ _ _ _ _
    (c.in-Some.ensures.won may.pass (taker may)) g.S.Held.fits (c.requires.fits may.pass (taker may))

pub commit-requires-clause-trying : goal.commit-requires-clause-trying
commit-requires-clause-trying g c = let may = c.requires.idle in trying _ _ _ _ _ (c.in-Some.ensures.won may.pass (taker may))

pub note-requires-clause-trying : goal.note-requires-clause-trying
note-requires-clause-trying g c = let may = c.requires.idle in trying _ _ _ _ _ (c.in-Some.ensures.won may.pass (taker may))

pub commit-requires-clause-short : goal.commit-requires-clause-short
commit-requires-clause-short g c = let may = c.requires.idle in short_history _ _ _ _ _
    (c.in-Some.ensures.won may.pass (taker may)) g.met.S.Held.short

pub bring_home-requires-clause-lock : goal.bring_home-requires-clause-lock
bring_home-requires-clause-lock g c = let may = c.requires.idle in
    let took = c.in-Some.ensures.won may.pass (taker may) in let did = c.in-Ok.ensures in
    lock_taken _ _ _ _ _ took _ did.terms did.stopped did.stands_for did.over _
    (c.commit.ensures.committed _ _ (me_pass _ _ _ _ _ took) refl)

pub note-requires-clause-reason : goal.note-requires-clause-reason
note-requires-clause-reason g c = let may = c.requires.idle in
    let took = c.in-Some.ensures.won may.pass (taker may) in let did = c.in-Err.ensures in
    reasoned _ _ _ _ _ took _ did.terms did.stopped _ did.unchanged did.refuses

pub bring_home-requires-in-Err-clause-lock : goal.bring_home-requires-in-Err-clause-lock
bring_home-requires-in-Err-clause-lock g c = let may = c.requires.idle in
    let took = c.in-Some.ensures.won may.pass (taker may) in let did = c.in-Err.ensures in
    lock_refused _ _ _ _ _ took _ did.terms did.stopped _ did.unchanged did.refuses _
    (c.note.ensures.noted _ _ (me_pass _ _ _ _ _ took) refl)

pub commit-requires-clause-table : goal.commit-requires-clause-table
commit-requires-clause-table g c = c.in-Some.ensures.seat.0 ∙ c.requires.table

pub bring_home-requires-clause-table : goal.bring_home-requires-clause-table
bring_home-requires-clause-table g c = c.commit.ensures.seat.0 ∙ c.in-Some.ensures.seat.0 ∙ c.requires.table

pub note-requires-clause-table : goal.note-requires-clause-table
note-requires-clause-table g c = c.in-Some.ensures.seat.0 ∙ c.requires.table

pub bring_home-requires-in-Err-clause-table : goal.bring_home-requires-in-Err-clause-table
bring_home-requires-in-Err-clause-table g c = c.note.ensures.seat.0 ∙ c.in-Some.ensures.seat.0 ∙ c.requires.table

pub returns-in-Ok-clause-seat : goal.returns-in-Ok-clause-seat
returns-in-Ok-clause-seat g c = (
  c.bring_home.ensures.seat.0 ∙ c.commit.ensures.seat.0 ∙ c.in-Some.ensures.seat.0,
  c.bring_home.ensures.seat.1 ∙ c.commit.ensures.seat.1 ∙ c.in-Some.ensures.seat.1,
)

pub returns-in-Ok-clause-refused : goal.returns-in-Ok-clause-refused
returns-in-Ok-clause-refused g c p refusal is same = absurd (done_refused _ _ same)

pub returns-in-Ok-clause-busy : goal.returns-in-Ok-clause-busy
returns-in-Ok-clause-busy g c p is same = absurd (done_busy _ same)

pub returns-in-Err-clause-seat : goal.returns-in-Err-clause-seat
returns-in-Err-clause-seat g c = (
  c.bring_home-in-Err.ensures.seat.0 ∙ c.note.ensures.seat.0 ∙ c.in-Some.ensures.seat.0,
  c.bring_home-in-Err.ensures.seat.1 ∙ c.note.ensures.seat.1 ∙ c.in-Some.ensures.seat.1,
)

pub returns-in-Err-clause-done : goal.returns-in-Err-clause-done
returns-in-Err-clause-done g c p reply is same = absurd (done_refused _ _ (sym same))

pub returns-in-Err-clause-busy : goal.returns-in-Err-clause-busy
returns-in-Err-clause-busy g c p is same = absurd (refused_busy _ same)

pub returns-in_default : goal.returns-in_default
returns-in_default g c = record {
  seat = c.in_default.ensures.seat;
  done = λ p reply is same. absurd (done_busy _ (sym same));
  refused = λ p refusal is same. absurd (refused_busy _ (sym same));
  busy = λ p is same. c.in_default.ensures.lost p is;
}

pub returns-in-Ok-clause-done : goal.returns-in-Ok-clause-done
returns-in-Ok-clause-done g c p reply is same = let may = c.requires.idle in let took = c.in-Some.ensures.won p is in
    let did = c.in-Ok.ensures in
    let at = c.commit.ensures.committed _ _ (me_pass _ _ _ _ _ took) refl in
    was_taken_as _ _ _ _ _ took _ reply g.C.Counting.more did.answers (same_done _ _ same) _
    (c.bring_home.ensures.freed _ (λ i. (at i).0))

pub returns-in-Err-clause-refused : goal.returns-in-Err-clause-refused
returns-in-Err-clause-refused g c p refusal is same = let may = c.requires.idle in
    let took = c.in-Some.ensures.won p is in let did = c.in-Err.ensures in
    let at = c.note.ensures.noted _ _ (me_pass _ _ _ _ _ took) refl in
    was_refused_as _ _ _ _ _ took _ did.terms did.stopped _ did.unchanged did.refuses refusal g.C.Counting.more
    (same_refused _ _ same) _ (c.bring_home-in-Err.ensures.freed _ (λ i. (at i).0))
