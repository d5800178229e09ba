use Rattle.std.specs.Prelude.{OnErr}
use Rattle.std.proofs.{Common.{◌++◌, Result, Ok, Err, refl, ap, sym, ◌∙◌, subst, arith, append-nil}, lemmas.Result.err_from_is_err_and}
use Rattle.lert_ingest.specs.Bays.{bays_of}
use Rattle.lert_top.specs.{recovery.Recovered.{IsUnopened, unopened_memory}, recovery.Moments.AreReread}
use Rattle.lert_top.proofs.{cones.ConeLaws.cones_and_left, recovery.MomentLaws.reread_same}
use Rattle.lert_bay.specs.Kept.{Bays, seen_by}
use Rattle.lert_bay.proofs.KeptLaws.{IsLawful}
use Rattle.lert_top.proofs.recovery.reopened_cones.reopen_cones.Given as given
use Rattle.lert_top.proofs.recovery.reopened_cones.reopen_cones.Goals as goal

abbrev bays : (g : given.Over) → Bays g.row.B.Denot
bays g = seen_by g.B.Faulty g.B.Bay

lawful : (g : given.Over) → IsLawful (bays g)
lawful g = record { as_read = g.met.B.Bay.as_read; since_now = g.met.B.Bay.since_now; only_now = g.met.B.Bay.only_now; since_earlier = g.met.B.Bay.since_earlier }

pub returns-in-Ok-reopen_rooms-clause-reread : goal.returns-in-Ok-reopen_rooms-clause-reread
returns-in-Ok-reopen_rooms-clause-reread g c =
    let made = bays_of c.reopen_rooms.new.cones.items in
    subst (AreReread (bays g) c.args.settings.now c.args.bays.now.items) (ap (λ xs. made ++ xs) c.in-Ok-reopen_rooms.ensures.emptied ∙ append-nil made) c.reopen_rooms.ensures.reread

pub bring_back-requires : goal.bring_back-requires
bring_back-requires g c =
    omega (
      arith,
      c.requires.room,
      c.reopen_rooms.ensures.room,
      cones_and_left g.B.Bay.files g.B.Faulty.faults g.B.Faulty.mark c.args.bays.now.items c.reopen_rooms.new.cones.items c.reopen_rooms.new.bays.items c.reopen_rooms.ensures.reread.later,
    )

pub returns-clause-reread_kept : goal.returns-clause-reread_kept
returns-clause-reread_kept g c = subst (AreReread (bays g) c.args.settings.now c.args.bays.now.items) (sym c.bring_back.ensures.bays) c.reopen_rooms.ensures.reread

pub returns-clause-unopened : goal.returns-clause-unopened
returns-clause-unopened g c =
    subst (λ xs. IsUnopened g.B.Bay.files g.B.Faulty.faults c.args.settings.now c.args.bays.now.items xs c.in-Err.status) (sym c.bring_back.ensures.bays) c.in-Err.ensures.unopened

on_err : {T E : Type 0} (r : Result T E) (P : Type 0) → P → OnErr r P
on_err (Ok done) P is = tt
on_err (Err fault) P is = is

pub returns-in_err-rooms-clause-reread_kept : goal.returns-in_err-rooms-clause-reread_kept
returns-in_err-rooms-clause-reread_kept g c =
    on_err c.from_residual.result _ (reread_same (bays g) (lawful g) c.args.settings.now c.args.bays.now.items)

pub returns-in_default-clause-reread_kept : goal.returns-in_default-clause-reread_kept
returns-in_default-clause-reread_kept g c = reread_same (bays g) (lawful g) c.args.settings.now c.args.bays.now.items

pub returns-in_err-rooms-clause-unopened : goal.returns-in_err-rooms-clause-unopened
returns-in_err-rooms-clause-unopened g c =
    let p = err_from_is_err_and c.from_residual.result c.from_residual.ensures.1 in rw (p.1, p.2) (unopened_memory refl)

pub returns-in_default-clause-unopened : goal.returns-in_default-clause-unopened
returns-in_default-clause-unopened g c = unopened_memory refl
