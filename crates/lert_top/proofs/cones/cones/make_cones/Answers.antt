use Rattle.std.proofs.{Common.{◌++◌, ap, sym, ◌∙◌, subst, arith, append-nil}, lemmas.Result.err_from_is_err_and}
use Rattle.lert_ingest.specs.Bays.{AreLater, AreUnused, bays_of}
use Rattle.lert_ingest.proofs.{BayLaws.are_same, EachLaws.unused_same}
use Rattle.lert_top.specs.cones.Unmade.{IsUnmade, unmade_memory}
use Rattle.lert_top.proofs.cones.ConeLaws.{cones_and_left}
use Rattle.lert_top.proofs.cones.cones.make_cones.Goals as goal

pub returns-in-Ok-fill_rooms-clause-later : goal.returns-in-Ok-fill_rooms-clause-later
returns-in-Ok-fill_rooms-clause-later g c =
    let made = bays_of c.fill_rooms.new.cones.items in
    subst (AreLater g.B.Bay.files g.B.Faulty.faults g.B.Faulty.mark c.args.bays.now.items) (ap (λ xs. made ++ xs) c.in-Ok-fill_rooms.ensures.emptied ∙ append-nil made)
    c.fill_rooms.ensures.later

pub returns-in-Ok-fill_rooms-clause-unused : goal.returns-in-Ok-fill_rooms-clause-unused
returns-in-Ok-fill_rooms-clause-unused g c =
    let made = bays_of c.fill_rooms.new.cones.items in
    subst (AreUnused g.B.Bay.files c.args.settings.now c.args.bays.now.items) (ap (λ xs. made ++ xs) c.in-Ok-fill_rooms.ensures.emptied ∙ append-nil made) c.in-Ok-fill_rooms.ensures.unused

pub bring_back-requires : goal.bring_back-requires
bring_back-requires g c =
    omega (
      arith,
      c.requires.room,
      c.fill_rooms.ensures.room,
      cones_and_left g.B.Bay.files g.B.Faulty.faults g.B.Faulty.mark c.args.bays.now.items c.fill_rooms.new.cones.items c.fill_rooms.new.bays.items c.fill_rooms.ensures.later,
    )

pub returns-clause-kept : goal.returns-clause-kept
returns-clause-kept g c = subst (AreLater g.B.Bay.files g.B.Faulty.faults g.B.Faulty.mark c.args.bays.now.items) (sym c.bring_back.ensures.bays) c.fill_rooms.ensures.later

pub returns-clause-unmade : goal.returns-clause-unmade
returns-clause-unmade g c =
    subst (λ xs. IsUnmade g.B.Bay.files g.B.Faulty.faults c.args.settings.now c.args.bays.now.items xs c.in-Err.status) (sym c.bring_back.ensures.bays) c.in-Err.ensures.unmade

pub returns-in_default-clause-kept : goal.returns-in_default-clause-kept
returns-in_default-clause-kept g c = are_same g.B.Bay.files g.B.Faulty.faults g.B.Faulty.mark c.args.bays.now.items

pub returns-in_default-clause-unmade : goal.returns-in_default-clause-unmade
returns-in_default-clause-unmade g c = unmade_memory (unused_same g.B.Bay.files c.args.settings.now c.args.bays.now.items)

pub returns-in_err-rooms-clause-unmade : goal.returns-in_err-rooms-clause-unmade
returns-in_err-rooms-clause-unmade g c =
    let p = err_from_is_err_and c.from_residual.result c.from_residual.ensures.1 in
    rw (p.1, p.2) (unmade_memory (unused_same g.B.Bay.files c.args.settings.now c.args.bays.now.items))
