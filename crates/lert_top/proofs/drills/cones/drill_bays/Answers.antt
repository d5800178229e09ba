use Rattle.std.proofs.{Common.{Option, List, length, refl, ap, sym, ◌∙◌, subst, arith}, lemmas.Option.same_Some}
use Rattle.lert_bay.specs.Files.{Files}
use Rattle.lert_cone.specs.Sound.{AreEmpty}
use Rattle.lert_ingest.specs.Bays.{AreFresh, AreToldFresh, bays_of}
use Rattle.lert_ingest.proofs.BayLaws.{told_later}
use Rattle.lert_top.proofs.cones.StatusLaws.{fresh_told}
use Rattle.lert_top.specs.drills.Drilled.{drill_memory}
use Rattle.lert_top.proofs.drills.cones.drill_bays.Goals as goal

-- bays that tell that they are empty are
told_fresh : {B : Type 0} (files : B → Option Files) (bays : List B) → AreToldFresh files bays → AreFresh files bays
told_fresh files bays fresh = λ cone bay is seen told. let held = fresh cone bay is in subst AreEmpty (same_Some held.0 seen (sym held.1 ∙ told)) held.2

pub drill_cones-cones-requires-clause-told : goal.drill_cones-cones-requires-clause-told
drill_cones-cones-requires-clause-told g c κs within =
    told_later g.B.Bay.files g.B.Faulty.faults g.B.Faulty.mark c.args.bays.now.items (bays_of c.in-Ok.cones.items) c.in-Ok.ensures.later
    (fresh_told g.B.Bay.files c.args.bays.now.items c.requires.fresh)

pub make_cones-requires-clause-number : goal.make_cones-requires-clause-number
make_cones-requires-clause-number g c = λ lifetimes outlive. c.requires.number

pub make_cones-requires-clause-room : goal.make_cones-requires-clause-room
make_cones-requires-clause-room g c = λ lifetimes outlive. c.requires.room

pub drill_cones-cones-requires-clause-least : goal.drill_cones-cones-requires-clause-least
drill_cones-cones-requires-clause-least g c = λ lifetimes outlive. c.requires.least

pub drill_cones-cones-requires-clause-most : goal.drill_cones-cones-requires-clause-most
drill_cones-cones-requires-clause-most g c = λ lifetimes outlive. c.requires.most

pub drill_cones-cones-requires-clause-dealt : goal.drill_cones-cones-requires-clause-dealt
drill_cones-cones-requires-clause-dealt g c = λ lifetimes outlive. c.requires.dealt

pub drill_cones-cones-requires-clause-number : goal.drill_cones-cones-requires-clause-number
drill_cones-cones-requires-clause-number g c = λ lifetimes outlive. c.in-Ok.ensures.number

pub drill_cones-cones-requires-clause-new_cones : goal.drill_cones-cones-requires-clause-new_cones
drill_cones-cones-requires-clause-new_cones g c = λ lifetimes outlive. c.in-Ok.ensures.new_cones

pub bring_back-requires : goal.bring_back-requires
bring_back-requires g c =
    omega (
      arith,
      c.drill_cones-cones.ensures.number,
      c.in-Ok.ensures.number,
      ap length c.in-Ok.ensures.emptied,
      c.make_cones.ensures.room,
      c.requires.room,
      c.requires.number,
    )

pub returns-in_default : goal.returns-in_default
returns-in_default g c = record { shows = λ seed events are. drill_memory refl }

pub returns : goal.returns
returns g c = record { shows = λ seed events are. c.drill_cones-cones.ensures.shows seed events are }

pub make_cones-requires-clause-fresh : goal.make_cones-requires-clause-fresh
make_cones-requires-clause-fresh g c = λ lifetimes outlive. told_fresh g.B.Bay.files c.args.bays.now.items c.requires.fresh
