use Rattle.std.proofs.Common.{List, ℕ, Some, refl, ap, map}
use Rattle.lert_top.specs.drills.Drilled.{drill_memory}
use Rattle.lert_top.proofs.drills.NewBays.{fresh_bays}
use Rattle.lert_top.proofs.drills.drills.drill.Goals as goal

pub drill_bays-sources-requires-clause-fresh : goal.drill_bays-sources-requires-clause-fresh
drill_bays-sources-requires-clause-fresh g c κs within = fresh_bays c.in-Ok-make_bays.bays.items c.in-Ok-make_bays.ensures.each

pub returns : goal.returns
returns g c = record {
  shows = c.drill_bays-sources.ensures.shows c.args.seed c.args.events (ap (λ (texts : List (List ℕ)). map Some texts) c.in-Ok.ensures);
}

pub returns-in_default : goal.returns-in_default
returns-in_default g c = record { shows = drill_memory refl }

pub returns-in_default-make_bays : goal.returns-in_default-make_bays
returns-in_default-make_bays g c = record { shows = drill_memory refl }
