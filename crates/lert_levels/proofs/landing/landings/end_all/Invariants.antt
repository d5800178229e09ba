use Rattle.lert_bay.specs.Kept.{Bays, seen_by}
use Rattle.lert_levels.proofs.landing.LandingsLaws.{AreEnding}
use Rattle.lert_levels.proofs.landing.landings.end_all.Given as goal

abbrev pub bays : (g : goal.Over) → Bays g.row.B.Denot
bays g = seen_by g.B.Faulty g.B.Bay

-- the landings so far ended
abbrev pub invariant-loop-landing : goal.invariant-loop-landing
invariant-loop-landing g l = AreEnding (bays g) l.fn.landings l.landings l.landing-index l.fn.bay l.bay
