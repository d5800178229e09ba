use Rattle.lert_bay.specs.Kept.{Bays, seen_by}
use Rattle.lert_base.specs.Entries.{packet_of}
use Rattle.lert_cone.proofs.HeldLaws.{answers_under, refuses_under}
use Rattle.lert_cone.proofs.cone.held.ConeHeld.apply.Given as given
use Rattle.lert_cone.proofs.cone.held.ConeHeld.apply.Goals as goal

abbrev bays : (g : given.Over) → Bays g.row.B.Denot
bays g = seen_by g.B.Faulty g.B.Bay

pub returns-clause-answers : goal.returns-clause-answers
returns-clause-answers g c =
    answers_under (bays g) (packet_of c.args.entry.now) c.args.self.now c.admit.new.self c.state-state.ensures.later.2 c.admit.result c.admit.ensures.answers

pub returns-clause-refuses : goal.returns-clause-refuses
returns-clause-refuses g c =
    refuses_under (bays g) (packet_of c.args.entry.now) c.args.self.now c.admit.new.self c.admit.result c.admit.ensures
