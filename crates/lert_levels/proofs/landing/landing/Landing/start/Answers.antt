use Rattle.lert_levels.proofs.landing.LandingLaws.{taken_none, taking_anew}
use Rattle.lert_levels.proofs.landing.landing.Landing.start.Goals as goal

pub invariant_of-self : goal.invariant_of-self
invariant_of-self c = taking_anew c.start.new.self c.new-self.result c.start.ensures.put c.new-self.ensures c.args.version c.args.frame c.requires.version c.start.ensures.version c.start.ensures.frame

pub returns-clause-taken : goal.returns-clause-taken
returns-clause-taken c = taken_none c.start.new.self c.new-self.result c.start.ensures.put c.new-self.ensures
