use Rattle.lert_worker_tests.proofs.PairLaws.{whole}
use Rattle.lert_worker_tests.proofs.crew.close.Goals as goal

pub close-requires-clause-whole : goal.close-requires-clause-whole
close-requires-clause-whole g c = whole g.H.Held c.args.fleet c.args.first c.args.second c.requires.passes c.join.new.pass c.join.ensures.joined
