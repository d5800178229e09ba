use Rattle.lert_bench.proofs.sorted.SortedPiecesQuiet.next.Goals as goal
use Rattle.lert_spec.proofs.GivenLaws.{given_take}

pub returns-clause-ascending : goal.returns-clause-ascending
returns-clause-ascending c = given_take _ _ _ c.args.self.now.sorted
