use Rattle.lert_merge_tests.proofs.sorted.SortedPiecesCounting.next.Goals as goal
use Rattle.lert_spec.proofs.GivenLaws.{given_take}

pub returns-clause-ascending : goal.returns-clause-ascending
returns-clause-ascending c = given_take _ _ _ c.args.self.now.sorted

pub returns-then-self-clause-ascending : goal.returns-then-self-clause-ascending
returns-then-self-clause-ascending c = given_take _ _ _ c.args.self.now.sorted
