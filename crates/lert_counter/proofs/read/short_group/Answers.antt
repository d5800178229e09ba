use Rattle.std.proofs.Common.{arith, ◌<◌, ◌≢◌, length, List, ℕ}
use Rattle.lert_counter.proofs.FrontLemmas.{begins_one, begins_two, begins_three}
use Rattle.lert_counter.proofs.read.short_group.Goals as goal

two_there : (xs : List ℕ) → 0 < length xs → length xs ≢ 1 → 1 < length xs
two_there xs some more = omega arith

pub returns-then-rest-eq1-clause-begins : goal.returns-then-rest-eq1-clause-begins
returns-then-rest-eq1-clause-begins c = λ width. begins_one width c.args.rest.now (omega arith)

pub returns-then-rest-eq0-clause-begins : goal.returns-then-rest-eq0-clause-begins
returns-then-rest-eq0-clause-begins c = λ width. begins_three width c.args.rest.now c.if-rest-gt2.true c.if-x-eq0.true (omega arith) c.if-rest-eq0.true

pub returns-clause-begins : goal.returns-clause-begins
returns-clause-begins c = λ width. begins_two width c.args.rest.now (two_there c.args.rest.now c.requires c.if-rest-eq1.false) c.if-rest-x.false
