use Rattle.std.proofs.Common.{arith}
use Rattle.lert_counter.proofs.Widths.{shift_is, width_least}
use Rattle.lert_counter.proofs.digits.base_beside.Goals as goal

pub overflow_sub-result-else-x-eq0 : goal.overflow_sub-result-else-x-eq0
overflow_sub-result-else-x-eq0 c =
    omega (arith, shift_is c.args.width c.requires.wide, width_least c.args.width c.requires.narrow)

pub returns-then-x-eq0-clause-least : goal.returns-then-x-eq0-clause-least
returns-then-x-eq0-clause-least c =
    omega (arith, shift_is c.args.width c.requires.wide, width_least c.args.width c.requires.narrow)

pub returns-else-x-eq0-clause-least : goal.returns-else-x-eq0-clause-least
returns-else-x-eq0-clause-least c =
    omega (arith, shift_is c.args.width c.requires.wide, width_least c.args.width c.requires.narrow)
