use Rattle.std.proofs.Common.{arith}
use Rattle.lert_counter.proofs.DigitLemmas.{front_more}
use Rattle.lert_counter.proofs.digits.+put_digits.Goals as goal

pub returns-else-number-base-clause-front : goal.returns-else-number-base-clause-front
returns-else-number-base-clause-front t c =
    front_more c.args.x c.args.room c.args.base c.args.number c.args.at c.put_digits-end.result _ c.args.into.now c.put_digits-end.new.into (omega arith) (omega arith) (omega arith)
    c.put_digits-end.ensures.front c.slot_of-else-number-base.ensures
