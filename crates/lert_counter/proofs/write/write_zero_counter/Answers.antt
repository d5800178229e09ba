use Rattle.std.proofs.{Common.{arith, ◌∙◌, sym}, lemmas.List.length-set}
use Rattle.lert_counter.proofs.CounterLemmas.{counter-zero, front_zero, rest_zero}
use Rattle.lert_counter.proofs.write.write_zero_counter.Goals as goal

pub returns-clause-front : goal.returns-clause-front
returns-clause-front c =
    let same_length = c.put_digits-end.auto.into ∙ length-set c.args.into.now 0 0 in
    front_zero c.put_digits-end.result c.args.into.now c.put_digits-end.new.into _ (omega arith) (omega arith) (rw (← c.base_beside-base.ensures.value) c.put_digits-end.ensures.front)
    ∙ sym (counter-zero c.args.width c.args.count)

pub returns-clause-rest : goal.returns-clause-rest
returns-clause-rest c =
    rest_zero c.put_digits-end.result c.args.into.now c.put_digits-end.new.into (omega arith) c.put_digits-end.ensures.rest
