use Rattle.std.proofs.{Common.{suc, arith}, lemmas.Nat.mul-le}
use Rattle.lert_levels.proofs.rows.named.bin_in.Goals as goal

pub overflow_add-interval : goal.overflow_add-interval
overflow_add-interval c = omega (arith, mul-le (suc c.args.interval) 1 (suc c.args.interval) c.args.wide (omega arith) c.requires.some, c.requires.last)
