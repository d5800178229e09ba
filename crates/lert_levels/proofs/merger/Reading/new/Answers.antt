-- At a refusal there is no memory, so nothing is said of it.
use Rattle.std.proofs.lemmas.Result.{err_from_is_err_and}
use Rattle.lert_levels.proofs.merger.Reading.new.Goals as goal

pub returns-in_err-new : goal.returns-in_err-new
returns-in_err-new g c = rw (err_from_is_err_and c.from_residual.result c.from_residual.ensures.1).1 (record { room = tt; ahead = tt })

pub returns-in_err-new-2 : goal.returns-in_err-new-2
returns-in_err-new-2 g c = rw (err_from_is_err_and c.from_residual-in_err-new-2.result c.from_residual-in_err-new-2.ensures.1).1 (record { room = tt; ahead = tt })
