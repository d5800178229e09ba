-- At a refusal there is no room, so nothing is said of one.
use Rattle.std.proofs.lemmas.Result.{err_from_is_err_and}
use Rattle.lert_cone.proofs.room.ConeRoom.new.Goals as goal

pub returns-in_err-with_room : goal.returns-in_err-with_room
returns-in_err-with_room g c = rw (err_from_is_err_and c.from_residual.result c.from_residual.ensures.1).1 (record { settings = tt; room = tt })

pub returns-in_err-vec : goal.returns-in_err-vec
returns-in_err-vec g c = rw (err_from_is_err_and c.from_residual-in_err-vec.result c.from_residual-in_err-vec.ensures.1).1 (record { settings = tt; room = tt })

pub returns-in_err-new : goal.returns-in_err-new
returns-in_err-new g c = rw (err_from_is_err_and c.from_residual-in_err-new.result c.from_residual-in_err-new.ensures.1).1 (record { settings = tt; room = tt })

pub returns-in_err-new-2 : goal.returns-in_err-new-2
returns-in_err-new-2 g c = rw (err_from_is_err_and c.from_residual-in_err-new-2.result c.from_residual-in_err-new-2.ensures.1).1 (record { settings = tt; room = tt })

pub returns-in_err-new-3 : goal.returns-in_err-new-3
returns-in_err-new-3 g c = rw (err_from_is_err_and c.from_residual-in_err-new-3.result c.from_residual-in_err-new-3.ensures.1).1 (record { settings = tt; room = tt })
