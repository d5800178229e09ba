use Rattle.std.proofs.Common.{refl}
use Rattle.lert_top.specs.Generated.{trace_cut, trace_done}
use Rattle.lert_top.proofs.generate.gen_to.Goals as goal

pub returns-in-Ok : goal.returns-in-Ok
returns-in-Ok g c = record { shows = trace_done c.in-Ok.ensures.told }

pub returns-in-Err : goal.returns-in-Err
returns-in-Err g c = record { shows = trace_cut (record { rose = c.in-Err.ensures.cause.failed refl; part = c.in-Err.ensures.part }) }
