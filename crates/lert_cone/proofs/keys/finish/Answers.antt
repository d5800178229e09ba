use Rattle.lert_bay.specs.Kept.{seen_by}
use Rattle.lert_cone.proofs.{EndTaken.{end_refused, can_log_end, close_failed, end_taken}}
use Rattle.lert_bay.proofs.KeptLaws.{IsLawful}
use Rattle.lert_cone.proofs.keys.finish.Given as given
use Rattle.lert_cone.proofs.keys.finish.Goals as goal

lawful : (g : given.Over) → IsLawful (seen_by g.B.Faulty g.B.Bay)
lawful g = record { as_read = g.met.B.Bay.as_read; since_now = g.met.B.Bay.since_now; only_now = g.met.B.Bay.only_now; since_earlier = g.met.B.Bay.since_earlier }

pub finish-requires-clause-still : goal.finish-requires-clause-still
finish-requires-clause-still g c = c.requires.still

pub finish-requires-clause-counted : goal.finish-requires-clause-counted
finish-requires-clause-counted g c = c.requires.counted

pub returns-in_err-finish : goal.returns-in_err-finish
returns-in_err-finish g c = end_refused (lawful g) c.requires c.finish.new.bay c.finish.new.self c.in_err-finish.was c.finish.ensures c.from_residual.ensures.1

pub write_record-requires-clause-counted : goal.write_record-requires-clause-counted
write_record-requires-clause-counted g c = c.in_ok-finish.ensures.counted

pub write_record-requires-clause-can_log : goal.write_record-requires-clause-can_log
write_record-requires-clause-can_log g c = can_log_end (lawful g) c.requires c.finish.new.bay c.finish.new.self c.in_ok-finish.ensures

pub returns-in_err-write_record : goal.returns-in_err-write_record
returns-in_err-write_record g c = close_failed (lawful g) c.requires c.finish.new.bay c.finish.new.self c.in_ok-finish.ensures c.write_record.ensures.few c.write_record.auto.buffer
    (rw c.in_err-write_record.was at c.write_record.ensures.appends) c.from_residual-in_err-write_record.ensures.1

pub returns : goal.returns
returns g c = end_taken (lawful g) c.requires c.finish.new.bay c.finish.new.self c.in_ok-finish.ensures c.write_record.ensures.few c.write_record.auto.buffer
    (rw c.in_ok-write_record.was at c.write_record.ensures.appends)
