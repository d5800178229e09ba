use Rattle.lert_io.proofs.Writing.{Wrote-more, Wrote-none}
use Rattle.lert_io.proofs.sink.write_all.Goals as goal

pub loop-done-init : goal.loop-done-init
loop-done-init g c = Wrote-none g.K.Sink.taken g.K.Faulty.faults g.K.Faulty.mark c.args.out.now c.args.bytes.now

-- the write that answered appended its bytes behind those before
pub loop-done-preserved : goal.loop-done-preserved
loop-done-preserved g c =
    Wrote-more g.K.Sink.taken g.K.Faulty.faults g.K.Faulty.mark c.args.out.now c.loop-done.out c.write.new.self c.args.bytes.now
    c.loop-done.done c.in_ok-done.field-0 c.loop-done.invariant c.loop-done-test.true c.in_ok-done.ensures.some c.in_ok-done.ensures.within
    c.in_ok-done.ensures.told c.in_ok-done.ensures.untold c.in_ok-done.ensures.cause.never_falls c.in_ok-done.ensures.mark
