use Rattle.lert_text.proofs.Printing.{IsPrinting-append}
use Rattle.lert_text.proofs.page.Page.put.Goals as goal

pub returns-clause-ok : goal.returns-clause-ok
returns-clause-ok g c = λ start text printing.
    rw c.append.ensures (IsPrinting-append start (g.K.Sink.taken c.make_room.new.out) c.make_room.new.self text (c.in_ok-make_room.ensures.ok start text printing) c.args.line.now)
