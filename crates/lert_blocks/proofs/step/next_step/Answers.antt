use Rattle.lert_blocks.proofs.AloneLaws.{alone_step, alone_left}
use Rattle.lert_blocks.proofs.step.next_step.Goals as goal

pub returns-then-x-least : goal.returns-then-x-least
returns-then-x-least c =
    alone_left c.args.width c.args.least c.args.at c.args.slots c.is_run_end-ends_run.result (c.requires.whole c.if-not-whole.false) c.requires.word c.requires.within
    (c.stands_alone.ensures c.if-not-stands_alone.false) c.is_run_end-ends_run.ensures c.if-x-least.true

pub returns : goal.returns
returns c =
    alone_step c.args.width c.args.least c.args.at c.args.slots c.is_run_end-ends_run.result (c.requires.whole c.if-not-whole.false) c.requires.word c.requires.within
    (c.stands_alone.ensures c.if-not-stands_alone.false) c.is_run_end-ends_run.ensures c.if-x-least.false
