use Rattle.lert_blocks.proofs.AloneLaws.{digit_at}
use Rattle.lert_blocks.proofs.step.short_group.Goals as goal

pub returns-then-digit-lt-MOST_DIGIT : goal.returns-then-digit-lt-MOST_DIGIT
returns-then-digit-lt-MOST_DIGIT c = λ width wide narrow.
    digit_at width c.args.slots.now wide narrow c.if-slots-gt2.true c.if-slots-x.true c.if-digit-gt0.true c.if-digit-x-2.true c.if-digit-lt-MOST_DIGIT.true
