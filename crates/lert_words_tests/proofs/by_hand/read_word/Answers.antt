use Rattle.std.proofs.Common.{ap, subst, sym, ◌∙◌}
use Rattle.lert_words_tests.specs.Steps.{Steps, after_reading, reading_of}
use Rattle.lert_args.specs.Lookups.{texts}
use Rattle.lert_words_tests.proofs.by_hand.read_word.Goals as goal

pub returns-in-ValueOf-clause-steps : goal.returns-in-ValueOf-clause-steps
returns-in-ValueOf-clause-steps c s shows =
    let options = c.args.options.now in
    subst (λ reading. Steps options c.give.new.given c.give.result (after_reading (texts options) s c.args.place c.args.word.now reading))
    (sym (ap (reading_of options) c.in-ValueOf.is) ∙ shows.reading)
    (c.give.ensures.steps s c.args.stage shows)
