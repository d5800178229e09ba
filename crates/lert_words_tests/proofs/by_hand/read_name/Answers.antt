use Rattle.std.proofs.Common.{sym, ◌∙◌, refl}
use Rattle.lert_args.specs.Said.{between}
use Rattle.lert_words_tests.specs.declared.by_hand.Stage.TheVariants.{Between}
use Rattle.lert_words_tests.proofs.HeldLaws.{Steps-naming}
use Rattle.lert_words_tests.proofs.by_hand.read_name.Goals as goal

pub returns-clause-steps : goal.returns-clause-steps
returns-clause-steps c s shows =
    Steps-naming c.args.options.now c.args.given.now _ Between Between s c.args.place between _ shows (sym c.is_name.ensures ∙ c.if-not-is_name.false) refl
    c.in_ok-push.ensures.items refl
