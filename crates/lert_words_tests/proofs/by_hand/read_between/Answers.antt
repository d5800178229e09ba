use Rattle.std.proofs.Common.{Ok, refl, subst, sym, ◌∙◌}
use Rattle.lert_args.specs.{Said.behind, Lookups.texts}
use Rattle.lert_words_tests.specs.{Steps.{Steps, after_kind}, declared.by_hand.Stage.TheVariants.{Between, Behind}}
use Rattle.lert_words_tests.proofs.HeldLaws.{Steps-going, kind-ends}
use Rattle.lert_words_tests.proofs.by_hand.read_between.Goals as goal

pub returns-then-eq-clause-steps : goal.returns-then-eq-clause-steps
returns-then-eq-clause-steps c s shows =
    let options = c.args.options.now in
    let given = c.args.given.now in
    subst (λ kind. Steps options given (Ok Behind) (after_kind s c.args.place kind)) (sym (kind-ends (texts options) c.args.word.now (sym c.eq.ensures ∙ c.if-eq.true)))
    (Steps-going options given Between Behind s behind shows refl)
