use Rattle.std.proofs.Common.{◌≡◌, true, Ok, ap, subst, sym, ◌∙◌, get_or, []}
use Rattle.std.specs.List.{after_first, before_first, list_any}
use Rattle.lert_args.specs.{Said.{is_among, is_equals_sign, value_of}, Lookups.texts}
use Rattle.lert_words_tests.specs.{Steps.{Steps, after_kind}, declared.by_hand.Stage.TheVariants.{Between, ValueOf}}
use Rattle.lert_words_tests.proofs.HeldLaws.{Steps-going, kind-awaits, kind-valued}
use Rattle.lert_words_tests.proofs.by_hand.read_option.Goals as goal

pub returns-in-Some-find_option-clause-steps : goal.returns-in-Some-find_option-clause-steps
returns-in-Some-find_option-clause-steps c s shows =
    let options = c.args.options.now in
    let text = c.args.text.now in
    let parts : (list_any is_equals_sign text ≡ true) × (c.in-Some.name.now ≡ before_first is_equals_sign text) × (c.in-Some.value.now ≡ after_first is_equals_sign text) = c.in-Some.ensures in
    let found = c.in-Some-find_option.ensures in
    let name = get_or (texts options) c.in-Some-find_option.option [] in
    subst (λ kind. Steps options c.give.new.given c.give.result (after_kind s c.args.place kind))
    (sym (kind-valued (texts options) text name (found.2 ∙ parts.1) c.in-Some.value.now (ap (is_among (texts options)) found.2 ∙ found.1) parts.0 parts.2))
    (c.give.ensures.steps s Between shows)

pub returns-in-Some-find_option-2-clause-steps : goal.returns-in-Some-find_option-2-clause-steps
returns-in-Some-find_option-2-clause-steps c s shows =
    let options = c.args.options.now in
    let text = c.args.text.now in
    let found = c.in-Some-find_option-2.ensures in
    let plain = c.in-None.ensures in
    subst (λ kind. Steps options c.args.given.now (Ok (ValueOf c.in-Some-find_option-2.option)) (after_kind s c.args.place kind))
    (sym (kind-awaits (texts options) text text (sym plain.1) found.1 plain.0))
    (Steps-going options c.args.given.now Between (ValueOf c.in-Some-find_option-2.option) s (value_of text) shows (ap value_of found.2))
