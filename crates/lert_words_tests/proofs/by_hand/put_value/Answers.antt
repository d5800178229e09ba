use Rattle.std.proofs.Common.{◌<◌, get_or, cond, None, Some, ap, sym, ◌∙◌, arith}
use Rattle.std.specs.Str.{bytes_eq}
use Rattle.lert_words_tests.specs.Steps.{value_among}
use Rattle.lert_words_tests.proofs.ValueLaws.{at_place, by_places, value_among-push}
use Rattle.lert_words_tests.proofs.by_hand.put_value.Goals as goal

pub returns-clause-put : goal.returns-clause-put
returns-clause-put c given held absent =
    let options = c.args.options.now in
    let name = c.args.name.now in
    by_places _ options c.loop-place.values (omega (arith, c.loop-place.invariant.len))
    (λ k d below.
    let here : k < c.loop-place.place = omega (arith, below, c.loop-place-test.false) in
    c.loop-place.invariant.put k d here
    ∙ ap (λ before. cond (bytes_eq (get_or options k d).now name) (Some c.args.value) before)
    (ap (λ values. get_or values k None) held ∙ at_place (λ option. value_among given option.now) options k d below)
    ∙ sym (value_among-push given name c.args.value (get_or options k d).now absent))
