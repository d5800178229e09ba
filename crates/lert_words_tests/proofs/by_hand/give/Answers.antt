use Rattle.std.proofs.Common.{refl, sym, ◌∙◌}
use Rattle.std.specs.Vec.{with_items}
use Rattle.lert_words_tests.proofs.HeldLaws.{Steps-giving, Steps-twice, text_at, written_back}
use Rattle.lert_words_tests.proofs.by_hand.give.Goals as goal

pub returns-then-is_some-clause-steps : goal.returns-then-is_some-clause-steps
returns-then-is_some-clause-steps c s stage shows =
    Steps-twice c.args.options.now c.args.given.now stage s c.args.option c.in-Some.value _ c.index.result.now shows c.requires.within
    (sym c.number.ensures ∙ c.in-Some.is) c.index.ensures (sym c.is_some.ensures ∙ c.if-is_some.true)

pub returns-clause-steps : goal.returns-clause-steps
returns-clause-steps c s stage shows =
    let new = c.put_value.new.values in
    let values = c.args.given.now.values in
    Steps-giving c.args.options.now c.args.given.now stage s c.args.option c.in-Some.value _ c.index.result.now shows c.requires.within
    (sym c.number.ensures ∙ c.in-Some.is) c.index.ensures (record { values = with_items values new; names = c.args.given.now.names }) _
    (text_at c.args.options.now c.args.option _ c.requires.within) (sym c.is_some.ensures ∙ c.if-is_some.false) refl
    (λ given held absent. written_back values.len new values.items (c.put_value.ensures.len ∙ c.deref_mut.ensures.len)
    ∙ c.put_value.ensures.put given (c.deref_mut.ensures.value ∙ held) absent)
