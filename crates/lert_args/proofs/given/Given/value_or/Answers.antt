use Rattle.std.proofs.Common.{ap, get_or, ◌∙◌}
use Rattle.std.specs.Prelude.{unwrap_or}
use Rattle.lert_args.proofs.LookupLaws.{value_at}
use Rattle.lert_args.proofs.given.Given.value_or.Goals as goal

pub returns-in-Some-get : goal.returns-in-Some-get
returns-in-Some-get c s values among =
    let found = c.in-Some.ensures in
    let read = c.in-Some-get.ensures.lookup.1 ∙ ap (λ xs. get_or xs c.in-Some.place c.in-Some-get.value.now) c.deref.ensures.value in
    c.unwrap_or.ensures
    ∙ ap (λ v. unwrap_or v c.args.usual)
    (value_at s c.args.options.now c.args.self.now.values.items c.in-Some.place _ c.args.option.now read values found.0 found.2)
