use Rattle.std.proofs.Common.{max, ap, ap₂, ◌∙◌}
use Rattle.lert_spec.specs.Agreed.{agreed}
use Rattle.lert_journal.proofs.header.begun.Goals as goal

pub returns : goal.returns
returns c =
    let one = c.agreed.ensures ∙ ap (λ text. agreed text c.args.bytes.now) c.magic_of.ensures in
    let other = c.agreed-2.ensures ∙ ap (λ text. agreed text c.args.bytes.now) c.magic_of-2.ensures in
    c.max.ensures ∙ ap₂ max one other
