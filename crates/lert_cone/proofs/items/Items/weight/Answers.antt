use Rattle.std.proofs.Common.{◌∙◌, length, ap, sym, arith}
use Rattle.lert_spec.specs.{Counts.{weighed, weight_of}}
use Rattle.lert_cone.proofs.WeighLaws.{length-beside, weigh_beside}
use Rattle.lert_cone.proofs.items.Items.weight.Goals as goal

pub sum_of-requires : goal.sum_of-requires
sum_of-requires c =
    let long = length-beside c.self.inside.keys.now c.self.inside.weights.now c.self.invariant ∙ sym c.self.invariant in
    record { few = omega (arith, long, ap length c.self.view_is, c.requires.few) }

pub returns-clause-value : goal.returns-clause-value
returns-clause-value c =
    c.sum_of.ensures.value ∙ sym (weigh_beside c.self.inside.keys.now c.self.inside.weights.now c.self.invariant) ∙ ap (weight_of weighed) c.self.view_is

pub returns-clause-most : goal.returns-clause-most
returns-clause-most c =
    let long = length-beside c.self.inside.keys.now c.self.inside.weights.now c.self.invariant ∙ sym c.self.invariant in
    omega (arith, long, ap length c.self.view_is, c.sum_of.ensures.most)
