use Rattle.std.proofs.Common.{◌∙◌, ◌+◌, ℕ, ap, sym}
use Rattle.std.specs.Prelude.{option_map}
use Rattle.lert_cone.specs.Refuses.{first_weighed}
use Rattle.lert_cone.proofs.WeighLaws.{first_is}
use Rattle.lert_cone.proofs.items.Items.first_weighed.Goals as goal

pub returns-in-Some : goal.returns-in-Some
returns-in-Some c =
    ap (option_map (λ (place : ℕ). place + 1)) (sym c.in-Some.is)
    ∙ first_is c.self.inside.keys.now c.self.inside.weights.now c.first_other.result c.self.invariant c.first_other.ensures.first
    ∙ ap first_weighed c.self.view_is

pub returns-in-None : goal.returns-in-None
returns-in-None c =
    ap (option_map (λ (place : ℕ). place + 1)) (sym c.in-None.is)
    ∙ first_is c.self.inside.keys.now c.self.inside.weights.now c.first_other.result c.self.invariant c.first_other.ensures.first
    ∙ ap first_weighed c.self.view_is
