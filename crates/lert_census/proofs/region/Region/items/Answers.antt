use Rattle.std.proofs.Common.{◌∙◌, ap}
use Rattle.lert_census.specs.Census.{Census}
use Rattle.lert_census.proofs.WeaveLaws.{woven_length}
use Rattle.lert_census.proofs.region.Region.items.Goals as goal

pub returns-clause-woven : goal.returns-clause-woven
returns-clause-woven c = λ workers traces h stands woven.
    c.adds.ensures.value
    ∙ ap (λ (v : Census). v.table.adds) c.self.view_is
    ∙ stands.items_are
    ∙ woven_length c.args.self.now.settings c.args.self.now.region h workers traces woven
