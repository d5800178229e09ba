use Rattle.std.proofs.Common.{refl}
use Rattle.lert_spec.specs.Mix.{mix}
use Rattle.lert_reference.proofs.reports.mixed.Goals as goal

pub returns : goal.returns
unfolding mix
returns c = refl
