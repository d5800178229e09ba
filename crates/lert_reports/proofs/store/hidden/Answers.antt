use Rattle.std.proofs.Common.{◌∙◌, sym}
use Rattle.lert_reports.proofs.StoreLaws.{hidden_is_one_to_one}
use Rattle.lert_reports.proofs.store.hidden.Goals as goal

pub returns-clause-only : goal.returns-clause-only
returns-clause-only c = λ k below same.
    hidden_is_one_to_one c.args.secret c.args.key k c.ranges.secret.fits c.ranges.key.fits below (sym (same ∙ c.mix.ensures))
