use Rattle.std.proofs.Common.{◌∙◌, ap}
use Rattle.std.proofs.lemmas.Result.{IfOk-at_ok}
use Rattle.lert_levels_tests.proofs.SampleLaws.{fresh_disk, ready_first}
use Rattle.lert_levels_tests.proofs.samples.empty_levels.Goals as goal

pub returns : goal.returns
returns g c =
    ready_first c.args.zero.now c.expect.result c.requires (IfOk-at_ok _ c.expect.ensures c.new.ensures ∙ ap fresh_disk c.settings.ensures)
