use Rattle.std.proofs.lemmas.Result.{MatchResult-at_ok}
use Rattle.lert_record_tests.proofs.packets.settings_of.Goals as goal

pub returns : goal.returns
returns g c = (MatchResult-at_ok _ _ _ c.expect.ensures c.new.ensures).1
