use Rattle.std.proofs.Common.{◌∙◌}
use Rattle.lert_worker_tests.proofs.PairLaws.{kept_back, none_left}
use Rattle.lert_worker_tests.proofs.crew.stop.Goals as goal

pub into_pass-requires : goal.into_pass-requires
into_pass-requires g c = record { none_left = none_left c.args.worker c.take_back-reader.new.self c.take_back-reader.result c.requires c.take_back-reader.ensures }

pub returns-clause-end : goal.returns-clause-end
returns-clause-end g c = c.end.ensures ∙ (kept_back c.args.worker c.take_back-reader.new.self c.take_back-reader.result c.take_back-reader.ensures).0

pub returns-clause-pass : goal.returns-clause-pass
returns-clause-pass g c = c.into_pass.ensures ∙ (kept_back c.args.worker c.take_back-reader.new.self c.take_back-reader.result c.take_back-reader.ensures).1
