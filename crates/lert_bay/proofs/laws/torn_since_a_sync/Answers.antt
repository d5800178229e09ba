use Rattle.lert_bay.proofs.Tearing.{turns_since}
use Rattle.lert_bay.proofs.laws.torn_since_a_sync.Goals as goal

pub returns : goal.returns
returns c = turns_since
