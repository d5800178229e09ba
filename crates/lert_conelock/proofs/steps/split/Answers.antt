use Rattle.std.proofs.Common.{rules}
use Rattle.lert_conelock.proofs.Splitting.{split_at}
use Rattle.lert_conelock.proofs.steps.split.Goals as goal

pub split_seat-requires : goal.split_seat-requires
split_seat-requires g c = (search rules, search rules, split_at _ _ _ _ _ g.C.Cutting.at c.args.at c.requires.cut c.requires.idle c.requires.within)
