use Rattle.std.proofs.Common.{rules}
use Rattle.lert_bay.proofs.Laid.{put_holds}
use Rattle.lert_bay.proofs.writes.put.Goals as goal

pub returns-clause-ok : goal.returns-clause-ok
returns-clause-ok c =
    put_holds c.args.at c.args.piece.now c.args.bytes.now.items c.resize.new.self.items c.lay.new.bytes _ c.max-length.result _ (search rules)
    (search rules) c.in_ok-resize.ensures.items (cc) (search rules)
