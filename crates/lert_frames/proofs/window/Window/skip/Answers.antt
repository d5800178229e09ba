use Rattle.std.proofs.Common.{drop, arith}
use Rattle.lert_frames.proofs.WindowLaws.{passed, passed_come}
use Rattle.lert_frames.proofs.window.Window.skip.Goals as goal

pub returns-clause-come : goal.returns-clause-come
returns-clause-come c file = let w = c.args.self.now in
    passed_come w.bytes.items w.from w.upto c.args.count (omega (arith, w.in_order, c.requires)) (omega (arith, w.within, w.bytes.ok.0)) (drop w.at file)

pub returns-clause-hand : goal.returns-clause-hand
returns-clause-hand c = let w = c.args.self.now in passed w.bytes.items w.from w.upto c.args.count (omega (arith, w.in_order, c.requires))
