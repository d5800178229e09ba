use Rattle.std.proofs.Common.{eqb-true}
use Rattle.lert_frames.proofs.StepLaws.{found_done}
use Rattle.lert_frames.proofs.decoder.Decoder.is_done.Goals as goal

pub returns-then-self-eq0-clause-done : goal.returns-then-self-eq0-clause-done
returns-then-self-eq0-clause-done c done file = let d = c.args.self.now in found_done d file c.if-self-eq0.true (eqb-true d.ahead.blocks 0 done)
