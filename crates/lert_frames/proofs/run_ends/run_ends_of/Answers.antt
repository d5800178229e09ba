use Rattle.std.proofs.Common.{arith}
use Rattle.lert_frames.proofs.PassLaws.{counted_next, counted_slice}
use Rattle.lert_frames.proofs.run_ends.run_ends_of.Goals as goal

pub loop-word-preserved : goal.loop-word-preserved
loop-word-preserved c =
    let n = c.loop-word.word in
    let more = c.with-found.ensures in
    record {
      counted = counted_next n c.read_u64.result c.args.bytes.now c.loop-word.found c.with-found.result
          (counted_slice n c.read_u64.result c.args.words c.args.bytes.now c.requires.long c.loop-word-test.true c.read_u64.ensures) more.counted c.loop-word.invariant.counted;
      few = omega (arith, more.few, c.loop-word.invariant.few);
    }
