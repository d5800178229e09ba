use Rattle.std.proofs.Common.{arith, drop}
use Rattle.lert_spec.proofs.TextLaws.{agreed-past}
use Rattle.lert_spec.proofs.common.agreed.Goals as goal

pub returns-else-same-bytes : goal.returns-else-same-bytes
returns-else-same-bytes c =
    omega (arith, c.loop-same.invariant.rest, agreed-past (drop c.loop-same.same c.args.text.now) c.args.bytes.now c.loop-same.same c.if-same-bytes.false)
