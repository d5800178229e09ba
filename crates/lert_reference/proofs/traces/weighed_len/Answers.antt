use Rattle.std.proofs.Common.{◌≤◌, sym, ap, ◌∙◌, subst, arith}
use Rattle.lert_reference.proofs.TraceLaws.{weighed_to}
use Rattle.lert_reference.proofs.traces.weighed_len.Goals as goal

pub returns-else-item_at-gt0-clause-value : goal.returns-else-item_at-gt0-clause-value
returns-else-item_at-gt0-clause-value c =
    weighed_to c.args.bytes.now c.loop-n.n (subst (λ all. c.loop-n.n ≤ all) c.full_len-all.ensures c.loop-n.invariant.within) c.loop-n.invariant.weighed
    (λ _. sym (ap (λ item. item.weight) c.item_at.ensures) ∙ omega (arith, c.if-item_at-gt0.false))

pub returns-after-loop-n-clause-value : goal.returns-after-loop-n-clause-value
returns-after-loop-n-clause-value c =
    weighed_to c.args.bytes.now c.loop-n.n (subst (λ all. c.loop-n.n ≤ all) c.full_len-all.ensures c.loop-n.invariant.within) c.loop-n.invariant.weighed
    (λ more. absurd (omega (arith, more, c.full_len-all.ensures, c.loop-n-test.false)))
