use Rattle.std.proofs.Common.{◌≡◌, ◌+◌, ◌*◌, suc, arith, ap, sym, ◌∙◌}
use Rattle.lert_spec.specs.Edges.{span}
use Rattle.lert_spec.proofs.{EdgeLaws.span-suc, LimitLaws.span_within}
use Rattle.lert_reference.proofs.edges.span.Goals as goal
use Rattle.lert_reference.proofs.edges.span.Goals.{In-loop-younger}

next : (c : In-loop-younger) → c.loop-younger.span * c.args.s.now.ratio ≡ span c.args.s.now (c.loop-younger._younger + 1)
next c =
    let same : suc c.loop-younger._younger ≡ c.loop-younger._younger + 1 = omega arith in
    ap (λ w. w * c.args.s.now.ratio) c.loop-younger.invariant ∙ sym (span-suc c.args.s.now c.loop-younger._younger) ∙ ap (span c.args.s.now) same

pub overflow_mul-span : goal.overflow_mul-span
overflow_mul-span c =
    omega (arith, next c, span_within c.args.s.now (c.loop-younger._younger + 1) c.requires.valid.limits (omega (arith, c.requires.level, c.requires.valid.limits.levels_to)))

pub loop-younger-preserved : goal.loop-younger-preserved
loop-younger-preserved c = next c
