use Rattle.std.proofs.Common.{◌≡◌, ◌+◌, ◌-◌, ◌*◌, suc, arith, ap, ap₂, ◌∙◌}
use Rattle.lert_spec.specs.Edges.{offset}
use Rattle.lert_spec.proofs.{EdgeLaws.{spans_below, spans_below-add}, LimitLaws.{spans_within, offset_within}}
use Rattle.lert_reference.proofs.edges.offset.Goals as goal
use Rattle.lert_reference.proofs.edges.offset.Goals.{After-span-spans, After-loop-younger}

next : (c : After-span-spans) → c.loop-younger.spans + c.span-spans.result ≡ spans_below c.args.s.now (c.loop-younger.younger + 1)
next c = ap₂ (λ a b. a + b) c.loop-younger.invariant c.span-spans.ensures ∙ spans_below-add c.args.s.now c.loop-younger.younger

pub overflow_add-spans : goal.overflow_add-spans
overflow_add-spans c =
    let named : c.loop-younger.younger + 1 ≡ suc c.loop-younger.younger = omega arith in
    let spans_are = ap (spans_below c.args.s.now) named in
    omega (arith, next c, spans_within c.args.s.now c.loop-younger.younger c.requires.valid.limits (omega (arith, c.requires.level, c.requires.valid.limits.levels_to)))

pub loop-younger-preserved : goal.loop-younger-preserved
loop-younger-preserved c = next (goal.at-loop-younger-preserved c).After-span-spans

far : (c : After-loop-younger) → (c.args.s.now.bins - 1) * c.loop-younger.spans ≡ offset c.args.s.now c.args.level
far c =
    let named : c.loop-younger.younger ≡ suc c.args.level = omega arith in
    ap (λ n. (c.args.s.now.bins - 1) * n) (c.loop-younger.invariant ∙ ap (spans_below c.args.s.now) named)

pub overflow_mul-result : goal.overflow_mul-result
overflow_mul-result c =
    omega (
      arith,
      far (goal.at-overflow_mul-result c).After-loop-younger,
      offset_within c.args.s.now c.args.level c.requires.valid.limits
          (omega (arith, c.requires.level, c.requires.valid.limits.levels_to)),
    )
