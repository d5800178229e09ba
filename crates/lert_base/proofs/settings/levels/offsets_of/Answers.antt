use Rattle.std.proofs.{Common.{◌≡◌, ◌+◌, ◌-◌, ◌*◌, arith, ap, ap₂, ◌∙◌, slice_index_or}, lemmas.List.FromFn.fill_by_all}
use Rattle.lert_spec.specs.Edges.{offset}
use Rattle.lert_spec.proofs.LimitLaws.{spans_within, offset_within}
use Rattle.lert_base.specs.Computed.{offsets_of, sum_below}
use Rattle.lert_base.proofs.{Filled.{filled_more, sum_next, sum_is}, Levels.get_or-spans_of, settings.levels.offsets_of.Goals.In-loop-level}
use Rattle.lert_base.proofs.settings.levels.offsets_of.Goals as goal

next : (c : In-loop-level) → c.loop-level.sum + slice_index_or c.args.spans.now c.loop-level.level 0 ≡ sum_below c.args.numbers.now (c.loop-level.level + 1)
next c =
    let here = ap (λ l. slice_index_or l c.loop-level.level 0) c.requires.spans ∙ get_or-spans_of c.args.numbers.now c.loop-level.level (omega arith) in
    ap₂ (λ a b. a + b) c.loop-level.invariant.1 here ∙ sum_next c.args.numbers.now c.loop-level.level

pub overflow_add-sum : goal.overflow_add-sum
overflow_add-sum c =
    omega (arith, next (goal.at-overflow_add-sum c).In-loop-level, sum_is c.args.numbers.now c.loop-level.level, spans_within c.args.numbers.now c.loop-level.level c.requires.limits (omega arith))

far : (c : In-loop-level) → (c.args.numbers.now.bins - 1) * (c.loop-level.sum + slice_index_or c.args.spans.now c.loop-level.level 0) ≡ offset c.args.numbers.now c.loop-level.level
far c = ap (λ n. (c.args.numbers.now.bins - 1) * n) (next c ∙ sum_is c.args.numbers.now c.loop-level.level)

pub overflow_mul-offsets : goal.overflow_mul-offsets
overflow_mul-offsets c =
    omega (arith, far (goal.at-overflow_mul-offsets c).In-loop-level, offset_within c.args.numbers.now c.loop-level.level c.requires.limits (omega arith))

pub loop-level-preserved : goal.loop-level-preserved
loop-level-preserved c =
    let more = filled_more (offset c.args.numbers.now) c.loop-level.offsets c.loop-level.level _ c.loop-level.invariant.0 (omega arith) c.loop-level.invariant.2
    (far (goal.at-loop-level-preserved c).In-loop-level) in
    (more.0, next (goal.at-loop-level-preserved c).In-loop-level, more.1)

pub returns : goal.returns
unfolding offsets_of
returns c = fill_by_all (offset c.args.numbers.now) c.loop-level.offsets 9 0 c.loop-level.invariant.0 (λ k below. c.loop-level.invariant.2 k (omega arith))
