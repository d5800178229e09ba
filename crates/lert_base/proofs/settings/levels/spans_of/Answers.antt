use Rattle.std.proofs.{Common.{◌≡◌, ◌-◌, ◌*◌, arith, ap, ◌∙◌, slice_index_or}, lemmas.List.FromFn.fill_by_all}
use Rattle.lert_spec.specs.Edges.{span}
use Rattle.lert_spec.proofs.LimitLaws.{span_within}
use Rattle.lert_base.specs.Computed.{spans_of}
use Rattle.lert_base.proofs.{Filled.{filled_more, span_next}, settings.levels.spans_of.Goals.In-loop-level}
use Rattle.lert_base.proofs.settings.levels.spans_of.Goals as goal

next : (c : In-loop-level) → slice_index_or c.loop-level.spans (c.loop-level.level - 1) 0 * c.args.numbers.now.ratio ≡ span c.args.numbers.now c.loop-level.level
next c =
    ap (λ x. x * c.args.numbers.now.ratio) (c.loop-level.invariant.1 (c.loop-level.level - 1) (omega arith))
    ∙ span_next c.args.numbers.now c.loop-level.level (omega arith)

pub overflow_mul-spans : goal.overflow_mul-spans
overflow_mul-spans c =
    omega (arith, next c, span_within c.args.numbers.now c.loop-level.level c.requires (omega arith))

pub loop-level-preserved : goal.loop-level-preserved
loop-level-preserved c =
    filled_more (span c.args.numbers.now) c.loop-level.spans c.loop-level.level _ c.loop-level.invariant.0 (omega arith) c.loop-level.invariant.1 (next c)

pub returns : goal.returns
unfolding spans_of
returns c = fill_by_all (span c.args.numbers.now) c.loop-level.spans 9 0 c.loop-level.invariant.0 (λ k below. c.loop-level.invariant.1 k (omega arith))
