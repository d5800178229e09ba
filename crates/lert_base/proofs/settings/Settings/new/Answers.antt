use Rattle.std.proofs.Common.{arith, sym, ◌∙◌}
use Rattle.lert_spec.specs.Limits.{IsInLimits, early_broken, late_broken, limits_kept, sums_kept}
use Rattle.lert_spec.proofs.LimitLaws.{first_breaks, position_from-append_none, position_from-append_some}
use Rattle.lert_base.proofs.Filled.{end_is, end_within}
use Rattle.lert_base.proofs.settings.Settings.new.Goals as goal

pub overflow_add-offsets : goal.overflow_add-offsets
overflow_add-offsets c =
    let limits : IsInLimits c.args.numbers = rw c.in_default.is at c.broken_limit.ensures.none in
    omega (arith, end_is c.args.numbers _ _ limits c.spans_of-spans.ensures c.offsets_of-offsets.ensures, end_within c.args.numbers limits)

pub broken_sum-requires-clause-end : goal.broken_sum-requires-clause-end
broken_sum-requires-clause-end c =
    let limits : IsInLimits c.args.numbers = rw c.in_default.is at c.broken_limit.ensures.none in
    end_is c.args.numbers _ _ limits c.spans_of-spans.ensures c.offsets_of-offsets.ensures

-- a rule on single numbers that is broken is the first of all
pub returns-in-Some : goal.returns-in-Some
returns-in-Some c =
    let s = c.args.numbers in
    first_breaks (early_broken s) (late_broken s) c.in-Some.rule
    (position_from-append_some 1 c.in-Some.rule (limits_kept s) (sums_kept s) (sym c.broken_limit.ensures.value ∙ c.in-Some.is))

-- where these are kept, it is the first of the others
pub returns-in-Some-broken_sum : goal.returns-in-Some-broken_sum
returns-in-Some-broken_sum c =
    let s = c.args.numbers in
    first_breaks (early_broken s) (late_broken s) c.in-Some-broken_sum.rule
    (position_from-append_none 1 (limits_kept s) (sums_kept s) (sym c.broken_limit.ensures.value ∙ c.in_default.is)
    ∙ sym c.broken_sum.ensures.value ∙ c.in-Some-broken_sum.is)
