use Rattle.std.proofs.Common.{◌≡◌, ℕ, [], ◌∷◌, not, Option, Some, None, sym, ◌∙◌}
use Rattle.std.specs.{Prelude.IfNone, List.position_from}
use Rattle.lert_spec.specs.{declared.numbers.Numbers.Numbers, Limits.{IsInLimits, limits_kept}}
use Rattle.lert_spec.proofs.LimitLaws.{IsInLimits-from_none}
use Rattle.lert_base.proofs.settings.rules.broken_limit.Goals as goal

pub returns-clause-value : goal.returns-clause-value
returns-clause-value c =
    c.first_false.ensures
    ∙ (λ i. position_from not 1
    (c.lies.ensures i ∷ c.lies-2.ensures i ∷ c.lies-3.ensures i ∷ c.lies-4.ensures i
    ∷ c.lies-5.ensures i ∷ c.lies-6.ensures i ∷ c.lies-7.ensures i ∷ c.lies-8.ensures i ∷ []))

within : (s : Numbers) (broken : Option ℕ) → broken ≡ position_from not 1 (limits_kept s) → IfNone broken (IsInLimits s)
within s None is = IsInLimits-from_none s (sym is)
within s (Some rule) is = tt

pub returns-clause-none : goal.returns-clause-none
returns-clause-none c = within c.args.numbers.now c.first_false.result (returns-clause-value c)
