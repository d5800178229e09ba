-- The loops that compute the spans and the offsets, a level further.
use Rattle.std.proofs.{Common.{ℕ, ◌≡◌, ◌≢◌, ◌+◌, ◌-◌, ◌*◌, ◌^◌, ◌<◌, ◌≤◌, zero, suc, List, length, get_or, set, ap, ap₂, sym, ◌∙◌, arith, inl, inr}, lemmas.Bool.cases_lt}
use Rattle.std.proofs.lemmas.List.{get_or-set_same, get_or-set_other, length-set}
use Rattle.lert_spec.specs.{declared.numbers.Numbers.Numbers, Edges.{span, spans, offset}, Limits.IsInLimits}
use Rattle.lert_spec.proofs.{EdgeLaws.span-suc, LimitLaws.{span_within, offset_within}}
use Rattle.lert_base.specs.Computed.{sum_below, spans_of, offsets_of}
use Rattle.lert_base.proofs.Levels.{get_or-spans_of, get_or-offsets_of}

-- one more place written, where each place has its own number
pub filled_more : (f : ℕ → ℕ) (xs : List ℕ) (level value : ℕ) → length xs ≡ 9 → level < 9 → ((k : ℕ) → k < level → get_or xs k 0 ≡ f k) → value ≡ f level →
    (length (set xs level value) ≡ 9) × ((k : ℕ) → k < level + 1 → get_or (set xs level value) k 0 ≡ f k)
filled_more f xs level value nine within before here = (
  length-set xs level value ∙ nine,
  λ k below. elim (cases_lt k level) [
    | inl earlier ↦ (let other : k ≢ level = omega arith in get_or-set_other xs level k value 0 other ∙ before k earlier)
    | inr now ↦ (
        let same : k ≡ level = omega arith in
        ap (λ i. get_or (set xs level value) i 0) same ∙ get_or-set_same xs level value 0 (omega (arith, nine)) ∙ here ∙ ap f (sym same))
  ],
)

-- the span of a level from that of the next younger one
pub span_next : (s : Numbers) (level : ℕ) → 1 ≤ level → span s (level - 1) * s.ratio ≡ span s level
span_next s level from =
    let whole : suc (level - 1) ≡ level = omega arith in
    sym (span-suc s (level - 1)) ∙ ap (span s) whole

pub sum_is : (s : Numbers) (level : ℕ) → sum_below s (level + 1) ≡ spans s level
sum_is s level = ap (sum_below s) (let same : level + 1 ≡ suc level = omega arith in same)

-- the sum of the spans, a level further
pub sum_next : (s : Numbers) (level : ℕ) → sum_below s level + span s level ≡ sum_below s (level + 1)
sum_next s zero = omega arith
sum_next s (suc level) = sym (sum_is s (suc level))

-- the end of the oldest level's offset and span, as they were computed
pub end_is : (s : Numbers) (all_spans all_offsets : List ℕ) → IsInLimits s → all_spans ≡ spans_of s → all_offsets ≡ offsets_of s →
    get_or all_offsets s.levels 0 + get_or all_spans s.levels 0 ≡ offset s s.levels + span s s.levels
end_is s all_spans all_offsets limits spans_are offsets_are =
    ap₂ (λ o w. get_or o s.levels 0 + get_or w s.levels 0) offsets_are spans_are
    ∙ ap₂ (λ a b. a + b) (get_or-offsets_of s s.levels limits.levels_to) (get_or-spans_of s s.levels limits.levels_to)

pub end_within : (s : Numbers) → IsInLimits s → offset s s.levels + span s s.levels ≤ 2 ^ 57
end_within s limits = omega (arith, offset_within s s.levels limits limits.levels_to, span_within s s.levels limits limits.levels_to)
