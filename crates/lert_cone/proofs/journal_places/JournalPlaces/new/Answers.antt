use Rattle.std.proofs.Common.{◌≡◌, ℕ, ◌+◌, ◌-◌, ◌*◌, ◌/◌, ◌<◌, ◌≤◌, ◌^◌, arith, ap, refl, subst, sym}
use Rattle.lert_spec.specs.{declared.numbers.Numbers.Numbers, Edges.{capacity, span}, Limits.IsValid}
use Rattle.lert_spec.proofs.LimitLaws.{capacity_to}
use Rattle.lert_cone.proofs.BinLaws.{begun_from, span_few}
use Rattle.lert_cone.proofs.journal_places.JournalPlaces.new.Goals as goal

-- a bin more than the items that a cone takes
few : (s : Numbers) → IsValid s → (n w : ℕ) → n ≤ capacity s → w ≡ span s 0 → n + w < 2 ^ 33
few s valid n w within is = omega (arith, within, is, capacity_to s valid, span_few s valid)

begun_within : (s : Numbers) → IsValid s → (n w : ℕ) → w ≡ span s 0 → (n + w - 1) / w * w < n + w
begun_within s valid n w is = subst (λ (v : ℕ). (n + v - 1) / v * v < n + v) (sym is) (begun_from s valid n)

-- so no number leaves its range
in_range : (n w place : ℕ) → n + w < 2 ^ 33 → 1 ≤ w → place < n + w →
    (n + w < 2 ^ 64) × (place < 2 ^ 64) × (place + 1 < 2 ^ 64) × (n + 1 < 2 ^ 64)
in_range n w place small some before =
    (omega (arith, small), omega (arith, small, before), omega (arith, small, before), omega (arith, small, some))

ranges : (s t : Numbers) → s ≡ t → IsValid s → (n w : ℕ) → n ≤ capacity t → w ≡ span t 0 → 1 ≤ w →
    (n + w < 2 ^ 64) × ((n + w - 1) / w * w < 2 ^ 64) × ((n + w - 1) / w * w + 1 < 2 ^ 64) × (n + 1 < 2 ^ 64)
ranges s t same is_valid n w within is some =
    let valid = subst IsValid same is_valid in
    in_range n w ((n + w - 1) / w * w) (few t valid n w within is) some (begun_within t valid n w is)

pub overflow_add-bins : goal.overflow_add-bins
overflow_add-bins c = record {
  fits = (ranges c.numbers-valid.result c.args.settings.now c.numbers-valid.ensures.value c.numbers-valid.ensures.valid c.args.passed
      c.span-span.result c.requires c.span-span.ensures.value c.span-span.ensures.positive).0;
}

pub overflow_mul-result : goal.overflow_mul-result
overflow_mul-result c = record {
  fits = (ranges c.numbers-valid.result c.args.settings.now c.numbers-valid.ensures.value c.numbers-valid.ensures.valid c.args.passed
      c.span-span.result c.requires c.span-span.ensures.value c.span-span.ensures.positive).1;
}

pub overflow_add-result : goal.overflow_add-result
overflow_add-result c = record {
  fits = (ranges c.numbers-valid.result c.args.settings.now c.numbers-valid.ensures.value c.numbers-valid.ensures.valid c.args.passed
      c.span-span.result c.requires c.span-span.ensures.value c.span-span.ensures.positive).2;
}

pub overflow_add-result-2 : goal.overflow_add-result-2
overflow_add-result-2 c = record {
  fits = (ranges c.numbers-valid.result c.args.settings.now c.numbers-valid.ensures.value c.numbers-valid.ensures.valid c.args.passed
      c.span-span.result c.requires c.span-span.ensures.value c.span-span.ensures.positive).3;
}

pub overflow_sub-bins : goal.overflow_sub-bins
overflow_sub-bins c = omega (arith, c.span-span.ensures.positive)

pub returns : goal.returns
returns c = refl

pub invariant_of-result : goal.invariant_of-result
invariant_of-result c =
    let valid = subst IsValid c.numbers-valid.ensures.value c.numbers-valid.ensures.valid in
    record {
      valid = valid;
      within = c.requires;
      next_is = ap (λ (w : ℕ). (c.args.passed + w - 1) / w * w + 1) c.span-span.ensures.value;
      counted = refl;
    }
