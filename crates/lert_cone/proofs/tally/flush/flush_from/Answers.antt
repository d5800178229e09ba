use Rattle.std.proofs.{Common.{◌≡◌, ◌+◌, ◌*◌, ◌<◌, ◌≤◌, ◌^◌, ◌∙◌, ℕ, ap, arith, subst}, lemmas.Nat.mul-le}
use Rattle.lert_spec.specs.{declared.numbers.Numbers.Numbers, Edges.{capacity, edge, span}, Limits.IsValid}
use Rattle.lert_spec.proofs.{BinLaws.edge_within, LimitLaws.{capacity_to, span_within}}
use Rattle.lert_cone.proofs.tally.flush.flush_from.Goals as goal

pub edge-requires-clause-events : goal.edge-requires-clause-events
edge-requires-clause-events c = omega (arith, c.saturating_sub.ensures, c.requires.fits)

pub returns : goal.returns
returns c = λ i. (c.edge.ensures ∙ ap (edge c.args.settings.now 0) c.saturating_sub.ensures) i + ap (λ (n : Numbers). n.bins) c.numbers-bins.ensures.value i * c.span.ensures.value i

-- the span of all bins, and a position with it
all_wide : (s : Numbers) → IsValid s → (bins wide : ℕ) → bins ≡ s.bins → wide ≡ span s 0 → bins * wide ≤ 2 ^ 52
all_wide s valid bins wide bins_is wide_is =
    omega (
      arith,
      mul-le bins wide 16 (2 ^ 48) (omega (arith, bins_is, valid.limits.bins_to)) (omega (arith, wide_is, span_within s 0 valid.limits (omega arith))),
    )

pub overflow_mul-result : goal.overflow_mul-result
overflow_mul-result c =
    let n = c.numbers-bins.ensures in
    let wide : c.numbers-bins.result.bins * c.span.result ≤ 2 ^ 52 =
    all_wide c.args.settings.now (subst IsValid n.value n.valid) c.numbers-bins.result.bins c.span.result (ap (λ (s : Numbers). s.bins) n.value) c.span.ensures.value in
    omega (arith, wide)

flush_near : (s : Numbers) → IsValid s → (at here all : ℕ) → here ≤ capacity s → at ≡ edge s 0 here → all ≤ 2 ^ 52 → at + all < 2 ^ 64
flush_near s valid at here all fits at_is wide = omega (arith, fits, at_is, edge_within s 0 here, capacity_to s valid, wide)

pub overflow_add-result : goal.overflow_add-result
overflow_add-result c =
    let n = c.numbers-bins.ensures in
    let valid : IsValid c.args.settings.now = subst IsValid n.value n.valid in
    let wide : c.numbers-bins.result.bins * c.span.result ≤ 2 ^ 52 =
    all_wide c.args.settings.now valid c.numbers-bins.result.bins c.span.result (ap (λ (s : Numbers). s.bins) n.value) c.span.ensures.value in
    let here : c.saturating_sub.result ≤ capacity c.args.settings.now = omega (arith, c.saturating_sub.ensures, c.requires.fits) in
    let near = flush_near c.args.settings.now valid c.edge.result c.saturating_sub.result (c.numbers-bins.result.bins * c.span.result) here c.edge.ensures wide in
    omega (arith, near)
