-- The bins of level 0's span: how many have begun, and how many stand behind level 0's edge.
use Rattle.std.proofs.Common.{◌≡◌, ℕ, ◌+◌, ◌-◌, ◌*◌, ◌/◌, ◌<◌, ◌≤◌, ap, ◌∙◌, inl, inr, arith}
use Rattle.std.proofs.{Math.Nat.{add-mul, div-add-mod, div-eq_of_lt-le, mod-lt, mul-div_right, mul-le-mul_right, mul_comm, one-mul, pow-zero}, lemmas.Bool.cases_lt}
use Rattle.lert_spec.specs.{declared.numbers.Numbers.Numbers, Edges.{span, offset, edge}, Limits.IsValid}
use Rattle.lert_spec.proofs.EdgeLaws.{steps, span_pos}
use Rattle.lert_cone.specs.JournalPlaces.{bins_begun}

-- ---- bins

-- one bin more
pub bin_more : (n w : ℕ) → (n + 1) * w ≡ n * w + w
bin_more n w = add-mul n 1 w ∙ ap (λ x. n * w + x) (one-mul w)

-- bins in their order
pub bins_within : (a b w : ℕ) → a * w < b * w + 1 → 1 ≤ w → a ≤ b
bins_within a b w low wide =
    elim (cases_lt b a) [
      | inl more ↦ absurd (omega (arith, low, wide, bin_more b w, mul-le-mul_right {m = b + 1} {n = a} w (omega (arith, more))))
      | inr few ↦ few
    ]

pub bins_below : (a b w : ℕ) → a * w < b * w → a < b
bins_below a b w low =
    elim (cases_lt a b) [
      | inl less ↦ less
      | inr more ↦ absurd (omega (arith, low, mul-le-mul_right {m = b} {n = a} w more))
    ]

module _ (s : Numbers) (valid : IsValid s) where
  pub wide : 1 ≤ span s 0
  wide = span_pos s 0 (omega (arith, valid.limits.base_from)) (omega (arith, valid.limits.ratio_from))

  pub span_few : span s 0 ≤ 65536
  span_few = (let span_is : span s 0 ≡ s.base = ap (λ p. s.base * p) (pow-zero s.ratio) ∙ omega arith in omega (arith, span_is, valid.limits.base_to))

  -- how many bins have begun, by the two bounds
  pub begun_to : (n : ℕ) → n ≤ bins_begun s n * span s 0
  begun_to n =
      let w = span s 0 in
      omega (arith, wide, div-add-mod (n + w - 1) w, mod-lt (n + w - 1) {m = w} wide, mul_comm w (bins_begun s n))

  pub begun_from : (n : ℕ) → bins_begun s n * span s 0 < n + span s 0
  begun_from n =
      let w = span s 0 in
      omega (arith, wide, div-add-mod (n + w - 1) w, mul_comm w (bins_begun s n))

  pub begun_is : (n c : ℕ) → n ≤ c * span s 0 → c * span s 0 < n + span s 0 → bins_begun s n ≡ c
  begun_is n c to from =
      let w = span s 0 in
      div-eq_of_lt-le {k = c} w {m = n + w - 1} (omega (arith, from, wide)) (omega (arith, to, wide, bin_more c w))

  -- none without an item, and one more at the next bin's first item
  pub begun_none : bins_begun s 0 ≡ 0
  begun_none = begun_is 0 0 (omega arith) (omega (arith, wide))

  pub begun_more : (c : ℕ) → bins_begun s (c * span s 0 + 1) ≡ c + 1
  begun_more c = begun_is (c * span s 0 + 1) (c + 1) (omega (arith, bin_more c (span s 0), wide)) (omega (arith, bin_more c (span s 0)))

  -- ---- level 0

  -- its edge lies before the last item, no more bins behind than a level has
  pub edge_steps : (n : ℕ) → edge s 0 n / span s 0 ≡ steps s 0 n
  edge_steps n = mul-div_right (steps s 0 n) {m = span s 0} wide

  pub edge_bins : (n : ℕ) → edge s 0 n ≡ steps s 0 n * span s 0
  edge_bins n = mul_comm (span s 0) (steps s 0 n)

  -- an offset is a span at least
  offset_some : span s 0 ≤ offset s 0
  offset_some = omega (arith, mul-le-mul_right {m = 1} {n = s.bins - 1} (span s 0) (omega (arith, valid.limits.bins_from)), one-mul (span s 0))

  edge_before : (n : ℕ) → 1 ≤ n → steps s 0 n * span s 0 < n
  edge_before n some = omega (arith, some, offset_some, wide, div-add-mod (n - offset s 0) (span s 0), mul_comm (span s 0) (steps s 0 n))

  edge_near : (n : ℕ) → n < (steps s 0 n + s.bins) * span s 0
  edge_near n =
      let w = span s 0 in
      let k = steps s 0 n in
      let sum : k + s.bins ≡ (k + 1) + (s.bins - 1) = omega (arith, valid.limits.bins_from) in
      omega (
        arith,
        div-add-mod (n - offset s 0) w,
        mod-lt (n - offset s 0) {m = w} wide,
        mul_comm w k,
        ap (λ x. x * w) sum,
        add-mul (k + 1) (s.bins - 1) w,
        bin_more k w,
      )

  -- bins stand behind it, at least one once an item is there
  pub bins_some : (n : ℕ) → 1 ≤ n → steps s 0 n < bins_begun s n
  bins_some n some = bins_below (steps s 0 n) (bins_begun s n) (span s 0) (omega (arith, edge_before n some, begun_to n))

  pub bins_few : (n : ℕ) → bins_begun s n ≤ steps s 0 n + s.bins
  bins_few n =
      let w = span s 0 in
      let less : bins_begun s n < steps s 0 n + s.bins + 1 =
      bins_below (bins_begun s n) (steps s 0 n + s.bins + 1) w (omega (arith, begun_from n, edge_near n, bin_more (steps s 0 n + s.bins) w)) in
      omega (arith, less)

  -- so many bins the difference of the two places has
  pub bins_between : (n : ℕ) → (bins_begun s n * span s 0 - edge s 0 n) / span s 0 ≡ bins_begun s n - steps s 0 n
  bins_between n =
      let w = span s 0 in
      let c = bins_begun s n in
      let k = steps s 0 n in
      let ordered : k ≤ c = elim (cases_lt 0 n) [
        | inl some ↦ omega (arith, bins_some n some)
        | inr none ↦ (let zero_steps : k ≤ 0 = bins_within k 0 w (omega (arith, none, div-add-mod (n - offset s 0) w, mul_comm w k)) wide in omega (arith, zero_steps))
      ] in
      let split : k + (c - k) ≡ c = omega (arith, ordered) in
      let rest : c * w - edge s 0 n ≡ w * (c - k) = omega (arith, edge_bins n, ap (λ x. x * w) split, add-mul k (c - k) w, mul_comm w (c - k)) in
      ap (λ x. x / w) rest ∙ mul-div_right (c - k) {m = w} wide
