-- What stands beside the numbers of settings, read at a level.
use Rattle.std.proofs.Common.{ℕ, ◌≡◌, ◌-◌, ◌<◌, ◌≤◌, List, get_or, ap, ap₂, sym, ◌∙◌, arith, ◌≢◌, ◌%◌, inl, inr, subst, eqb, ltb, eq-eqb, IsTrue, ◌↔◌, max}
use Rattle.std.proofs.{lemmas.Bool.{cases_eq, eqb-true, ltb-true}, lemmas.List.FromFn.get_or-map-range_with_len}
use Rattle.std.specs.Int.Count.{count_leading_zeros}
use Rattle.lert_spec.specs.{declared.numbers.Numbers.Numbers, Edges.{span, offset, edge, depth, quotient_bits}, Limits.IsValid}
use Rattle.lert_spec.proofs.{EdgeLaws.{span_pos, moves_there, stays_elsewhere, deepest_is}, LimitLaws.quotient_bits_by_zeros}
use Rattle.lert_base.specs.Computed.{spans_of, offsets_of, IsComputed}

pub get_or-spans_of : (s : Numbers) (level : ℕ) → level ≤ 8 → get_or (spans_of s) level 0 ≡ span s level
unfolding spans_of
get_or-spans_of s level within = get_or-map-range_with_len (span s) 0 9 level level 0 (omega arith) (omega arith)

pub get_or-offsets_of : (s : Numbers) (level : ℕ) → level ≤ 8 → get_or (offsets_of s) level 0 ≡ offset s level
unfolding offsets_of
get_or-offsets_of s level within = get_or-map-range_with_len (offset s) 0 9 level level 0 (omega arith) (omega arith)

-- spans and offsets as they are read through settings
module _ (s seen : Numbers) (all_spans all_offsets : List ℕ) (level : ℕ) (computed : IsComputed s all_spans all_offsets) (same : s ≡ seen) (within : level ≤ seen.levels) where
  low : level ≤ 8
  low = let levels = ap (λ n. n.levels) same in omega (arith, computed.valid.limits.levels_to)

  pub read_span : get_or all_spans level 0 ≡ span seen level
  read_span = ap (λ l. get_or l level 0) computed.spans_are ∙ get_or-spans_of s level low ∙ ap (λ n. span n level) same

  pub read_offset : get_or all_offsets level 0 ≡ offset seen level
  read_offset = ap (λ l. get_or l level 0) computed.offsets_are ∙ get_or-offsets_of s level low ∙ ap (λ n. offset n level) same

  pub span_positive : 1 ≤ get_or all_spans level 0
  span_positive =
      let here = ap (λ l. get_or l level 0) computed.spans_are ∙ get_or-spans_of s level low in
      omega (arith, span_pos s level (omega (arith, computed.valid.limits.base_from)) (omega (arith, computed.valid.limits.ratio_from)))

-- settings as they are seen keep all rules
pub valid_as_seen : (s seen : Numbers) → IsValid s → s ≡ seen → IsValid seen
valid_as_seen s seen valid same = subst IsValid same valid

-- what a whole number of spans above the offset says of the edge
module _ (s : Numbers) (valid : IsValid s) (level m far wide : ℕ) (far_is : far ≡ offset s level) (wide_is : wide ≡ span s level) where
  base : 1 ≤ s.base
  base = omega (arith, valid.limits.base_from)

  ratio : 1 ≤ s.ratio
  ratio = omega (arith, valid.limits.ratio_from)

  rest_is : (m - far) % wide ≡ (m - offset s level) % span s level
  rest_is = ap₂ (λ o w. (m - o) % w) far_is wide_is

  pub moves_by_rest : far < m → IsTrue (eqb ((m - far) % wide) 0) ↔ (edge s level m ≢ edge s level (m - 1))
  moves_by_rest above = (
    λ none. moves_there s base ratio level m (omega (arith, far_is)) (sym rest_is ∙ eqb-true ((m - far) % wide) 0 none),
    λ moves. elim (cases_eq ((m - far) % wide) 0) [
      | inl none ↦ eq-eqb ((m - far) % wide) 0 none
      | inr some ↦ absurd (moves (stays_elsewhere s base ratio level m (λ _ none. some (rest_is ∙ none))))
    ],
  )

  pub stays_below : m ≤ far → IsTrue (ltb far m) ↔ (edge s level m ≢ edge s level (m - 1))
  stays_below below = (
    λ above. absurd (let more = ltb-true far m above in omega arith),
    λ moves. absurd (moves (stays_elsewhere s base ratio level m (λ above none. omega (arith, far_is)))),
  )

-- how many levels move in a row is the depth
pub depth_reached : (s : Numbers) → IsValid s → (reached m : ℕ) → reached ≤ s.levels → ((k : ℕ) → k < reached → edge s k m ≢ edge s k (m - 1)) →
    (reached < s.levels → edge s reached m ≢ edge s reached (m - 1) → ⊥) → reached ≡ depth s m
depth_reached s valid reached m within moves stays =
    sym (deepest_is s (omega (arith, valid.limits.base_from)) (omega (arith, valid.limits.ratio_from)) s.levels reached m within moves
    (λ less. elim (cases_eq (edge s reached m) (edge s reached (m - 1))) [
      | inl same ↦ same
      | inr differs ↦ absurd (stays less differs)
    ]))

-- the quotient bits of a level, from its span as it is read
pub quotient_bits_read : (s : Numbers) (level wide : ℕ) → IsValid s → level ≤ s.levels → wide ≡ span s level →
    (max (64 - count_leading_zeros 64 (wide - 1)) 6 ≡ quotient_bits s level) × (max (64 - count_leading_zeros 64 (wide - 1)) 6 ≤ 30)
quotient_bits_read s level wide valid within wide_is =
    let P : ℕ → Type 0 = λ w. (max (64 - count_leading_zeros 64 (w - 1)) 6 ≡ quotient_bits s level) × (max (64 - count_leading_zeros 64 (w - 1)) 6 ≤ 30) in
    subst P (sym wide_is) (quotient_bits_by_zeros s level valid within)
