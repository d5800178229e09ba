-- What `is_sorted_by_key` decides of the positions of reports.
use Rattle.std.proofs.{Common.{◌≡◌, ℕ, ◌+◌, ◌<◌, ◌≤◌, Bool, true, false, List, length, get_or, map, Decides, refl, arith, is_le, nat_cmp}, lemmas.Bool.false≢true, lemmas.Bool.Decides.nat_tests}
use Rattle.std.proofs.{lemmas.List.{get_or-map, length-map}, lemmas.List.Sorted.IsNonDecreasingBy-from_all_adjacent}
use Rattle.std.specs.{List.IsAllAdjacentAnswer, List.Sorted.IsNonDecreasing}
use Rattle.lert_spec.specs.declared.report.Report.{Report}

rises : (a b : ℕ) → true ≡ is_le (nat_cmp a b) → a ≤ b
rises a b h = grind (arith, nat_tests)

falls : (a b : ℕ) → false ≡ is_le (nat_cmp a b) → b < a
falls a b h = grind (arith, nat_tests)

abbrev at : Report → ℕ
at report = report.at

abbrev some : Report
some = record { key = 0; at = 0 }

pub Decides-in_order : (reports : List Report) (r : Bool) →
    IsAllAdjacentAnswer (λ x y b. b ≡ is_le (nat_cmp x.at y.at)) reports r → Decides r (IsNonDecreasing (map (λ report. report.at) reports))
Decides-in_order reports true h = (
  λ _. IsNonDecreasingBy-from_all_adjacent (λ x. x) (map at reports)
      (λ k d within.
      let left : k + 1 < length reports = omega (arith, within, length-map reports at) in
      let here : (get_or reports k some).at ≤ (get_or reports (k + 1) some).at = rises _ _ (h k some left) in
      omega (arith, here, get_or-map at reports k some d (omega (arith, left)), get_or-map at reports (k + 1) some d left)),
  λ _. refl,
)
Decides-in_order reports false h = (
  λ e. absurd (false≢true e),
  λ in_order.
      let here : (get_or reports (h.0 + 1) some).at < (get_or reports h.0 some).at = falls _ _ (h.2 some) in
      let step : get_or (map at reports) h.0 0 ≤ get_or (map at reports) (h.0 + 1) 0 =
      in_order h.0 (h.0 + 1) 0 (omega arith) (omega (arith, h.1, length-map reports at)) in
      absurd (omega (arith, here, step, get_or-map at reports h.0 some 0 (omega (arith, h.1)), get_or-map at reports (h.0 + 1) some 0 h.1)),
)
