-- What follows from tests of each report and each event: no light key is reported, and each heavy key has what each event has.
use Rattle.std.proofs.{Common.{◌≡◌, ℕ, zero, suc, ◌<◌, ◌≤◌, ◌==◌, inl, inr, cond, List, [], ◌∷◌, length, get_or, refl, ap, subst, arith}, lemmas.Bool.Decides.eqb_tells}
use Rattle.std.proofs.{lemmas.List.Elements.{All-contains, Contains-get_or}, lemmas.List.Sums.sum_by-cons}
use Rattle.std.specs.{Prelude.count_by, List.{All, Any}}
use Rattle.lert_spec.specs.{declared.item.Item.Item, declared.report.Report.Report, Counts.{weighed, weight_in}, Timely.times_listed}
use Rattle.lert_spec.proofs.ReportLaws.{occurs}

-- what is counted at least once is there
Any-counted : {X : Type 0} (f : X → ℕ) (key : ℕ) (xs : List X) → 1 ≤ count_by (λ x. f x == key) xs → Any (λ x. f x ≡ key) xs
Any-counted f key [] some = absurd (omega (arith, some))
Any-counted f key (x ∷ xs) some =
    elim (eqb_tells (f x) key) [
      | inl here ↦ (0, x, omega arith, refl, here.1)
      | inr other ↦
          let left : 1 ≤ count_by (λ y. f y == key) xs = omega (arith, some, sum_by-cons (λ y. cond (f y == key) 1 0) x xs, ap (λ b. cond {A = ℕ} b 1 0) other.0) in
          let found = Any-counted f key xs left in
          (suc found.0, found.1, omega (arith, found.2), found.3, found.4)
    ]

-- and what is there is counted at least once
counted_from_Contains : {X : Type 0} (f : X → ℕ) (xs : List X) (x : X) (k : ℕ) → k < length xs → get_or xs k x ≡ x → 1 ≤ count_by (λ y. f y == f x) xs
counted_from_Contains f [] x k within here = absurd (omega (arith, within))
counted_from_Contains f (y ∷ ys) x zero within here =
    elim (eqb_tells (f y) (f x)) [
      | inl same ↦ omega (arith, sum_by-cons (λ z. cond (f z == f x) 1 0) y ys, ap (λ b. cond {A = ℕ} b 1 0) same.0)
      | inr other ↦ absurd (other.1 (ap f here))
    ]
counted_from_Contains f (y ∷ ys) x (suc k) within here =
    let left = counted_from_Contains f ys x k (omega (arith, within)) here in
    omega (arith, left, sum_by-cons (λ z. cond (f z == f x) 1 0) y ys)

-- a key that occurs too seldom isn't reported, where each report names one that doesn't
pub light_isn't_listed : (threshold : ℕ) (events : List Item) (reports : List Report) →
    All (λ report. threshold ≤ weight_in weighed report.key events 0 (length events)) reports →
    (key : ℕ) → weight_in weighed key events 0 (length events) < threshold → times_listed key reports ≡ 0
light_isn't_listed threshold events reports heavy key few =
    elim (eqb_tells (times_listed key reports) 0) [
      | inl none ↦ none.1
      | inr some ↦
          let found = Any-counted (λ report. report.key) key reports (omega (arith, some.1)) in
          let enough : threshold ≤ weight_in weighed found.1.key events 0 (length events) =
          All-contains (λ report. threshold ≤ weight_in weighed report.key events 0 (length events)) reports found.1 heavy (found.0, found.2, found.3) in
          absurd (omega (arith, few, ap (λ k. weight_in weighed k events 0 (length events)) found.4))
    ]

not_below : (a b : ℕ) → ¬ (b < a) → a ≤ b
not_below a b refuted = omega arith

-- each report names a key that occurs often enough, where no other is reported
pub listed_is_heavy : (threshold : ℕ) (events : List Item) (reports : List Report) →
    ((key : ℕ) → weight_in weighed key events 0 (length events) < threshold → times_listed key reports ≡ 0) →
    All (λ report. threshold ≤ weight_in weighed report.key events 0 (length events)) reports
listed_is_heavy threshold events reports light k d within =
    let report = get_or reports k d in
    let found = Contains-get_or reports k d within in
    let once : 1 ≤ times_listed report.key reports = counted_from_Contains (λ report. report.key) reports report found.0 found.1 found.2 in
    not_below threshold (weight_in weighed report.key events 0 (length events)) (λ few. omega (arith, light report.key few, once))

-- what each event's key has, each key has that weighs enough
pub each_heavy : (P : ℕ → Type 0) (threshold : ℕ) (events : List Item) → 1 ≤ threshold →
    All (λ event. threshold ≤ weight_in weighed event.key events 0 (length events) → P event.key) events →
    (key : ℕ) → threshold ≤ weight_in weighed key events 0 (length events) → P key
each_heavy P threshold events some each key enough =
    let Q : Item → Type 0 = λ event. threshold ≤ weight_in weighed event.key events 0 (length events) → P event.key in
    let found = Any-counted (λ (event : Item). event.key) key events (occurs weighed key events 0 (length events) (omega (arith, some, enough))) in
    let here = All-contains Q events found.1 each (found.0, found.2, found.3) in
    let of_key : threshold ≤ weight_in weighed key events 0 (length events) → P key = subst (λ key. threshold ≤ weight_in weighed key events 0 (length events) → P key) found.4 here in
    of_key enough
