-- Reports are few: each is of a key of its own, and each of these keys reaches the threshold.
use Rattle.std.proofs.{Common.{◌≡◌, ◌≢◌, ℕ, ◌+◌, ◌*◌, ◌≤◌, suc, cond, eqb, not, List, [], ◌∷◌, length, filter, refl, ap, sym, ◌∙◌, arith, inl, inr, sum_by}, Math.Nat.{mul-suc, mul-le-mul_left}}
use Rattle.std.proofs.{lemmas.Bool.{cases_lt, cases_eq, eq-eqb, ne_eqb}, lemmas.List.Sums.{sum_by-cons}}
use Rattle.lert_spec.specs.{declared.item.Item.Item, declared.numbers.Numbers.Numbers, declared.report.Report.Report, Counts.{weighed, weight_for, weight_in, weight_of}, Edges.capacity}
use Rattle.lert_spec.specs.{Limits.IsValid, Look.{look_of, closing_of}, Timely.{IsReportedOnTimeIn, times_listed}}
use Rattle.lert_spec.proofs.{CountLaws.count-whole, TimeBound.{timely_closing, timely_so_far}}
use Rattle.lert_spec.specs.Edges.{weight_room}

-- what a key weighs among items
abbrev pub weight_under : ℕ → List Item → ℕ
weight_under key events = sum_by (weight_for weighed key) events

-- the items without those of a key
abbrev others : ℕ → List Item → List Item
others key events = filter (λ event. not (eqb event.key key)) events

others-cons_same : (key : ℕ) (event : Item) (events : List Item) → event.key ≡ key → others key (event ∷ events) ≡ others key events
others-cons_same key event events same = ap (λ t. cond (not t) (event ∷ others key events) (others key events)) (eq-eqb event.key key same)

others-cons_other : (key : ℕ) (event : Item) (events : List Item) → event.key ≢ key → others key (event ∷ events) ≡ event ∷ others key events
others-cons_other key event events differs = ap (λ t. cond (not t) (event ∷ others key events) (others key events)) (ne_eqb event.key key differs)

under-cons : (key : ℕ) (event : Item) (events : List Item) → weight_under key (event ∷ events) ≡ cond {A = ℕ} (eqb event.key key) event.weight 0 + weight_under key events
under-cons key event events = sum_by-cons (weight_for weighed key) event events

weight-others : (key : ℕ) (events : List Item) → weight_under key events + weight_of weighed (others key events) ≡ weight_of weighed events
weight-others key [] = refl
weight-others key (event ∷ events) =
    let rest = weight-others key events in
    let parts = under-cons key event events in
    let whole = sum_by-cons (λ (item : Item). item.weight) event events in
    elim (cases_eq event.key key) [
      | inl same ↦ omega (
        arith,
        rest,
        parts,
        whole,
        ap (λ t. cond {A = ℕ} t event.weight 0) (eq-eqb event.key key same),
        ap (weight_of weighed) (others-cons_same key event events same),
      )
      | inr differs ↦ omega (
        arith,
        rest,
        parts,
        whole,
        ap (λ t. cond {A = ℕ} t event.weight 0) (ne_eqb event.key key differs),
        ap (weight_of weighed) (others-cons_other key event events differs),
        sum_by-cons (λ (item : Item). item.weight) event (others key events),
      )
    ]

under-others : (key other : ℕ) (events : List Item) → other ≢ key → weight_under other (others key events) ≡ weight_under other events
under-others key other [] differs = refl
under-others key other (event ∷ events) differs =
    let rest = under-others key other events differs in
    let parts = under-cons other event events in
    elim (cases_eq event.key key) [
      | inl same ↦ omega (
        arith,
        rest,
        parts,
        ap (λ t. cond {A = ℕ} t event.weight 0) (ne_eqb event.key other (λ is. differs (sym is ∙ same))),
        ap (weight_under other) (others-cons_same key event events same),
      )
      | inr not_it ↦ omega (
        arith,
        rest,
        parts,
        ap (weight_under other) (others-cons_other key event events not_it),
        under-cons other event (others key events),
      )
    ]

listed_same : (key : ℕ) (report : Report) (reports : List Report) → report.key ≡ key → times_listed key (report ∷ reports) ≡ 1 + times_listed key reports
listed_same key report reports same =
    sum_by-cons (λ (r : Report). cond {A = ℕ} (eqb r.key key) 1 0) report reports
    ∙ ap (λ t. cond {A = ℕ} t 1 0 + times_listed key reports) (eq-eqb report.key key same)

listed_other : (key : ℕ) (report : Report) (reports : List Report) → report.key ≢ key → times_listed key (report ∷ reports) ≡ times_listed key reports
listed_other key report reports differs =
    sum_by-cons (λ (r : Report). cond {A = ℕ} (eqb r.key key) 1 0) report reports
    ∙ ap (λ t. cond {A = ℕ} t 1 0 + times_listed key reports) (ne_eqb report.key key differs)
    ∙ omega arith

-- each key is listed at most once, and only where it weighs enough
pub record AreHeavy (threshold : ℕ) (events : List Item) (reports : List Report) : Type 0 where
  pub once : (key : ℕ) → times_listed key reports ≤ 1
  pub enough : (key : ℕ) → threshold * times_listed key reports ≤ weight_under key events

-- reports take so much weight each
pub few_heavy : (threshold : ℕ) (events : List Item) (reports : List Report) → AreHeavy threshold events reports → threshold * length reports ≤ weight_of weighed events
few_heavy threshold events [] heavy = omega arith
few_heavy threshold events (report ∷ reports) heavy =
    let key = report.key in
    let here = listed_same key report reports refl in
    let none : times_listed key reports ≡ 0 = omega (arith, heavy.once key) in
    let one : times_listed key (report ∷ reports) ≡ 1 = omega arith in
    let mine = heavy.enough key in
    let taken : threshold ≤ weight_under key events = omega (arith, ap (λ n. threshold * n) one) in
    let rest = few_heavy threshold (others key events) reports (record {
      once = λ k. elim (cases_eq key k) [
        | inl same ↦ omega (arith, ap (λ n. times_listed n reports) same)
        | inr differs ↦ omega (arith, heavy.once k, listed_other k report reports differs)
      ];
      enough = λ k. elim (cases_eq key k) [
        | inl same ↦ (let gone : threshold * times_listed k reports ≡ 0 = ap (λ n. threshold * n) (ap (λ n. times_listed n reports) (sym same) ∙ none) ∙ omega arith in omega arith)
        | inr differs ↦ omega (arith, heavy.enough k, ap (λ n. threshold * n) (listed_other k report reports differs), under-others key k events (λ same. differs (sym same)))
      ];
    }) in
    omega (arith, weight-others key events, mul-suc threshold (length reports))

module _ (s : Numbers) (events : List Item) (valid : IsValid s) (fits : length events ≤ capacity s) (weighs : weight_of weighed events ≤ weight_room s) where
  in_time : (reports : List Report) (key : ℕ) → IsReportedOnTimeIn weighed s.threshold s.bins events reports key → s.threshold ≤ weight_in weighed key events 0 (length events) →
      (times_listed key reports ≤ 1) × (s.threshold * times_listed key reports ≤ weight_under key events)
  in_time reports key reported heavy = (
    omega (arith, reported.once),
    omega (arith, ap (λ n. s.threshold * n) reported.once, count-whole weighed key events),
  )

  absent : (reports : List Report) (key : ℕ) → times_listed key reports ≡ 0 → (times_listed key reports ≤ 1) × (s.threshold * times_listed key reports ≤ weight_under key events)
  absent reports key none = (omega (arith, none), omega (arith, ap (λ n. s.threshold * n) none))

  look_heavy : (key : ℕ) → (times_listed key (look_of weighed s events) ≤ 1) × (s.threshold * times_listed key (look_of weighed s events) ≤ weight_under key events)
  look_heavy key =
      let timely = timely_so_far weighed s events valid fits in
      elim (cases_lt (weight_in weighed key events 0 (length events)) s.threshold) [
        | inl light ↦ absent (look_of weighed s events) key (timely.light key light)
        | inr heavy ↦ elim (timely.heavy key heavy) [
          | inl reported ↦ in_time (look_of weighed s events) key reported heavy
          | inr missing ↦ absent (look_of weighed s events) key missing.missing
        ]
      ]

  closing_heavy : (key : ℕ) → (times_listed key (closing_of weighed s events) ≤ 1) × (s.threshold * times_listed key (closing_of weighed s events) ≤ weight_under key events)
  closing_heavy key =
      let timely = timely_closing weighed s events valid fits in
      elim (cases_lt (weight_in weighed key events 0 (length events)) s.threshold) [
        | inl light ↦ absent (closing_of weighed s events) key (timely.light key light)
        | inr heavy ↦ in_time (closing_of weighed s events) key (timely.heavy key heavy) heavy
      ]

  within_room : (reports : List Report) → s.threshold * length reports ≤ weight_of weighed events → length reports ≤ s.room
  within_room reports few =
      elim (cases_lt s.room (length reports)) [
        | inl more ↦ absurd (let wide = mul-le-mul_left s.threshold (let above : suc s.room ≤ length reports = omega arith in above) in
            omega (arith, mul-suc s.threshold s.room, valid.limits.threshold_from))
        | inr fine ↦ fine
      ]

  -- the reports that are made while events come, and those of a closed cone, are at most as many as there is room for
  pub look_fits : length (look_of weighed s events) ≤ s.room
  look_fits = within_room (look_of weighed s events) (few_heavy s.threshold events (look_of weighed s events) (record { once = λ key. (look_heavy key).0; enough = λ key. (look_heavy key).1 }))

  pub closing_fits : length (closing_of weighed s events) ≤ s.room
  closing_fits = within_room (closing_of weighed s events) (few_heavy s.threshold events (closing_of weighed s events) (record {
    once = λ key. (closing_heavy key).0;
    enough = λ key. (closing_heavy key).1;
  }))
