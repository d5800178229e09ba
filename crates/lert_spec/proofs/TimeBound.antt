-- Every report is in time: the reports of a closed cone are timely for its events, and those made so far are timely so far.
use Rattle.std.proofs.Common.{ℕ, ◌≡◌, ◌+◌, ◌-◌, ◌*◌, ◌<◌, ◌≤◌, zero, suc, true, false, cond, leb, not, ◌&&◌, List, [], ◌∷◌, ◌++◌, length, get_or, take}
use Rattle.std.proofs.Common.{drop, map, filter, sum_by, ap, ap₂, ◌∙◌, arith, inl, inr, ◌⊎◌, subst}
use Rattle.std.specs.Prelude.{Contains}
use Rattle.std.specs.List.Sorted.{IsNonDecreasing}
use Rattle.std.proofs.Math.Nat.{mul-le-mul_right}
use Rattle.std.proofs.lemmas.Bool.{cases_lt, cases_eq, cases_Bool, and_left, and_right, and_parts, le-leb, lt-leb, leb-true, lt-ltb, le-ltb}
use Rattle.std.proofs.lemmas.List.Elements.{Contains-append_left, Contains-append_right}
use Rattle.lert_spec.specs.declared.numbers.Numbers.{Numbers}
use Rattle.lert_spec.specs.declared.report.Report.{Report}
use Rattle.lert_spec.specs.Counts.{Measure, plain, weight_for, weight_in}
use Rattle.lert_spec.specs.Edges.{lookback, capacity}
use Rattle.lert_spec.specs.Limits.{IsValid}
use Rattle.lert_spec.specs.Look.{is_listed, is_due_in, with_due_in, mixed_in, look_up_to, look_of, closing_of, look, closing}
use Rattle.lert_spec.specs.Timely.{times_listed, IsReportedOnTimeIn, IsNotYetDueIn, IsTimelyIn, IsTimelySoFarIn, IsTimely, IsTimelySoFar}
use Rattle.lert_spec.proofs.WindowLaws.{FirstAt, NthAt, count_parts, count_never_falls, first_at, nth_at}
use Rattle.lert_spec.proofs.EdgeLaws.{DueAt, due, span_pos}
use Rattle.lert_spec.proofs.ReportLaws.{times, times-cons_other, times-filter, times-mixed_order, times-mixed_order_le, occurs, is_listed-times, times_listed-with_due}

right_add : (n k : ℕ) → (n + 1) * k ≡ n * k + k
right_add n k = grind arith

-- a window counts no more than the front that it ends
window_le_front : {A : Type 0} (by : Measure A) (key : ℕ) (events : List A) (from to : ℕ) → weight_in by key events from to ≤ weight_in by key events 0 to
window_le_front by key events from to =
    elim (cases_lt to from) [
      | inl empty ↦ (
          let none : to - from ≡ 0 = omega arith in
          let nothing : weight_in by key events from to ≡ 0 = ap (λ n. sum_by (weight_for by key) (take n (drop from events))) none in omega arith)
      | inr before ↦ omega (arith, count_parts by key events from to before)
    ]

-- a report of a key at a position
abbrev report_of : ℕ → ℕ → Report
report_of at key = record { key = key; at = at }

Contains-map : (at key : ℕ) (keys : List ℕ) → 1 ≤ times key keys → Contains (map (λ k. record { key = k; at = at }) keys) (report_of at key)
Contains-map at key [] some = absurd (omega arith)
Contains-map at key (other ∷ others) some =
    elim (cases_eq other key) [
      | inl same ↦ (0, omega arith, ap (report_of at) same)
      | inr differs ↦ (
          let later = Contains-map at key others (omega (arith, times-cons_other key other others differs)) in
          (suc later.0, omega (arith, later.1), later.2))
    ]

-- what a window does to the reports of one key
module _ {A : Type 0} (by : Measure A) (threshold : ℕ) (events : List A) (from to : ℕ) (reports : List Report) (key : ℕ) where
  due_if_enough : threshold ≤ weight_in by key events from to → times_listed key reports ≡ 0 → is_due_in by threshold events from to reports key ≡ true
  due_if_enough enough missing =
      ap₂ (λ a b. a && not b) (le-leb threshold (weight_in by key events from to) enough)
      (is_listed-times key reports ∙ le-ltb 0 (times_listed key reports) (omega arith))

  pub not_due_if_listed : 1 ≤ times_listed key reports → is_due_in by threshold events from to reports key ≡ false
  not_due_if_listed listed =
      and_right (leb threshold (weight_in by key events from to)) (not (is_listed key reports))
      (ap not (is_listed-times key reports ∙ lt-ltb 0 (times_listed key reports) listed))

  not_due_if_seldom : weight_in by key events from to < threshold → is_due_in by threshold events from to reports key ≡ false
  not_due_if_seldom seldom =
      and_left (leb threshold (weight_in by key events from to)) (not (is_listed key reports)) (lt-leb threshold (weight_in by key events from to) seldom)

  -- how often it is listed then, by whether it is due
  times_if_due : is_due_in by threshold events from to reports key ≡ true →
      times_listed key (with_due_in by threshold events from to reports) ≡ times_listed key reports + times key (mixed_in by events)
  times_if_due due =
      times_listed-with_due by threshold events from to reports key
      ∙ ap (λ t. times_listed key reports + cond {A = ℕ} t (times key (mixed_in by events)) 0) due

  times_if_not_due : is_due_in by threshold events from to reports key ≡ false → times_listed key (with_due_in by threshold events from to reports) ≡ times_listed key reports
  times_if_not_due not_due =
      times_listed-with_due by threshold events from to reports key
      ∙ ap (λ t. times_listed key reports + cond {A = ℕ} t (times key (mixed_in by events)) 0) not_due
      ∙ omega arith

  -- a key stays listed as it was
  times_stays : 1 ≤ times_listed key reports → times_listed key (with_due_in by threshold events from to reports) ≡ times_listed key reports
  times_stays listed = times_if_not_due (not_due_if_listed listed)

  -- a key that has been due is listed
  times_enough : 1 ≤ threshold → threshold ≤ weight_in by key events from to → times_listed key reports ≤ 1 → times_listed key (with_due_in by threshold events from to reports) ≡ 1
  times_enough positive enough once =
      elim (cases_lt 0 (times_listed key reports)) [
        | inl listed ↦ omega (arith, times_stays listed)
        | inr missing ↦ omega (
          arith,
          times_if_due (due_if_enough enough (omega arith)),
          times-mixed_order by key events (occurs by key events from to (omega (arith, positive, enough))),
        )
      ]

  -- no key is listed twice
  times_le_one : times_listed key reports ≤ 1 → times_listed key (with_due_in by threshold events from to reports) ≤ 1
  times_le_one once =
      elim (cases_lt 0 (times_listed key reports)) [
        | inl listed ↦ omega (arith, times_stays listed)
        | inr missing ↦ elim (cases_Bool (is_due_in by threshold events from to reports key)) [
          | inl due ↦ omega (arith, times_if_due due, times-mixed_order_le by key events)
          | inr not_due ↦ omega (arith, times_if_not_due not_due)
        ]
      ]

  -- a key that is listed only now had enough in the window, and is listed at its end
  newly_listed : times_listed key reports ≡ 0 → times_listed key (with_due_in by threshold events from to reports) ≡ 1 →
      (threshold ≤ weight_in by key events from to) × Contains (with_due_in by threshold events from to reports) (report_of to key)
  newly_listed missing now =
      elim (cases_Bool (is_due_in by threshold events from to reports key)) [
        | inl due ↦ (
            let parts = and_parts (leb threshold (weight_in by key events from to)) (not (is_listed key reports)) due in
            let keys = filter (is_due_in by threshold events from to reports) (mixed_in by events) in
            let kept = times-filter key (is_due_in by threshold events from to reports) (mixed_in by events)
            ∙ ap (λ t. cond {A = ℕ} t (times key (mixed_in by events)) 0) due in
            let some : 1 ≤ times key keys = omega (arith, times_if_due due) in (
              leb-true threshold (weight_in by key events from to) parts.0,
              Contains-append_right reports (map (λ k. record { key = k; at = to }) keys) (report_of to key) (Contains-map to key keys some),
            ))
        | inr not_due ↦ absurd (omega (arith, times_if_not_due not_due))
      ]

-- positions that never fall, from `low` on
abbrev Rising : ℕ → List Report → Type 0
Rising low [] = Unit {0}
Rising low (report ∷ reports) = (low ≤ report.at) × Rising report.at reports

-- positions up to `high`
abbrev UpTo : ℕ → List Report → Type 0
UpTo high [] = Unit {0}
UpTo high (report ∷ reports) = (report.at ≤ high) × UpTo high reports

UpTo-later : (high more : ℕ) (reports : List Report) → high ≤ more → UpTo high reports → UpTo more reports
UpTo-later high more [] later below = tt
UpTo-later high more (report ∷ reports) later below = (omega (arith, below.0), UpTo-later high more reports later below.1)

UpTo-append : (high : ℕ) (reports : List Report) (keys : List ℕ) → UpTo high reports → UpTo high (reports ++ map (λ k. record { key = k; at = high }) keys)
UpTo-append high [] [] below = tt
UpTo-append high [] (key ∷ keys) below = (omega arith, UpTo-append high [] keys tt)
UpTo-append high (report ∷ reports) keys below = (below.0, UpTo-append high reports keys below.1)

Rising-append : (low high : ℕ) (reports : List Report) (keys : List ℕ) → low ≤ high → UpTo high reports → Rising low reports →
    Rising low (reports ++ map (λ k. record { key = k; at = high }) keys)
Rising-append low high [] [] order below rising = tt
Rising-append low high [] (key ∷ keys) order below rising = (order, Rising-append high high [] keys (omega arith) tt tt)
Rising-append low high (report ∷ reports) keys order below rising =
    (rising.0, Rising-append report.at high reports keys below.0 below.1 rising.1)

Rising-from : (low : ℕ) (reports : List Report) (j d : ℕ) → Rising low reports → j < length (map (λ report. report.at) reports) → low ≤ get_or (map (λ report. report.at) reports) j d
Rising-from low [] j d rising within = absurd (omega arith)
Rising-from low (report ∷ reports) zero d rising within = rising.0
Rising-from low (report ∷ reports) (suc j) d rising within =
    omega (arith, rising.0, Rising-from report.at reports j d rising.1 (omega arith))

IsNonDecreasing-from_rising : (low : ℕ) (reports : List Report) → Rising low reports → IsNonDecreasing (map (λ report. report.at) reports)
IsNonDecreasing-from_rising low [] rising i j d order within = absurd (omega arith)
IsNonDecreasing-from_rising low (report ∷ reports) rising zero zero d order within = omega arith
IsNonDecreasing-from_rising low (report ∷ reports) rising zero (suc j) d order within = Rising-from report.at reports j d rising.1 (omega arith)
IsNonDecreasing-from_rising low (report ∷ reports) rising (suc i) zero d order within = absurd (omega arith)
IsNonDecreasing-from_rising low (report ∷ reports) rising (suc i) (suc j) d order within =
    IsNonDecreasing-from_rising report.at reports rising.1 i j d (omega arith) (omega arith)

-- a key is listed at a position in whose window it occurs often enough
record ListedAt {A : Type 0} (by : Measure A) (s : Numbers) (events : List A) (key m : ℕ) : Type 0 where
  at : ℕ
  within : at ≤ m
  enough : s.threshold ≤ weight_in by key events (lookback s at) at
  listed : Contains (look_up_to by s events m) (report_of at key)

module _ {A : Type 0} (by : Measure A) (s : Numbers) (valid : IsValid s) (events : List A) where
  UpTo-look_to : (m : ℕ) → UpTo m (look_up_to by s events m)
  UpTo-look_to zero = tt
  UpTo-look_to (suc m) = UpTo-append (suc m) (look_up_to by s events m) (filter (is_due_in by s.threshold events (lookback s (suc m)) (suc m) (look_up_to by s events m)) (mixed_in by events))
      (UpTo-later m (suc m) (look_up_to by s events m) (omega arith) (UpTo-look_to m))

  Rising-look_to : (m : ℕ) → Rising 0 (look_up_to by s events m)
  Rising-look_to zero = tt
  Rising-look_to (suc m) = Rising-append 0 (suc m) (look_up_to by s events m) (filter (is_due_in by s.threshold events (lookback s (suc m)) (suc m) (look_up_to by s events m)) (mixed_in by events))
      (omega arith) (UpTo-later m (suc m) (look_up_to by s events m) (omega arith) (UpTo-look_to m)) (Rising-look_to m)

  Rising-closing : Rising 0 (closing_of by s events)
  Rising-closing = Rising-append 0 (length events) (look_of by s events) (filter (is_due_in by s.threshold events 0 (length events) (look_of by s events)) (mixed_in by events))
      (omega arith) (UpTo-look_to (length events)) (Rising-look_to (length events))

  module _ (key : ℕ) where
    listed_once : (m : ℕ) → times_listed key (look_up_to by s events m) ≤ 1
    listed_once zero = omega arith
    listed_once (suc m) = times_le_one by s.threshold events (lookback s (suc m)) (suc m) (look_up_to by s events m) key (listed_once m)

    -- a key in whose window there are enough is listed then
    pub listed_then : (m : ℕ) → 1 ≤ m → s.threshold ≤ weight_in by key events (lookback s m) m → times_listed key (look_up_to by s events m) ≡ 1
    listed_then zero positive enough = absurd (omega arith)
    listed_then (suc m) positive enough =
        times_enough by s.threshold events (lookback s (suc m)) (suc m) (look_up_to by s events m) key valid.limits.threshold_from enough (listed_once m)

    listed_at : (m : ℕ) → times_listed key (look_up_to by s events m) ≡ 1 → ListedAt by s events key m
    listed_at zero listed = absurd (omega arith)
    listed_at (suc m) listed =
        elim (cases_lt 0 (times_listed key (look_up_to by s events m))) [
          | inl earlier ↦ (
              let found = listed_at m (omega (arith, listed_once m)) in
              record {
                at = found.at;
                within = omega (arith, found.within);
                enough = found.enough;
                listed = Contains-append_left (look_up_to by s events m) _ (report_of found.at key) found.listed;
              })
          | inr now ↦ (
              let new = newly_listed by s.threshold events (lookback s (suc m)) (suc m) (look_up_to by s events m) key (omega arith) listed in
              record {
                at = suc m;
                within = omega arith;
                enough = new.0;
                listed = new.1;
              })
        ]

    -- what is listed stays listed
    stays_listed : (m n at : ℕ) → m ≤ n → Contains (look_up_to by s events m) (report_of at key) → Contains (look_up_to by s events n) (report_of at key)
    stays_listed m zero at later listed = subst (λ k. Contains (look_up_to by s events k) (report_of at key)) (let same : m ≡ 0 = omega arith in same) listed
    stays_listed m (suc n) at later listed =
        elim (cases_lt n m) [
          | inl same_place ↦ subst (λ k. Contains (look_up_to by s events k) (report_of at key)) (let same : m ≡ suc n = omega arith in same) listed
          | inr earlier ↦ Contains-append_left (look_up_to by s events n) _ (report_of at key) (stays_listed m n at earlier listed)
        ]

    stays_once : (m n : ℕ) → m ≤ n → times_listed key (look_up_to by s events m) ≡ 1 → times_listed key (look_up_to by s events n) ≡ 1
    stays_once m zero later listed = ap (λ k. times_listed key (look_up_to by s events k)) (let same : 0 ≡ m = omega arith in same) ∙ listed
    stays_once m (suc n) later listed =
        elim (cases_lt n m) [
          | inl same_place ↦ ap (λ k. times_listed key (look_up_to by s events k)) (let same : suc n ≡ m = omega arith in same) ∙ listed
          | inr earlier ↦ (
              let once = stays_once m n earlier listed in
              times_stays by s.threshold events (lookback s (suc n)) (suc n) (look_up_to by s events n) key (omega arith) ∙ once)
        ]

    -- a key that occurs too seldom isn't listed
    seldom_unlisted : weight_in by key events 0 (length events) < s.threshold → times_listed key (look_of by s events) ≡ 0
    seldom_unlisted seldom =
        elim (cases_lt 0 (times_listed key (look_of by s events))) [
          | inl some ↦ (
              let found = listed_at (length events) (omega (arith, listed_once (length events))) in
              absurd (omega (arith, found.enough, window_le_front by key events (lookback s found.at) found.at, count_never_falls by key events found.at (length events) found.within)))
          | inr none ↦ omega arith
        ]

    seldom_unlisted_closing : weight_in by key events 0 (length events) < s.threshold → times_listed key (closing_of by s events) ≡ 0
    seldom_unlisted_closing seldom =
        times_if_not_due by s.threshold events 0 (length events) (look_of by s events) key (not_due_if_seldom by s.threshold events 0 (length events) (look_of by s events) key seldom)
        ∙ seldom_unlisted seldom

    module _ (fits : length events ≤ capacity s) (heavy : s.threshold ≤ weight_in by key events 0 (length events)) where
      reached : NthAt by s.threshold key events
      reached = nth_at by s.threshold key events valid.limits.threshold_from heavy

      begun : FirstAt by key events
      begun = first_at by key events (omega (arith, valid.limits.threshold_from))

      -- where a window that reaches behind the first occurrence ends
      due_at_latest : DueAt s begun.at reached.at
      due_at_latest =
          let base : 1 ≤ s.base = omega (arith, valid.limits.base_from) in
          let ratio : 1 ≤ s.ratio = omega (arith, valid.limits.ratio_from) in
          let wide = span_pos s s.levels base ratio in
          due s base ratio begun.at reached.at begun.from (omega (arith, reached.within))

      -- it begins no later than it has the threshold
      in_order : begun.at ≤ reached.at
      in_order =
          elim (cases_lt reached.at begun.at) [
            | inl later ↦ absurd (omega (arith, begun.earlier reached.at later, reached.enough, valid.limits.threshold_from))
            | inr fine ↦ fine
          ]

      -- that window has enough
      enough_then : s.threshold ≤ weight_in by key events (lookback s due_at_latest.at) due_at_latest.at
      enough_then =
          let at = due_at_latest.at in
          let back = lookback s at in
          let none = begun.earlier back due_at_latest.reaches in
          let parts = count_parts by key events back at (omega (arith, due_at_latest.reaches, due_at_latest.from, in_order)) in
          omega (arith, count_never_falls by key events reached.at at due_at_latest.from, reached.enough)

      -- a report that stands at a position up to there is in time
      reported : (m : ℕ) (found : ListedAt by s events key m) → m ≤ length events → found.at ≤ due_at_latest.at → times_listed key (look_of by s events) ≡ 1 →
          IsReportedOnTimeIn by s.threshold s.bins events (look_of by s events) key
      reported m found so_far soon once = record {
        at = found.at;
        first_at = begun.at;
        reached_at = reached.at;
        first_is = begun.is;
        reached_is = reached.is;
        listed = stays_listed m (length events) found.at so_far found.listed;
        once = once;
        within = omega (arith, found.within);
        on_time = record {
          not_early = elim (cases_lt found.at reached.at) [
            | inl early ↦ absurd (omega (arith, reached.earlier found.at early, found.enough, window_le_front by key events (lookback s found.at) found.at))
            | inr fine ↦ fine
          ];
          not_late =
              let shorter = mul-le-mul_right (s.bins - 1) (let less : found.at - reached.at ≤ due_at_latest.at - reached.at = omega (arith, soon) in less) in
              omega (arith, due_at_latest.in_time);
        };
      }

      -- a key is reported in time, or is missing and needn't be reported yet
      reported_or_missing : IsReportedOnTimeIn by s.threshold s.bins events (look_of by s events) key
          ⊎ ((times_listed key (look_of by s events) ≡ 0) × ((length events - reached.at) * (s.bins - 1) < reached.at - begun.at))
      reported_or_missing =
          let last = length events in
          elim (cases_lt last due_at_latest.at) [
            | inl later ↦ elim (cases_lt 0 (times_listed key (look_of by s events))) [
              | inl some ↦ (
                  let once : times_listed key (look_of by s events) ≡ 1 = omega (arith, listed_once last) in
                  let found = listed_at last once in
                  inl (reported last found (omega arith) (omega (arith, found.within)) once))
              | inr none ↦ (
                  let shorter = mul-le-mul_right (s.bins - 1) (let less : (last - reached.at) + 1 ≤ due_at_latest.at - reached.at = omega (arith, reached.within) in less) in
                  let regrouped = right_add (last - reached.at) (s.bins - 1) in
                  inr (omega arith, omega (arith, due_at_latest.in_time, valid.limits.bins_from)))
            ]
            | inr soon ↦ (
                let listed = listed_then due_at_latest.at (omega (arith, due_at_latest.from, reached.from)) enough_then in
                let found = listed_at due_at_latest.at listed in
                inl (reported due_at_latest.at found soon (omega (arith, found.within)) (stays_once due_at_latest.at last soon listed)))
          ]

      -- so far
      reported_so_far : IsReportedOnTimeIn by s.threshold s.bins events (look_of by s events) key ⊎ IsNotYetDueIn by s.threshold s.bins events (look_of by s events) key
      reported_so_far =
          elim reported_or_missing [
            | inl in_time ↦ inl in_time
            | inr missing ↦ inr (record {
              first_at = begun.at;
              reached_at = reached.at;
              first_is = begun.is;
              reached_is = reached.is;
              missing = missing.0;
              not_due = missing.1;
            })
          ]

      -- and once the cone is closed
      reported_at_closing : IsReportedOnTimeIn by s.threshold s.bins events (closing_of by s events) key
      reported_at_closing =
          let last = length events in
          let reports = look_of by s events in
          let once : times_listed key (closing_of by s events) ≡ 1 = times_enough by s.threshold events 0 last reports key valid.limits.threshold_from heavy (listed_once last) in
          elim reported_or_missing [
            | inl in_time ↦ record {
              at = in_time.at;
              first_at = in_time.first_at;
              reached_at = in_time.reached_at;
              first_is = in_time.first_is;
              reached_is = in_time.reached_is;
              listed = Contains-append_left reports _ (report_of in_time.at key) in_time.listed;
              once = once;
              within = in_time.within;
              on_time = in_time.on_time;
            }
            | inr missing ↦ (
                let new = newly_listed by s.threshold events 0 last reports key missing.0 once in
                record {
                  at = last;
                  first_at = begun.at;
                  reached_at = reached.at;
                  first_is = begun.is;
                  reached_is = reached.is;
                  listed = new.1;
                  once = once;
                  within = omega arith;
                  on_time = record {
                    not_early = reached.within;
                    not_late = omega (arith, missing.1);
                  };
                })
          ]

-- the time bound while events come: each key whose bound has passed is reported
pub timely_so_far : {A : Type 0} (by : Measure A) (s : Numbers) (events : List A) → IsValid s → length events ≤ capacity s →
    IsTimelySoFarIn by s.threshold s.bins events (look_of by s events)
timely_so_far by s events valid fits = record {
  in_order = IsNonDecreasing-from_rising 0 (look_of by s events) (Rising-look_to by s valid events (length events));
  light = seldom_unlisted by s valid events;
  heavy = λ key enough. reported_so_far by s valid events key fits enough;
}

-- the time bound: the reports of a closed cone are the keys that reach the threshold, each once and in time
pub timely_closing : {A : Type 0} (by : Measure A) (s : Numbers) (events : List A) → IsValid s → length events ≤ capacity s →
    IsTimelyIn by s.threshold s.bins events (closing_of by s events)
timely_closing by s events valid fits = record {
  in_order = IsNonDecreasing-from_rising 0 (closing_of by s events) (Rising-closing by s valid events);
  light = seldom_unlisted_closing by s valid events;
  heavy = λ key enough. reported_at_closing by s valid events key fits enough;
}

-- the same of a list of keys
pub IsTimelySoFar-look : (s : Numbers) (events : List ℕ) → IsValid s → length events ≤ capacity s → IsTimelySoFar s.threshold s.bins events (look s events)
IsTimelySoFar-look s events valid fits = timely_so_far plain s events valid fits

pub IsTimely-closing : (s : Numbers) (events : List ℕ) → IsValid s → length events ≤ capacity s → IsTimely s.threshold s.bins events (closing s events)
IsTimely-closing s events valid fits = timely_closing plain s events valid fits
