-- How often a key is reported: each key that is due is listed once, and no other.
use Rattle.std.proofs.Common.{ℕ, ◌≡◌, ◌≢◌, ◌+◌, ◌-◌, ◌<◌, ◌≤◌, Bool, true, false, cond, eqb, ltb, ◌||◌, List, [], ◌∷◌, ◌++◌, take, drop, map, filter}
use Rattle.std.proofs.Common.{refl, ap, sym, ◌∙◌, arith, inl, inr, count_by, sum_by}
use Rattle.std.proofs.lemmas.Bool.{cases_lt, cases_eq, cases_Bool, eq-eqb, ne_eqb, lt-ltb}
use Rattle.std.proofs.lemmas.Bool.Decides.{nat_tests}
use Rattle.std.proofs.lemmas.List.{take-append-drop}
use Rattle.std.proofs.lemmas.List.Sums.{sum_by-append, sum_by-cons}
use Rattle.lert_spec.specs.declared.report.Report.{Report}
use Rattle.lert_spec.specs.Counts.{Measure, plain, weight_for, weight_in, count}
use Rattle.lert_spec.specs.Look.{insert_mixed, mixed_in, is_listed, is_due_in, with_due_in}
use Rattle.lert_spec.specs.Mix.{mix}
use Rattle.lert_spec.specs.Timely.{times_listed}

-- how often a key stands among keys
abbrev pub times : ℕ → List ℕ → ℕ
times key keys = count_by (λ other. eqb other key) keys

times-cons : (key other : ℕ) (keys : List ℕ) → times key (other ∷ keys) ≡ cond (eqb other key) 1 0 + times key keys
times-cons key other keys = sum_by-cons (λ x. cond (eqb x key) 1 0) other keys

pub times-cons_same : (key other : ℕ) (keys : List ℕ) → other ≡ key → times key (other ∷ keys) ≡ 1 + times key keys
times-cons_same key other keys same =
    times-cons key other keys ∙ ap (λ (t : Bool). cond {A = ℕ} t 1 0 + times key keys) (eq-eqb other key same)

pub times-cons_other : (key other : ℕ) (keys : List ℕ) → other ≢ key → times key (other ∷ keys) ≡ times key keys
times-cons_other key other keys differs =
    times-cons key other keys
    ∙ ap (λ (t : Bool). cond {A = ℕ} t 1 0 + times key keys) (ne_eqb other key differs)
    ∙ omega arith

-- keys in the order of their mixed values, from `low` on
abbrev pub MixedFrom : ℕ → List ℕ → Type 0
MixedFrom low [] = Unit {0}
MixedFrom low (key ∷ keys) = (low ≤ mix key) × MixedFrom (mix key) keys

pub insert_before : (key other : ℕ) (others : List ℕ) → mix key < mix other → insert_mixed key (other ∷ others) ≡ key ∷ other ∷ others
insert_before key other others less = grind (arith, nat_tests)

pub insert_same : (key other : ℕ) (others : List ℕ) → mix other ≤ mix key → key ≡ other → insert_mixed key (other ∷ others) ≡ other ∷ others
insert_same key other others less same = grind (arith, nat_tests)

pub insert_behind : (key other : ℕ) (others : List ℕ) → mix other ≤ mix key → key ≢ other → insert_mixed key (other ∷ others) ≡ other ∷ insert_mixed key others
insert_behind key other others less differs = grind (arith, nat_tests)

MixedFrom-insert_mixed : (low key : ℕ) (keys : List ℕ) → low ≤ mix key → MixedFrom low keys → MixedFrom low (insert_mixed key keys)
MixedFrom-insert_mixed low key [] above ordered = (above, tt)
MixedFrom-insert_mixed low key (other ∷ others) above ordered =
    elim (cases_lt (mix key) (mix other)) [
      | inl less ↦ rw (insert_before key other others less) (above, (omega arith, ordered.1))
      | inr more ↦ elim (cases_eq key other) [
        | inl same ↦ rw (insert_same key other others more same) ordered
        | inr differs ↦ rw (insert_behind key other others more differs) (ordered.0, MixedFrom-insert_mixed (mix other) key others more ordered.1)
      ]
    ]

pub MixedFrom-mixed_order : {A : Type 0} (by : Measure A) (events : List A) → MixedFrom 0 (mixed_in by events)
MixedFrom-mixed_order by [] = tt
MixedFrom-mixed_order by (event ∷ events) = MixedFrom-insert_mixed 0 (by.key event) (mixed_in by events) (omega arith) (MixedFrom-mixed_order by events)

-- a key with a lesser mixed value isn't among them
pub times-below : (low key : ℕ) (keys : List ℕ) → mix key < low → MixedFrom low keys → times key keys ≡ 0
times-below low key [] less ordered = refl
times-below low key (other ∷ others) less ordered =
    let differs : other ≢ key = λ same. (let mixed = ap mix same in omega (arith, ordered.0)) in
    times-cons_other key other others differs ∙ times-below (mix other) key others (omega (arith, ordered.0)) ordered.1

-- putting in a key leaves the others
times-insert_other : (key other : ℕ) (keys : List ℕ) → other ≢ key → times key (insert_mixed other keys) ≡ times key keys
times-insert_other key other [] differs = times-cons_other key other [] differs
times-insert_other key other (next ∷ keys) differs =
    elim (cases_lt (mix other) (mix next)) [
      | inl less ↦ ap (times key) (insert_before other next keys less) ∙ times-cons_other key other (next ∷ keys) differs
      | inr more ↦ elim (cases_eq other next) [
        | inl same ↦ ap (times key) (insert_same other next keys more same)
        | inr apart ↦ ap (times key) (insert_behind other next keys more apart)
            ∙ times-cons key next (insert_mixed other keys)
            ∙ ap (λ n. cond {A = ℕ} (eqb next key) 1 0 + n) (times-insert_other key other keys differs)
            ∙ sym (times-cons key next keys)
      ]
    ]

-- and that key stands there once
times-insert_same : (low key : ℕ) (keys : List ℕ) → MixedFrom low keys → times key keys ≤ 1 → times key (insert_mixed key keys) ≡ 1
times-insert_same low key [] ordered once = times-cons_same key key [] refl
times-insert_same low key (next ∷ keys) ordered once =
    elim (cases_lt (mix key) (mix next)) [
      | inl less ↦ (
          let before = ap (times key) (insert_before key next keys less) in
          let one = times-cons_same key key (next ∷ keys) refl in
          let none = times-below (mix next) key (next ∷ keys) less (omega arith, ordered.1) in
          omega arith)
      | inr more ↦ elim (cases_eq key next) [
        | inl same ↦ (
            let kept = ap (times key) (insert_same key next keys more same) in
            let one = times-cons_same key next keys (sym same) in omega arith)
        | inr apart ↦ (
            let behind = ap (times key) (insert_behind key next keys more apart) in
            let differs : next ≢ key = λ e. apart (sym e) in
            let passed = times-cons_other key next (insert_mixed key keys) differs in
            let fewer = times-cons_other key next keys differs in
            let one = times-insert_same (mix next) key keys ordered.1 (omega arith) in
            omega arith)
      ]
    ]

-- how often a key stands among items
abbrev pub times_in : {A : Type 0} → Measure A → ℕ → List A → ℕ
times_in by key events = count_by (λ item. eqb (by.key item) key) events

module _ {A : Type 0} (by : Measure A) where
  pub times_in-cons : (key : ℕ) (event : A) (events : List A) → times_in by key (event ∷ events) ≡ cond (eqb (by.key event) key) 1 0 + times_in by key events
  times_in-cons key event events = sum_by-cons (λ item. cond (eqb (by.key item) key) 1 0) event events

  pub times_in-other : (key : ℕ) (event : A) (events : List A) → by.key event ≢ key → times_in by key (event ∷ events) ≡ times_in by key events
  times_in-other key event events differs =
      times_in-cons key event events
      ∙ ap (λ t. cond {A = ℕ} t 1 0 + times_in by key events) (ne_eqb (by.key event) key differs)
      ∙ omega arith

  -- a key that weighs something in a window stands among the items
  weighs_none : (key : ℕ) (events : List A) → times_in by key events ≡ 0 → sum_by (weight_for by key) events ≡ 0
  weighs_none key [] none = refl
  weighs_none key (event ∷ events) none =
      let parts = times_in-cons key event events in
      elim (cases_eq (by.key event) key) [
        | inl same ↦ absurd (omega (arith, none, parts, ap (λ t. cond {A = ℕ} t 1 0) (eq-eqb (by.key event) key same)))
        | inr differs ↦ omega (
          arith,
          sum_by-cons (weight_for by key) event events,
          ap (λ t. cond {A = ℕ} t (by.weight event) 0) (ne_eqb (by.key event) key differs),
          weighs_none key events (omega (arith, none, times_in-other key event events differs)),
        )
      ]

  pub window_le : (key : ℕ) (events : List A) (from to : ℕ) → weight_in by key events from to ≤ sum_by (weight_for by key) events
  window_le key events from to =
      let w : A → ℕ = weight_for by key in
      let late = drop from events in
      omega (
        arith,
        sum_by-append w (take (to - from) late) (drop (to - from) late),
        ap (sum_by w) (take-append-drop (to - from) late),
        sum_by-append w (take from events) late,
        ap (sum_by w) (take-append-drop from events),
      )

  pub occurs : (key : ℕ) (events : List A) (from to : ℕ) → 1 ≤ weight_in by key events from to → 1 ≤ times_in by key events
  occurs key events from to weighs =
      elim (cases_lt 0 (times_in by key events)) [
        | inl some ↦ some
        | inr none ↦ absurd (omega (arith, weighs, window_le key events from to, weighs_none key events (omega arith)))
      ]

  -- among the ordered keys each stands at most once, and one that occurs stands there
  pub times-mixed_order_le : (key : ℕ) (events : List A) → times key (mixed_in by events) ≤ 1
  times-mixed_order_le key [] = omega arith
  times-mixed_order_le key (event ∷ events) =
      elim (cases_eq (by.key event) key) [
        | inl same ↦ (
            let once = times-insert_same 0 key (mixed_in by events) (MixedFrom-mixed_order by events) (times-mixed_order_le key events) in
            let moved = ap (λ k. times key (insert_mixed k (mixed_in by events))) same in omega arith)
        | inr differs ↦ omega (arith, times-insert_other key (by.key event) (mixed_in by events) differs, times-mixed_order_le key events)
      ]

  pub times-mixed_order : (key : ℕ) (events : List A) → 1 ≤ times_in by key events → times key (mixed_in by events) ≡ 1
  times-mixed_order key [] occurs = absurd (omega arith)
  times-mixed_order key (event ∷ events) occurs =
      elim (cases_eq (by.key event) key) [
        | inl same ↦ ap (λ k. times key (insert_mixed k (mixed_in by events))) same
            ∙ times-insert_same 0 key (mixed_in by events) (MixedFrom-mixed_order by events) (times-mixed_order_le key events)
        | inr differs ↦ times-insert_other key (by.key event) (mixed_in by events) differs
            ∙ times-mixed_order key events (omega (arith, times_in-other key event events differs))
      ]

-- a window of keys has no more of a key than the whole list
pub count_le-times : (key : ℕ) (events : List ℕ) (from to : ℕ) → count key events from to ≤ times key events
count_le-times key events from to = window_le plain key events from to

-- a filter keeps all of a key or none
pub times-filter : (key : ℕ) (test : ℕ → Bool) (keys : List ℕ) → times key (filter test keys) ≡ cond (test key) (times key keys) 0
times-filter key test [] = grind (arith, nat_tests)
times-filter key test (other ∷ others) =
    let rest = times-filter key test others in
    elim (cases_eq other key) [
      | inl same ↦ (
          let one = times-cons_same key other others same in
          let kept = times-cons_same key other (filter test others) same in
          let tested = ap test same in
          elim (cases_Bool (test other)) [
            | inl passes ↦ (
                let here : filter test (other ∷ others) ≡ other ∷ filter test others = ap (λ t. cond t (other ∷ filter test others) (filter test others)) passes in
                ap (times key) here ∙ kept ∙ ap (λ n. 1 + n) rest
                ∙ ap (λ t. 1 + cond {A = ℕ} t (times key others) 0) (sym tested ∙ passes)
                ∙ sym one ∙ ap (λ t. cond {A = ℕ} t (times key (other ∷ others)) 0) (sym (sym tested ∙ passes)))
            | inr fails ↦ (
                let here : filter test (other ∷ others) ≡ filter test others = ap (λ t. cond t (other ∷ filter test others) (filter test others)) fails in
                ap (times key) here ∙ rest
                ∙ ap (λ t. cond {A = ℕ} t (times key others) 0) (sym tested ∙ fails)
                ∙ ap (λ t. cond {A = ℕ} t (times key (other ∷ others)) 0) (sym (sym tested ∙ fails)))
          ])
      | inr differs ↦ (
          let gone = times-cons_other key other others differs in
          elim (cases_Bool (test other)) [
            | inl passes ↦ (
                let here : filter test (other ∷ others) ≡ other ∷ filter test others = ap (λ t. cond t (other ∷ filter test others) (filter test others)) passes in
                ap (times key) here ∙ times-cons_other key other (filter test others) differs ∙ rest ∙ ap (λ n. cond {A = ℕ} (test key) n 0) (sym gone))
            | inr fails ↦ (
                let here : filter test (other ∷ others) ≡ filter test others = ap (λ t. cond t (other ∷ filter test others) (filter test others)) fails in
                ap (times key) here ∙ rest ∙ ap (λ n. cond {A = ℕ} (test key) n 0) (sym gone))
          ])
    ]

-- a report for each key
times_listed-map : (key at : ℕ) (keys : List ℕ) → times_listed key (map (λ k. record { key = k; at = at }) keys) ≡ times key keys
times_listed-map key at [] = refl
times_listed-map key at (other ∷ others) =
    sum_by-cons (λ (report : Report). cond {A = ℕ} (eqb report.key key) 1 0) (record { key = other; at = at }) (map (λ k. record { key = k; at = at }) others)
    ∙ ap (λ n. cond {A = ℕ} (eqb other key) 1 0 + n) (times_listed-map key at others)
    ∙ sym (times-cons key other others)

times_listed-append : (key : ℕ) (reports more : List Report) → times_listed key (reports ++ more) ≡ times_listed key reports + times_listed key more
times_listed-append key reports more = sum_by-append (λ (report : Report). cond (eqb report.key key) 1 0) reports more

one_or_more : (here : Bool) (n : ℕ) → (here || ltb 0 n) ≡ ltb 0 (cond {A = ℕ} here 1 0 + n)
one_or_more true n = sym (lt-ltb 0 (1 + n) (omega arith))
one_or_more false n = ap (ltb 0) (let same : n ≡ 0 + n = omega arith in same)

-- listed is reported at least once
pub is_listed-times : (key : ℕ) (reports : List Report) → is_listed key reports ≡ ltb 0 (times_listed key reports)
is_listed-times key [] = refl
is_listed-times key (report ∷ reports) =
    let rest = is_listed-times key reports in
    let parts = sum_by-cons (λ (listed : Report). cond {A = ℕ} (eqb listed.key key) 1 0) report reports in
    ap (λ b. eqb report.key key || b) rest ∙ one_or_more (eqb report.key key) (times_listed key reports) ∙ ap (ltb 0) (sym parts)

-- what a window adds to the reports of a key
pub times_listed-with_due : {A : Type 0} (by : Measure A) (threshold : ℕ) (events : List A) (from to : ℕ) (reports : List Report) (key : ℕ) →
    times_listed key (with_due_in by threshold events from to reports)
    ≡ times_listed key reports + cond (is_due_in by threshold events from to reports key) (times key (mixed_in by events)) 0
times_listed-with_due by threshold events from to reports key =
    let due = filter (is_due_in by threshold events from to reports) (mixed_in by events) in
    times_listed-append key reports (map (λ k. record { key = k; at = to }) due)
    ∙ ap (λ n. times_listed key reports + n) (times_listed-map key to due ∙ times-filter key (is_due_in by threshold events from to reports) (mixed_in by events))
