-- How the reports grow with one more event.
use Rattle.std.proofs.Common.{ℕ, ◌≡◌, ◌≢◌, ◌+◌, ◌-◌, ◌<◌, ◌≤◌, zero, suc, Bool, true, false, cond, eqb, leb, not, ◌&&◌, List, [], ◌∷◌, ◌++◌}
use Rattle.std.proofs.Common.{length, take, drop, map, filter, refl, ap, ap₂, sym, ◌∙◌, arith, inl, inr, subst, sum_by, length-append, length-drop, slice_range}
use Rattle.std.proofs.Math.Nat.{mul-div-le}
use Rattle.std.proofs.Math.Seq.{drop-append_seam}
use Rattle.std.proofs.lemmas.Bool.{cases_lt, cases_eq, cases_order, cases_Bool, eq-eqb, ne_eqb, false≢true, and_parts, leb-true}
use Rattle.std.proofs.lemmas.List.{take-append-le, drop-append-le}
use Rattle.std.proofs.lemmas.List.Sums.{sum_by-append, sum_by-cons}
use Rattle.lert_spec.specs.declared.numbers.Numbers.{Numbers}
use Rattle.lert_spec.specs.declared.report.Report.{Report}
use Rattle.lert_spec.specs.Counts.{Measure, plain, weight_for, weight_in}
use Rattle.lert_spec.specs.Edges.{key_limit, edge, offset, span, depth, lookback}
use Rattle.lert_spec.specs.Limits.{IsValid}
use Rattle.lert_spec.specs.Look.{insert_mixed, mixed_in, is_listed, is_due_in, with_due_in, look_up_to, look_of}
use Rattle.lert_spec.specs.Mix.{mix}
use Rattle.lert_spec.proofs.EdgeLaws.{deepest_is, lookback_within, edge_never_falls}
use Rattle.lert_spec.proofs.WindowLaws.{count_none, count_parts, count_never_falls}
use Rattle.lert_spec.proofs.TimeBound.{listed_then, not_due_if_listed}
use Rattle.lert_spec.proofs.MixLaws.{mix_is_one_to_one}
use Rattle.lert_spec.proofs.ReportLaws.{times, times-cons_same, times-cons_other, times-filter, times-below, times-mixed_order, times_in, times_in-cons, occurs, MixedFrom, MixedFrom-mixed_order}
use Rattle.lert_spec.proofs.ReportLaws.{insert_before}
use Rattle.lert_spec.proofs.ReportLaws.{insert_same, insert_behind}

-- each key has the bits of a key at most
abbrev pub HaveKeys : {A : Type 0} → Numbers → Measure A → List A → Type 0
HaveKeys s by [] = Unit {0}
HaveKeys s by (item ∷ items) = (by.key item < key_limit s) × HaveKeys s by items

abbrev pub AreKeys : Numbers → List ℕ → Type 0
AreKeys s keys = HaveKeys s plain keys

AreKeys-insert_mixed : (s : Numbers) (key : ℕ) (keys : List ℕ) → key < key_limit s → AreKeys s keys → AreKeys s (insert_mixed key keys)
AreKeys-insert_mixed s key [] below fit = (below, tt)
AreKeys-insert_mixed s key (other ∷ others) below fit =
    elim (cases_lt (mix key) (mix other)) [
      | inl less ↦ rw (insert_before key other others less) (below, fit)
      | inr more ↦ elim (cases_eq key other) [
        | inl same ↦ rw (insert_same key other others more same) fit
        | inr differs ↦ rw (insert_behind key other others more differs) (fit.0, AreKeys-insert_mixed s key others below fit.1)
      ]
    ]

pub AreKeys-mixed_order : {A : Type 0} (s : Numbers) (by : Measure A) (events : List A) → HaveKeys s by events → AreKeys s (mixed_in by events)
AreKeys-mixed_order s by [] fit = tt
AreKeys-mixed_order s by (event ∷ events) fit = AreKeys-insert_mixed s (by.key event) (mixed_in by events) fit.0 (AreKeys-mixed_order s by events fit.1)

pub HaveKeys-append : {A : Type 0} (s : Numbers) (by : Measure A) (events others : List A) → HaveKeys s by events → HaveKeys s by others → HaveKeys s by (events ++ others)
HaveKeys-append s by [] others fit more = more
HaveKeys-append s by (event ∷ events) others fit more = (fit.0, HaveKeys-append s by events others fit.1 more)

kept_or_not : (test : ℕ → Bool) (key : ℕ) (keys : List ℕ) (P : List ℕ → Type 0) → P (key ∷ filter test keys) → P (filter test keys) → P (filter test (key ∷ keys))
kept_or_not test key keys P kept dropped =
    elim (cases_Bool (test key)) [
      | inl passes ↦ subst P (sym (ap (λ t. cond t (key ∷ filter test keys) (filter test keys)) passes)) kept
      | inr fails ↦ subst P (sym (ap (λ t. cond t (key ∷ filter test keys) (filter test keys)) fails)) dropped
    ]

pub AreKeys-filter : (s : Numbers) (test : ℕ → Bool) (keys : List ℕ) → AreKeys s keys → AreKeys s (filter test keys)
AreKeys-filter s test [] fit = tt
AreKeys-filter s test (key ∷ keys) fit =
    let rest = AreKeys-filter s test keys fit.1 in kept_or_not test key keys (AreKeys s) (fit.0, rest) rest

pub MixedFrom-lower : (low high : ℕ) (keys : List ℕ) → low ≤ high → MixedFrom high keys → MixedFrom low keys
MixedFrom-lower low high [] below ordered = tt
MixedFrom-lower low high (key ∷ keys) below ordered = (omega (arith, ordered.0), ordered.1)

pub MixedFrom-filter : (test : ℕ → Bool) (low : ℕ) (keys : List ℕ) → MixedFrom low keys → MixedFrom low (filter test keys)
MixedFrom-filter test low [] ordered = tt
MixedFrom-filter test low (key ∷ keys) ordered =
    let rest = MixedFrom-filter test (mix key) keys ordered.1 in
    kept_or_not test key keys (MixedFrom low) (ordered.0, rest) (MixedFrom-lower low (mix key) (filter test keys) ordered.0 rest)

-- keys in order of their mixed values are one list where each stands as often in both
pub one_order : (s : Numbers) (low : ℕ) (keys others : List ℕ) → MixedFrom low keys → MixedFrom low others → AreKeys s keys → AreKeys s others →
    ((key : ℕ) → times key keys ≡ times key others) → keys ≡ others
one_order s low [] [] ordered other_ordered fit other_fit same = refl
one_order s low [] (other ∷ others) ordered other_ordered fit other_fit same =
    absurd (omega (arith, same other, times-cons_same other other others refl))
one_order s low (key ∷ keys) [] ordered other_ordered fit other_fit same =
    absurd (omega (arith, same key, times-cons_same key key keys refl))
one_order s low (key ∷ keys) (other ∷ others) ordered other_ordered fit other_fit same =
    let here = times-cons_same key key keys refl in
    let there = times-cons_same other other others refl in
    elim (cases_order (mix key) (mix other)) [
      | inl equal ↦ (
          let first = mix_is_one_to_one key other fit.0 other_fit.0 equal in
          let rest : (k : ℕ) → times k keys ≡ times k others = λ k. elim (cases_eq key k) [
            | inl found ↦ omega (arith, same k, times-cons_same k key keys found, times-cons_same k other others (sym first ∙ found))
            | inr differs ↦ omega (arith, same k, times-cons_other k key keys differs, times-cons_other k other others (λ e. differs (first ∙ e)))
          ] in
          ap₂ (λ x xs. x ∷ xs) first
          (one_order s (mix key) keys others ordered.1 (MixedFrom-lower (mix key) (mix other) others (omega (arith, equal)) other_ordered.1) fit.1 other_fit.1 rest))
      | inr (inl less) ↦ absurd (omega (arith, same key, here, times-below (mix other) key (other ∷ others) less (omega arith, other_ordered.1)))
      | inr (inr more) ↦ absurd (omega (arith, same other, there, times-below (mix key) other (key ∷ keys) more (omega arith, ordered.1)))
    ]

-- a window of the earlier events doesn't see the later ones
pub slice_range-append : {A : Type 0} (events others : List A) (from to : ℕ) → to ≤ length events → slice_range (events ++ others) from to ≡ slice_range events from to
slice_range-append events others from to within =
    elim (cases_lt from to) [
      | inl some ↦ (
          let early : from ≤ length events = omega arith in
          let dropped = drop-append-le from events others early in
          ap (take (to - from)) dropped ∙ take-append-le (to - from) (drop from events) others (omega (arith, length-drop from events)))
      | inr none ↦ (
          let nothing : to - from ≡ 0 = omega arith in
          ap (λ n. take n (drop from (events ++ others))) nothing ∙ ap (λ n. take n (drop from events)) (sym nothing))
    ]

module _ {A : Type 0} (by : Measure A) where
  count-append : (key : ℕ) (events others : List A) (from to : ℕ) → to ≤ length events → weight_in by key (events ++ others) from to ≡ weight_in by key events from to
  count-append key events others from to within = ap (sum_by (weight_for by key)) (slice_range-append events others from to within)

  times-append : (key : ℕ) (events others : List A) → times_in by key (events ++ others) ≡ times_in by key events + times_in by key others
  times-append key events others = sum_by-append (λ item. cond {A = ℕ} (eqb (by.key item) key) 1 0) events others

  is_due-append : (threshold : ℕ) (events others : List A) (from to : ℕ) (reports : List Report) (key : ℕ) → to ≤ length events →
      is_due_in by threshold (events ++ others) from to reports key ≡ is_due_in by threshold events from to reports key
  is_due-append threshold events others from to reports key within =
      ap (λ n. leb threshold n && not (is_listed key reports)) (count-append key events others from to within)

  -- a due key occurs
  pub due_occurs : (threshold : ℕ) (events : List A) (from to : ℕ) (reports : List Report) (key : ℕ) → 1 ≤ threshold → is_due_in by threshold events from to reports key ≡ true →
      1 ≤ times_in by key events
  due_occurs threshold events from to reports key positive due =
      let parts = and_parts (leb threshold (weight_in by key events from to)) (not (is_listed key reports)) due in
      occurs by key events from to (omega (arith, positive, leb-true threshold (weight_in by key events from to) parts.0))

  -- the due keys of a window of the earlier events are the same with later ones behind them
  due_keys-append : (s : Numbers) (threshold : ℕ) (events others : List A) (from to : ℕ) (reports : List Report) → 1 ≤ threshold → HaveKeys s by events → HaveKeys s by others → to ≤ length events →
      filter (is_due_in by threshold (events ++ others) from to reports) (mixed_in by (events ++ others)) ≡ filter (is_due_in by threshold events from to reports) (mixed_in by events)
  due_keys-append s threshold events others from to reports positive fit more within =
      let all = events ++ others in
      let before : ℕ → Bool = is_due_in by threshold events from to reports in
      let after : ℕ → Bool = is_due_in by threshold all from to reports in
      one_order s 0 (filter after (mixed_in by all)) (filter before (mixed_in by events))
      (MixedFrom-filter after 0 (mixed_in by all) (MixedFrom-mixed_order by all))
      (MixedFrom-filter before 0 (mixed_in by events) (MixedFrom-mixed_order by events))
      (AreKeys-filter s after (mixed_in by all) (AreKeys-mixed_order s by all (HaveKeys-append s by events others fit more)))
      (AreKeys-filter s before (mixed_in by events) (AreKeys-mixed_order s by events fit))
      (λ key. elim (cases_Bool (before key)) [
        | inl due ↦ (
            let occurs = due_occurs threshold events from to reports key positive due in
            let still = is_due-append threshold events others from to reports key within ∙ due in
            times-filter key after (mixed_in by all)
            ∙ ap (λ t. cond {A = ℕ} t (times key (mixed_in by all)) 0) still
            ∙ times-mixed_order by key all (omega (arith, times-append key events others))
            ∙ sym (times-mixed_order by key events occurs)
            ∙ ap (λ t. cond {A = ℕ} t (times key (mixed_in by events)) 0) (sym due)
            ∙ sym (times-filter key before (mixed_in by events)))
        | inr not_due ↦ (
            let still = is_due-append threshold events others from to reports key within ∙ not_due in
            times-filter key after (mixed_in by all)
            ∙ ap (λ t. cond {A = ℕ} t (times key (mixed_in by all)) 0) still
            ∙ ap (λ t. cond {A = ℕ} t (times key (mixed_in by events)) 0) (sym not_due)
            ∙ sym (times-filter key before (mixed_in by events)))
      ])

  -- later events change no report made before them
  pub look_to-append : (s : Numbers) (events others : List A) (m : ℕ) → 1 ≤ s.threshold → HaveKeys s by events → HaveKeys s by others → m ≤ length events →
      look_up_to by s (events ++ others) m ≡ look_up_to by s events m
  look_to-append s events others zero positive fit more within = refl
  look_to-append s events others (suc m) positive fit more within =
      let before = look_to-append s events others m positive fit more (omega arith) in
      ap (with_due_in by s.threshold (events ++ others) (lookback s (suc m)) (suc m)) before
      ∙ ap (λ keys. look_up_to by s events m ++ map (λ key. record { key = key; at = suc m }) keys)
      (due_keys-append s s.threshold events others (lookback s (suc m)) (suc m) (look_up_to by s events m) positive fit more within)

  -- one more event adds the reports of its own window
  pub look-push : (s : Numbers) (events : List A) (event : A) → 1 ≤ s.threshold → HaveKeys s by events → by.key event < key_limit s →
      look_of by s (events ++ event ∷ []) ≡ with_due_in by s.threshold (events ++ event ∷ []) (lookback s (suc (length events))) (suc (length events)) (look_of by s events)
  look-push s events event positive fit below =
      let longer : length (events ++ event ∷ []) ≡ suc (length events) = omega (arith, length-append events (event ∷ [])) in
      ap (look_up_to by s (events ++ event ∷ [])) longer
      ∙ ap (with_due_in by s.threshold (events ++ event ∷ []) (lookback s (suc (length events))) (suc (length events)))
      (look_to-append s events (event ∷ []) (length events) positive fit (below, tt) (omega arith))

  -- a key's count in a window that one event of another key ends
  count-push_other : (key : ℕ) (events : List A) (event : A) (from : ℕ) → by.key event ≢ key → from ≤ length events →
      weight_in by key (events ++ event ∷ []) from (suc (length events)) ≡ weight_in by key events from (length events)
  count-push_other key events event from differs early =
      let all = events ++ event ∷ [] in
      let n = length events in
      let before = count_parts by key events from n early in
      let after = count_parts by key all from (suc n) (omega arith) in
      let same_start = count-append key events (event ∷ []) 0 from early in
      let last = count_parts by key all n (suc n) (omega arith) in
      let same_front = count-append key events (event ∷ []) 0 n (omega arith) in
      let width : suc n - n ≡ 1 = omega arith in
      let alone = ap₂ (λ w xs. sum_by (weight_for by key) (take w xs)) width (drop-append_seam events (event ∷ []))
      ∙ (sum_by-cons (weight_for by key) event [] ∙ ap (λ t. cond {A = ℕ} t (by.weight event) 0 + 0) (ne_eqb (by.key event) key differs)) in
      omega arith

-- where the edge of level 0 stays, the flush has no depth
depth_none : (s : Numbers) (m : ℕ) → IsValid s → edge s 0 m ≡ edge s 0 (m - 1) → depth s m ≡ 0
depth_none s m valid stays =
    deepest_is s (omega (arith, valid.limits.base_from)) (omega (arith, valid.limits.ratio_from)) s.levels 0 m (omega arith)
    (λ level below. absurd (omega arith)) (λ _. stays)

module _ {A : Type 0} (by : Measure A) where
  -- between two flushes no key but the new one can be due
  only_the_new : (s : Numbers) (events : List A) (event : A) (key : ℕ) → IsValid s → by.key event ≢ key →
      is_due_in by s.threshold (events ++ event ∷ []) (edge s 0 (length events)) (suc (length events)) (look_of by s events) key ≡ false
  only_the_new s events event key valid differs =
      let n = length events in
      let from = edge s 0 n in
      let all = events ++ event ∷ [] in
      elim (cases_Bool (is_due_in by s.threshold all from (suc n) (look_of by s events) key)) [
        | inr not_due ↦ not_due
        | inl due ↦ (
            let parts = and_parts (leb s.threshold (weight_in by key all from (suc n))) (not (is_listed key (look_of by s events))) due in
            let base : 1 ≤ s.base = omega (arith, valid.limits.base_from) in
            let ratio : 1 ≤ s.ratio = omega (arith, valid.limits.ratio_from) in
            let early : from ≤ n = omega (arith, mul-div-le (n - offset s 0) (span s 0)) in
            let enough = leb-true s.threshold (weight_in by key all from (suc n)) parts.0 in
            let kept = count-push_other by key events event from differs early in
            let wide = count_parts by key events from n early in
            let back : lookback s n ≤ from = omega (arith, lookback_within s base ratio 0 n (omega arith), edge_never_falls s base ratio 0 (n - 1) n (omega arith)) in
            let wider = count_parts by key events (lookback s n) n (omega arith) in
            let fewer = count_never_falls by key events (lookback s n) from back in
            let some : 1 ≤ n = elim (cases_lt 0 n) [
              | inl more ↦ more
              | inr none ↦ (let empty : n ≡ 0 = omega arith in
                  let nothing = ap (weight_in by key events 0) empty in
                  absurd (omega (arith, valid.limits.threshold_from, count_none by key events)))
            ] in
            let listed = listed_then by s valid events key n some (omega arith) in
            absurd (false≢true (sym (not_due_if_listed by s.threshold all from (suc n) (look_of by s events) key (omega (arith, listed))) ∙ due)))
      ]

-- the new key alone, or none
new_alone : (here : Bool) (event key : ℕ) → event ≢ key → times key (cond here (event ∷ []) []) ≡ 0
new_alone true event key differs = times-cons_other key event [] differs
new_alone false event key differs = refl

new_there : (here : Bool) (event : ℕ) → times event (cond here (event ∷ []) []) ≡ cond {A = ℕ} here 1 0
new_there true event = times-cons_same event event [] refl
new_there false event = refl

-- a test that only one key of the order can pass keeps that key or none
only_one : {A : Type 0} (s : Numbers) (by : Measure A) (test : ℕ → Bool) (events : List A) (event : ℕ) → HaveKeys s by events → event < key_limit s → 1 ≤ times_in by event events →
    ((key : ℕ) → event ≢ key → test key ≡ false) →
    filter test (mixed_in by events) ≡ cond (test event) (event ∷ []) []
only_one s by test events event fit below occurs others =
    one_order s 0 (filter test (mixed_in by events)) (cond (test event) (event ∷ []) [])
    (MixedFrom-filter test 0 (mixed_in by events) (MixedFrom-mixed_order by events))
    (single (test event))
    (AreKeys-filter s test (mixed_in by events) (AreKeys-mixed_order s by events fit))
    (single_fits (test event))
    (λ key. times-filter key test (mixed_in by events) ∙ elim (cases_eq event key) [
      | inl same ↦ (
          let here = new_there (test event) event in
          let one = times-mixed_order by event events occurs in
          subst (λ k. cond {A = ℕ} (test k) (times k (mixed_in by events)) 0 ≡ times k (cond (test event) (event ∷ []) [])) same
          (ap (λ n. cond {A = ℕ} (test event) n 0) one ∙ sym here))
      | inr differs ↦ ap (λ t. cond {A = ℕ} t (times key (mixed_in by events)) 0) (others key differs) ∙ sym (new_alone (test event) event key differs)
    ])
  where
    single : (here : Bool) → MixedFrom 0 (cond here (event ∷ []) [])
    single true = (omega arith, tt)
    single false = tt

    single_fits : (here : Bool) → AreKeys s (cond here (event ∷ []) [])
    single_fits true = (below, tt)
    single_fits false = tt

map_one : (here : Bool) (event at : ℕ) → map (λ key. record { key = key; at = at }) (cond here (event ∷ []) []) ≡ cond {A = List Report} here (record { key = event; at = at } ∷ []) []
map_one true event at = refl
map_one false event at = refl

module _ {A : Type 0} (by : Measure A) where
  -- between two flushes one more event adds at most its own report
  pub look-push_between : (s : Numbers) (events : List A) (event : A) → IsValid s → HaveKeys s by events → by.key event < key_limit s → edge s 0 (suc (length events)) ≡ edge s 0 (length events) →
      look_of by s (events ++ event ∷ [])
      ≡ look_of by s events
      ++ cond {A = List Report} (is_due_in by s.threshold (events ++ event ∷ []) (edge s 0 (length events)) (suc (length events)) (look_of by s events) (by.key event))
      (record { key = by.key event; at = suc (length events) } ∷ []) []
  look-push_between s events event valid fit below stays =
      let n = length events in
      let all = events ++ event ∷ [] in
      let same : suc n - 1 ≡ n = omega arith in
      let shallow = depth_none s (suc n) valid (stays ∙ ap (edge s 0) (sym same)) in
      let back : lookback s (suc n) ≡ edge s 0 n = ap₂ (edge s) shallow same in
      let parts = times-append by (by.key event) events (event ∷ []) in
      let alone = times_in-cons by (by.key event) event [] ∙ ap (λ t. cond {A = ℕ} t 1 0 + 0) (eq-eqb (by.key event) (by.key event) refl) in
      look-push by s events event valid.limits.threshold_from fit below
      ∙ ap (λ from. with_due_in by s.threshold all from (suc n) (look_of by s events)) back
      ∙ ap (λ keys. look_of by s events ++ map (λ key. record { key = key; at = suc n }) keys)
      (only_one s by (is_due_in by s.threshold all (edge s 0 n) (suc n) (look_of by s events)) all (by.key event) (HaveKeys-append s by events (event ∷ []) fit (below, tt)) below (omega arith)
      (λ key differs. only_the_new by s events event key valid differs))
      ∙ ap (λ more. look_of by s events ++ more) (map_one (is_due_in by s.threshold all (edge s 0 n) (suc n) (look_of by s events) (by.key event)) (by.key event) (suc n))
