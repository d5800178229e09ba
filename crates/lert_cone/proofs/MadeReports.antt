-- The reports of a cone as they are made, of which earlier ones begin later ones.
use Rattle.std.proofs.Common.{ℕ, zero, suc, ◌≡◌, ◌≢◌, ◌+◌, ◌<◌, ◌≤◌, Bool, cond, eqb, List, [], ◌∷◌, ◌++◌, length, take, drop, get_or, map, filter, All, refl, ap, sym, ◌∙◌, arith, inl, inr}
use Rattle.std.proofs.{Common.{subst, length-append, append_assoc}, lemmas.Bool.{cases_lt, cases_eq, cases_Bool, eq-eqb}}
use Rattle.std.proofs.{lemmas.List.{append-nil, length-map, length-take, take-append-le, take-append-drop, get_or-map}, lemmas.List.Elements.{All-nil, All-cons, All-append, All-map, All-weaker}}
use Rattle.std.proofs.lemmas.List.Sums.{sum_by-cons}
use Rattle.std.specs.{Prelude.count_by, List.AllPairs, List.Sorted.IsNonDecreasing}
use Rattle.lert_spec.specs.{declared.numbers.Numbers.Numbers, declared.report.Report.Report, Counts.{weighed, weight_in}, declared.item.Item.Item, Limits.IsValid}
use Rattle.lert_spec.specs.Edges.{key_limit, capacity, lookback}
use Rattle.lert_spec.specs.{Look.{insert_mixed, mixed_in, is_due_in, with_due_in, look_up_to, look_of, closing_of}, Mix.{mix, cone_of}, Timely.times_listed}
use Rattle.lert_spec.proofs.{LookLaws.{AreKeys, HaveKeys, AreKeys-mixed_order, AreKeys-filter, look_to-append}, ReportLaws.{insert_before, insert_same, insert_behind}}
use Rattle.lert_spec.proofs.{TailLaws.{AreOfCone, IsPartOf, HaveKeys-take, HaveKeys-drop}, TimeBound.{timely_closing, timely_so_far}}
use Rattle.lert_cone.specs.Framed.{last_flush, flushed}
use Rattle.lert_cone.proofs.FlushLaws.{last_flush_within}

-- ---- counted by places

pub count_map : {A B : Type 0} (f : A → B) (p : B → Bool) (xs : List A) → count_by p (map f xs) ≡ count_by (λ x. p (f x)) xs
count_map f p [] = refl
count_map f p (x ∷ xs) =
    sum_by-cons (λ y. cond {A = ℕ} (p y) 1 0) (f x) (map f xs)
    ∙ ap (λ n. cond {A = ℕ} (p (f x)) 1 0 + n) (count_map f p xs)
    ∙ sym (sum_by-cons (λ y. cond {A = ℕ} (p (f y)) 1 0) x xs)

counted_there : {A : Type 0} (key : A → ℕ) (xs : List A) (j : ℕ) (d : A) → j < length xs → 1 ≤ count_by (λ x. eqb (key x) (key (get_or xs j d))) xs
counted_there key [] j d below = absurd (omega arith)
counted_there key (x ∷ xs) zero d below =
    let parts = sum_by-cons (λ y. cond {A = ℕ} (eqb (key y) (key x)) 1 0) x xs in
    let here = ap (λ t. cond {A = ℕ} t 1 0) (eq-eqb (key x) (key x) refl) in
    omega (arith, parts, here)
counted_there key (x ∷ xs) (suc j) d below =
    let parts = sum_by-cons (λ y. cond {A = ℕ} (eqb (key y) (key (get_or xs j d))) 1 0) x xs in
    omega (arith, parts, counted_there key xs j d (omega (arith, below)))

-- keys that each stand at most once differ
pub apart : {A : Type 0} (key : A → ℕ) (xs : List A) → ((k : ℕ) → count_by (λ x. eqb (key x) k) xs ≤ 1) → AllPairs (λ one other. key one ≢ key other) xs
apart key [] few i j d less within same = omega arith
apart key (x ∷ xs) few zero zero d less within same = omega arith
apart key (x ∷ xs) few zero (suc j) d less within same =
    let k = key x in
    let parts = sum_by-cons (λ y. cond {A = ℕ} (eqb (key y) k) 1 0) x xs in
    let here = ap (λ t. cond {A = ℕ} t 1 0) (eq-eqb k k refl) in
    let there : 1 ≤ count_by (λ y. eqb (key y) k) xs = subst (λ n. 1 ≤ count_by (λ y. eqb (key y) n) xs) (sym same) (counted_there key xs j d (omega (arith, within))) in
    omega (arith, few k, parts, here, there)
apart key (x ∷ xs) few (suc i) zero d less within same = omega arith
apart key (x ∷ xs) few (suc i) (suc j) d less within same =
    apart key xs (λ k. omega (arith, few k, sum_by-cons (λ y. cond {A = ℕ} (eqb (key y) k) 1 0) x xs)) i j d (omega (arith, less)) (omega (arith, within)) same

-- ---- what holds of the reports that are made

-- a report of this cone's keys, at one of the first n positions
pub record IsReport (s : Numbers) (cone n : ℕ) (report : Report) : Type 0 where
  pub fits : report.key < key_limit s
  pub own : cone_of s report.key ≡ cone
  pub from : 1 ≤ report.at
  pub to : report.at ≤ n

-- such reports, in the order of their positions, and of a key each
pub record AreReports (s : Numbers) (cone n : ℕ) (reports : List Report) : Type 0 where
  pub each : All (IsReport s cone n) reports
  pub ascending : AllPairs (λ one other. one.at ≤ other.at) reports
  pub distinct : AllPairs (λ one other. one.key ≢ other.key) reports

module _ (s : Numbers) (cone : ℕ) where
  own_insert : (key : ℕ) (keys : List ℕ) → cone_of s key ≡ cone → AreOfCone s cone keys → AreOfCone s cone (insert_mixed key keys)
  own_insert key [] here own = (here, tt)
  own_insert key (other ∷ others) here own =
      elim (cases_lt (mix key) (mix other)) [
        | inl less ↦ rw (insert_before key other others less) (here, own)
        | inr more ↦ elim (cases_eq key other) [
          | inl same ↦ rw (insert_same key other others more same) own
          | inr differs ↦ rw (insert_behind key other others more differs) (own.0, own_insert key others here own.1)
        ]
      ]

  own_mixed : (events : List Item) → IsPartOf weighed s cone events → AreOfCone s cone (mixed_in weighed events)
  own_mixed [] own = tt
  own_mixed (event ∷ events) own = own_insert event.key (mixed_in weighed events) own.0 (own_mixed events own.1)

  own_filter : (test : ℕ → Bool) (keys : List ℕ) → AreOfCone s cone keys → AreOfCone s cone (filter test keys)
  own_filter test [] own = tt
  own_filter test (key ∷ keys) own =
      let rest = own_filter test keys own.1 in
      elim (cases_Bool (test key)) [
        | inl passes ↦ subst (AreOfCone s cone) (sym (ap (λ t. cond t (key ∷ filter test keys) (filter test keys)) passes)) (own.0, rest)
        | inr fails ↦ subst (AreOfCone s cone) (sym (ap (λ t. cond t (key ∷ filter test keys) (filter test keys)) fails)) rest
      ]

  keys_each : (at : ℕ) (keys : List ℕ) → 1 ≤ at → AreKeys s keys → AreOfCone s cone keys → All (λ key. IsReport s cone at (record { key = key; at = at })) keys
  keys_each at [] from fit own = All-nil (λ (key : ℕ). IsReport s cone at (record { key = key; at = at }))
  keys_each at (key ∷ keys) from fit own =
      All-cons (λ (k : ℕ). IsReport s cone at (record { key = k; at = at })) key keys
      (record { fits = fit.0; own = own.0; from = from; to = omega arith })
      (keys_each at keys from fit.1 own.1)

  -- those that a window adds, behind earlier ones
  due_each : (threshold from to n : ℕ) (events : List Item) (reports : List Report) → n ≤ to → 1 ≤ to → HaveKeys s weighed events → IsPartOf weighed s cone events →
      All (IsReport s cone n) reports →
      All (IsReport s cone to) (with_due_in weighed threshold events from to reports)
  due_each threshold from to n events reports later some fit own are =
      let test : ℕ → Bool = is_due_in weighed threshold events from to reports in
      let due = filter test (mixed_in weighed events) in
      All-append (IsReport s cone to) reports (map (λ key. record { key = key; at = to }) due)
      (All-weaker (IsReport s cone n) (IsReport s cone to) (λ report is. record { fits = is.fits; own = is.own; from = is.from; to = omega (arith, is.to, later) }) reports are)
      (All-map (IsReport s cone to) (λ (key : ℕ). record { key = key; at = to }) due
      (keys_each to due some (AreKeys-filter s test (mixed_in weighed events) (AreKeys-mixed_order s weighed events fit)) (own_filter test (mixed_in weighed events) (own_mixed events own))))

  look_each : (events : List Item) (m : ℕ) → HaveKeys s weighed events → IsPartOf weighed s cone events → All (IsReport s cone m) (look_up_to weighed s events m)
  look_each events zero fit own = All-nil (IsReport s cone 0)
  look_each events (suc m) fit own = due_each s.threshold (lookback s (suc m)) (suc m) m events (look_up_to weighed s events m) (omega arith) (omega arith) fit own (look_each events m fit own)

  closing_each : (events : List Item) → HaveKeys s weighed events → IsPartOf weighed s cone events → All (IsReport s cone (length events)) (closing_of weighed s events)
  closing_each [] fit own = All-nil (IsReport s cone 0)
  closing_each (event ∷ events) fit own =
      let all = event ∷ events in
      due_each s.threshold 0 (length all) (length all) all (look_of weighed s all) (omega arith) (omega arith) fit own (look_each all (length all) fit own)

ascend : (reports : List Report) → IsNonDecreasing (map (λ report. report.at) reports) → AllPairs (λ one other. one.at ≤ other.at) reports
ascend reports order i j d less within =
    let at : Report → ℕ = λ report. report.at in
    omega (
      arith,
      order i j (at d) (omega (arith, less)) (omega (arith, length-map reports at, within)),
      get_or-map at reports i d (at d) (omega (arith, less, within)),
      get_or-map at reports j d (at d) within,
    )

module _ (s : Numbers) (events : List Item) (valid : IsValid s) (fits : length events ≤ capacity s) where
  look_once : (key : ℕ) → times_listed key (look_of weighed s events) ≤ 1
  look_once key =
      let timely = timely_so_far weighed s events valid fits in
      elim (cases_lt (weight_in weighed key events 0 (length events)) s.threshold) [
        | inl light ↦ omega (arith, timely.light key light)
        | inr heavy ↦ elim (timely.heavy key heavy) [
          | inl reported ↦ omega (arith, reported.once)
          | inr missing ↦ omega (arith, missing.missing)
        ]
      ]

  closing_once : (key : ℕ) → times_listed key (closing_of weighed s events) ≤ 1
  closing_once key =
      let timely = timely_closing weighed s events valid fits in
      elim (cases_lt (weight_in weighed key events 0 (length events)) s.threshold) [
        | inl light ↦ omega (arith, timely.light key light)
        | inr heavy ↦ omega (arith, (timely.heavy key heavy).once)
      ]

  module _ (cone : ℕ) (keys : HaveKeys s weighed events) (own : IsPartOf weighed s cone events) where
    pub look_are : AreReports s cone (length events) (look_of weighed s events)
    look_are = record {
      each = look_each s cone events (length events) keys own;
      ascending = ascend (look_of weighed s events) (timely_so_far weighed s events valid fits).in_order;
      distinct = apart (λ (report : Report). report.key) (look_of weighed s events) look_once;
    }

    pub closing_are : AreReports s cone (length events) (closing_of weighed s events)
    closing_are = record {
      each = closing_each s cone events keys own;
      ascending = ascend (closing_of weighed s events) (timely_closing weighed s events valid fits).in_order;
      distinct = apart (λ (report : Report). report.key) (closing_of weighed s events) closing_once;
    }

-- ---- earlier reports begin later ones

pub record BeginsWith (front reports : List Report) : Type 0 where
  pub more : List Report
  pub is : reports ≡ front ++ more

pub look_begins : (s : Numbers) (events : List Item) (a n : ℕ) → a ≤ n → BeginsWith (look_up_to weighed s events a) (look_up_to weighed s events n)
look_begins s events a zero early =
    let none : a ≡ 0 = omega arith in
    subst (λ k. BeginsWith (look_up_to weighed s events k) (look_up_to weighed s events 0)) (sym none) (record { more = []; is = refl })
look_begins s events a (suc n) early =
    elim (cases_lt a (suc n)) [
      | inl before ↦ (
          let begun = look_begins s events a n (omega arith) in
          let due = map (λ key. record { key = key; at = suc n }) (filter (is_due_in weighed s.threshold events (lookback s (suc n)) (suc n) (look_up_to weighed s events n)) (mixed_in weighed
          events)) in
          record { more = begun.more ++ due; is = ap (λ reports. reports ++ due) begun.is ∙ append_assoc (look_up_to weighed s events a) begun.more due })
      | inr now ↦ (
          let here : a ≡ suc n = omega arith in
          record { more = []; is = ap (look_up_to weighed s events) (sym here) ∙ sym (append-nil (look_up_to weighed s events a)) })
    ]

-- reports of the first events are the first reports
pub look_first : (s : Numbers) (events : List Item) (n : ℕ) → 1 ≤ s.threshold → HaveKeys s weighed events → n ≤ length events → look_of weighed s (take n events) ≡ look_up_to weighed s events n
look_first s events n positive keys within =
    let first = take n events in
    let long : length first ≡ n = length-take n events ∙ omega (arith, within) in
    ap (look_up_to weighed s first) long
    ∙ sym (look_to-append weighed s first (drop n events) n positive (HaveKeys-take s weighed n events keys) (HaveKeys-drop s weighed n events keys) (omega (arith, long)))
    ∙ ap (λ xs. look_up_to weighed s xs n) (take-append-drop n events)

-- what the log lists begins the reports that are made later
pub flushed_begin : (s : Numbers) (events more : List Item) → 1 ≤ s.threshold → HaveKeys s weighed (events ++ more) → BeginsWith (look_of weighed s (flushed s events)) (look_of weighed s
    (events ++ more))
flushed_begin s events more positive keys =
    let all = events ++ more in
    let last = last_flush s (length events) in
    let within = last_flush_within s (length events) in
    let long = length-append events more in
    let first : look_of weighed s (flushed s events) ≡ look_up_to weighed s all last =
    ap (look_of weighed s) (sym (take-append-le last events more within)) ∙ look_first s all last positive keys (omega (arith, within, long)) in
    subst (λ reports. BeginsWith reports (look_of weighed s all)) (sym first) (look_begins s all last (length all) (omega (arith, within, long)))

pub closing_begins : (s : Numbers) (events : List Item) (reports : List Report) → BeginsWith reports (look_of weighed s events) → BeginsWith reports (closing_of weighed s events)
closing_begins s events reports begun =
    let due = map (λ key. record { key = key; at = length events }) (filter (is_due_in weighed s.threshold events 0 (length events) (look_of weighed s events)) (mixed_in weighed events)) in
    record { more = begun.more ++ due; is = ap (λ rs. rs ++ due) begun.is ∙ append_assoc reports begun.more due }
