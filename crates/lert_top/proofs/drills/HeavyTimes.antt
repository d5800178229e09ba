-- Reports that are in time list the keys that weigh enough, each once.
use Rattle.std.proofs.{Common.{◌≡◌, ℕ, ◌+◌, ◌<◌, ◌≤◌, suc, cond, eqb, List, [], ◌∷◌, ◌++◌, length, refl, ap, sym, ◌∙◌, inl, inr, arith}, lemmas.Bool.{cases_lt, cases_eq}}
use Rattle.std.proofs.lemmas.List.Sums.{sum_by-append, sum_by-cons}
use Rattle.lert_spec.specs.{declared.report.Report.Report, Counts.{Measure, distinct, heavy, insert_key, plain, weight_in}, Timely.{IsTimelyIn, times_listed}}
use Rattle.lert_spec.proofs.{CountLaws.count-whole, ReportLaws.{times, times-cons_other, times-cons_same}}
use Rattle.lert_top.specs.drills.Print.{keys_of}
use Rattle.lert_top.proofs.cones.HeavyLaws.{heavy_all, insert_before, insert_behind, insert_same, light_never, times-distinct}

-- ascending keys, each once, from `low` on
abbrev pub RiseFrom : ℕ → List ℕ → Type 0
RiseFrom low [] = Unit {0}
RiseFrom low (key ∷ keys) = (low ≤ key) × RiseFrom (suc key) keys

RiseFrom-lower : (low high : ℕ) (keys : List ℕ) → low ≤ high → RiseFrom high keys → RiseFrom low keys
RiseFrom-lower low high [] below rise = tt
RiseFrom-lower low high (key ∷ keys) below rise = (omega (arith, below, rise.0), rise.1)

RiseFrom-insert : (low key : ℕ) (keys : List ℕ) → low ≤ key → RiseFrom low keys → RiseFrom low (insert_key key keys)
RiseFrom-insert low key [] above rise = (above, tt)
RiseFrom-insert low key (other ∷ others) above rise =
    elim (cases_lt key other) [
      | inl less ↦ rw (insert_before key other others less) (above, (less, rise.1))
      | inr more ↦ elim (cases_eq key other) [
        | inl same ↦ rw (insert_same key other others more same) rise
        | inr differs ↦ rw (insert_behind key other others more differs) (rise.0, RiseFrom-insert (suc other) key others (omega (arith, more, differs)) rise.1)
      ]
    ]

RiseFrom-distinct : (events : List ℕ) → RiseFrom 0 (distinct events)
RiseFrom-distinct [] = tt
RiseFrom-distinct (event ∷ events) = RiseFrom-insert 0 event (distinct events) (omega arith) (RiseFrom-distinct events)

times-below : (low key : ℕ) (keys : List ℕ) → key < low → RiseFrom low keys → times key keys ≡ 0
times-below low key [] less rise = refl
times-below low key (other ∷ others) less rise =
    times-cons_other key other others (λ same. absurd (omega (arith, same, less, rise.0))) ∙ times-below (suc other) key others (omega (arith, less, rise.0)) rise.1

times-rising : (low key : ℕ) (keys : List ℕ) → RiseFrom low keys → times key keys ≤ 1
times-rising low key [] rise = omega arith
times-rising low key (other ∷ others) rise =
    elim (cases_eq other key) [
      | inl same ↦ omega (arith, times-cons_same key other others same, times-below (suc other) key others (omega (arith, same)) rise.1)
      | inr differs ↦ omega (arith, times-cons_other key other others differs, times-rising (suc other) key others rise.1)
    ]

pub times-append : (key : ℕ) (xs ys : List ℕ) → times key (xs ++ ys) ≡ times key xs + times key ys
times-append key xs ys = sum_by-append (λ x. cond (eqb x key) 1 0) xs ys

module _ (threshold : ℕ) (least : 1 ≤ threshold) (events : List ℕ) (key : ℕ) where
  pub heavy_once : threshold ≤ times key events → times key (heavy threshold events) ≡ 1
  heavy_once many =
      omega (
        arith,
        heavy_all plain threshold events key (omega (arith, many, count-whole plain key events)),
        times-distinct plain key events (omega (arith, least, many)),
        times-rising 0 key (distinct events) (RiseFrom-distinct events),
      )

  pub heavy_never : times key events < threshold → times key (heavy threshold events) ≡ 0
  heavy_never few = light_never plain threshold events key (omega (arith, few, count-whole plain key events))

pub times_listed-keys : (key : ℕ) (reports : List Report) → times_listed key reports ≡ times key (keys_of reports)
times_listed-keys key [] = refl
times_listed-keys key (report ∷ reports) =
    sum_by-cons (λ (r : Report). cond {A = ℕ} (eqb r.key key) 1 0) report reports
    ∙ (ap (λ n. cond {A = ℕ} (eqb report.key key) 1 0 + n) (times_listed-keys key reports)
    ∙ sym (sum_by-cons (λ n. cond {A = ℕ} (eqb n key) 1 0) report.key (keys_of reports)))

-- reports that are in time for events list the heavy keys of any list in which each key stands as often as it weighs there
pub timely_times : {A : Type 0} (by : Measure A) (threshold bins : ℕ) (events : List A) (others : List ℕ) (reports : List Report) → 1 ≤ threshold →
    IsTimelyIn by threshold bins events reports → (key : ℕ) → weight_in by key events 0 (length events) ≡ times key others →
    times key (keys_of reports) ≡ times key (heavy threshold others)
timely_times by threshold bins events others reports least timely key same =
    elim (cases_lt (times key others) threshold) [
      | inl few ↦ omega (
        arith,
        times_listed-keys key reports,
        timely.light key (omega (arith, few, same)),
        heavy_never threshold least others key few,
      )
      | inr many ↦ omega (
        arith,
        times_listed-keys key reports,
        (timely.heavy key (omega (arith, many, same))).once,
        heavy_once threshold least others key many,
      )
    ]
