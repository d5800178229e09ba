-- Where a payload first leaves the format of a log: by its fields, or at a key that was listed before.
use Rattle.std.proofs.{Common.{ℕ, ◌≡◌, ◌+◌, ◌-◌, ◌*◌, ◌/◌, ◌<◌, ◌≤◌, false, Some, List, ◌++◌, length, map, ap, ap₂, sym, ◌∙◌, subst, arith, inl, inr, ◌⊎◌}, lemmas.Bool.{cases_lt, true≢false}}
use Rattle.std.specs.List.{range_with_len}
use Rattle.lert_spec.specs.{declared.numbers.Numbers.Numbers, declared.report.Report.Report, Look.is_listed}
use Rattle.lert_reports.specs.{declared.log.LogBefore.LogBefore, Log.{before_of, listed_in, IsRepeatedAt, PayloadLeavesAt}}
use Rattle.lert_reports.specs.LogText.{LogRecord, log_left, number_in, n0_in, report_in, report_place, reports_in, reports_place}
use Rattle.lert_files.specs.Repeated.{reports_from, IsListedThere, AreNewThere}
use Rattle.lert_files.proofs.LeftLaws.{some_place, ReportsBefore, HasKey, reports_before}

module _ (s : Numbers) (payload : List ℕ) (start : ℕ) (start_is : start ≡ reports_place s (n0_in payload) + 4) where
  -- ---- a key that was listed before, by the places of reports

  place_there : (k : ℕ) → report_place s payload k ≡ start + 16 * k
  place_there k = ap (λ st. st + 16 * k) (sym start_is)

  reports_there : (k : ℕ) → map (λ earlier. report_in payload (report_place s payload earlier)) (range_with_len 0 k) ≡ reports_from payload start k
  reports_there k = ap (λ st. map (λ earlier. report_in payload (st + 16 * earlier)) (range_with_len 0 k)) (sym start_is)

  -- which report it is
  record Again (listed : List Report) (place : ℕ) : Type 0 where
    k : ℕ
    some : k < reports_in s payload
    place_is : place ≡ start + 16 * k
    whole : start + 16 * k + 8 ≤ length payload
    there : IsListedThere listed payload start k

  again : (listed : List Report) (place : ℕ) → IsRepeatedAt s listed payload place → Again listed place
  again listed place repeated =
      let k = repeated.k in
      let at = repeated.place_is ∙ place_there k in
      record {
        k = k;
        some = repeated.some;
        place_is = at;
        whole = omega (arith, at, repeated.whole);
        there = ap₂ (λ p reports. is_listed (number_in 8 payload p) (listed ++ reports)) (sym at) (sym (reports_there k)) ∙ repeated.listed_before;
      }

  repeats : (listed : List Report) (k : ℕ) → k < reports_in s payload → start + 16 * k + 8 ≤ length payload → IsListedThere listed payload start k →
      IsRepeatedAt s listed payload (start + 16 * k)
  repeats listed k some whole there = record {
    k = k;
    some = some;
    place_is = sym (place_there k);
    whole = whole;
    listed_before = ap (λ reports. is_listed (number_in 8 payload (start + 16 * k)) (listed ++ reports)) (reports_there k) ∙ there;
  }

  not_again : (listed : List Report) (n k : ℕ) → AreNewThere listed payload start n → k < n → IsListedThere listed payload start k → ⊥
  not_again listed n k new below there = true≢false (sym there ∙ new k below)

  -- a repeated key comes first, in a payload whose fields break at no place before it, or nowhere
  pub first_again : (cone : ℕ) (records : List LogRecord) (k : ℕ) → ((place : ℕ) → log_left s cone (before_of records) payload ≡ Some place → start + 16 * k ≤ place) →
      k < reports_in s payload → start + 16 * k + 8 ≤ length payload →
      IsListedThere (listed_in records) payload start k → AreNewThere (listed_in records) payload start k → PayloadLeavesAt s cone records payload (start + 16 * k)
  first_again cone records k before some whole there new = record {
    leaves = inr (repeats (listed_in records) k some whole there);
    first_broken = before;
    first_repeated = λ other repeated.
        let found = again (listed_in records) other repeated in
        elim (cases_lt found.k k) [
          | inl below ↦ absurd (not_again (listed_in records) k found.k new below found.there)
          | inr behind ↦ omega (arith, found.place_is, behind)
        ];
  }

  module _ (cone : ℕ) (records : List LogRecord) (place : ℕ) (is : log_left s cone (before_of records) payload ≡ Some place) where
    same_left : (other : ℕ) → log_left s cone (before_of records) payload ≡ Some other → other ≡ place
    same_left other left = some_place other place (sym left ∙ is)

    module _ (n : ℕ) (reports : ReportsBefore s cone (before_of records) payload place n) (new : AreNewThere (listed_in records) payload start n) where
      -- right behind some new reports
      pub behind_new : (place ≡ start + 16 * n + 8 → is_listed (number_in 8 payload (start + 16 * n)) (listed_in records ++ reports_from payload start n) ≡ false) →
          PayloadLeavesAt s cone records payload place
      behind_new key = record {
        leaves = inl is;
        first_broken = λ other left. omega (arith, same_left other left);
        first_repeated = λ other repeated.
            let found = again (listed_in records) other repeated in
            elim (cases_lt found.k n) [
              | inl below ↦ absurd (not_again (listed_in records) n found.k new below found.there)
              | inr behind ↦ elim reports.place_is [
                | inl at_key ↦ omega (arith, at_key, start_is, found.place_is, behind)
                | inr at_position ↦ elim (cases_lt n found.k) [
                  | inl later ↦ omega (arith, at_position.0, start_is, found.place_is, later)
                  | inr same ↦ (
                      let k_is : found.k ≡ n = omega (arith, behind, same) in
                      absurd (true≢false (sym (subst (IsListedThere (listed_in records) payload start) k_is found.there) ∙ key (omega (arith, at_position.0, start_is)))))
                ]
              ]
            ];
      }

      -- at the key before a position that breaks
      pub at_key : place ≡ start + 16 * n + 8 → IsListedThere (listed_in records) payload start n → PayloadLeavesAt s cone records payload (start + 16 * n)
      at_key at there = elim reports.place_is [
        | inl other ↦ absurd (omega (arith, at, other, start_is))
        | inr position ↦ first_again cone records n (λ other left. omega (arith, same_left other left, at)) position.1 (omega (arith, position.2.long, start_is)) there new
      ]

    -- at one of those that stand wholly before the place
    pub among : (n k : ℕ) → ReportsBefore s cone (before_of records) payload place n → k < n → IsListedThere (listed_in records) payload start k →
        AreNewThere (listed_in records) payload start k → PayloadLeavesAt s cone records payload (start + 16 * k)
    among n k reports below there new =
        first_again cone records k (λ other left. omega (arith, same_left other left, place_behind reports.place_is)) (omega (arith, reports.few, below))
        (omega (arith, reports.there, start_is, below)) there new
      where
        place_behind : (place ≡ reports_place s (n0_in payload) + 4 + 16 * n) ⊎
            ((place ≡ reports_place s (n0_in payload) + 4 + 16 * n + 8) × (n < reports_in s payload) × HasKey s cone (before_of records) payload n) → start + 16 * k ≤ place
        place_behind (inl at) = omega (arith, at, start_is, below)
        place_behind (inr at) = omega (arith, at.0, start_is, below)

  -- ---- how many reports stand before the place

  pub before_there : (cone : ℕ) (before : LogBefore) (place : ℕ) → log_left s cone before payload ≡ Some place → start ≤ place → ReportsBefore s cone before payload place
      ((place - start) / 16)
  before_there cone before place is behind =
      subst (λ st. ReportsBefore s cone before payload place ((place - st) / 16)) (sym start_is) (reports_before s cone before payload place is (omega (arith, behind, start_is)))

  -- behind the key of one more
  pub next_key : (cone : ℕ) (before : LogBefore) (place n : ℕ) → ReportsBefore s cone before payload place n → place ≡ start + 16 * n + 8 → HasKey s cone before payload n
  next_key cone before place n reports is = elim reports.place_is [
    | inl other ↦ absurd (omega (arith, is, other, start_is))
    | inr position ↦ position.2
  ]

  pub place_small : (cone : ℕ) (before : LogBefore) (place n : ℕ) → ReportsBefore s cone before payload place n → place ≤ length payload + 8
  place_small cone before place n reports = elim reports.place_is [
    | inl at ↦ omega (arith, at, reports.there)
    | inr at ↦ omega (arith, at.0, reports.there)
  ]

-- ---- a place where the fields break that lies behind the reports' beginning

pub record BreaksBehind (s : Numbers) (payload : List ℕ) (start cone : ℕ) (before : LogBefore) (place : ℕ) : Type 0 where
  pub start_is : start ≡ reports_place s (n0_in payload) + 4
  pub is : log_left s cone before payload ≡ Some place
  pub reports : ReportsBefore s cone before payload place ((place - start) / 16)

pub breaks_behind : (s : Numbers) (payload : List ℕ) (start n0 cone : ℕ) (before : LogBefore) (place : ℕ) → start ≡ reports_place s n0 + 4 → n0 ≡ n0_in payload → start ≤ place →
    log_left s cone before payload ≡ Some place → BreaksBehind s payload start cone before place
breaks_behind s payload start n0 cone before place start_is n0_is behind is =
    let begins = start_is ∙ ap (λ n. reports_place s n + 4) n0_is in
    record { start_is = begins; is = is; reports = before_there s payload start begins cone before place is behind }
