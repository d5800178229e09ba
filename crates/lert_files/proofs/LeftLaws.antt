-- Where the fields of a payload break, by the reports that stand before that place.
use Rattle.std.proofs.Common.{ℕ, zero, suc, ◌≡◌, ◌+◌, ◌-◌, ◌*◌, ◌/◌, ◌<◌, ◌≤◌, ◌==◌, ◌&&◌, nat_le, nat_lt, false, Option, Some, None, List, [], ◌∷◌, ◌++◌, length, refl, ap, sym, ◌∙◌, subst, arith}
use Rattle.std.proofs.{Common.{inl, inr, ◌⊎◌}, lemmas.Bool.{cases_Bool, cases_lt, and_parts, leb-true}, lemmas.Option.none-some}
use Rattle.std.specs.{Prelude.{flat_map, slice_index, if◌then◌else◌}, List.range_with_len}
use Rattle.lert_spec.specs.{declared.numbers.Numbers.Numbers, Edges.capacity}
use Rattle.lert_reports.specs.{declared.log.LogBefore.LogBefore, LogText.{Field, is_broken, left_at, log_left, n0_in, next_flush, kind_field, n0_field, offset_field, first_field}}
use Rattle.lert_reports.specs.LogText.{head_fields, bin_count, level_place, frame_field, level_fields, directory_fields, reports_place, reports_in, at_before, key_field, at_field, count_field}
use Rattle.lert_reports.specs.LogText.{report_fields, all_report_fields, end_field}
use Rattle.lert_reports.proofs.{DirectoryLaws.{level_place-next, later_place}, FieldLaws.{broken, kept, whole, none_left, stops, goes_on, parted, first_kept, keeps_rule, each_none, in_first}}

pub some_place : (m n : ℕ) → Some m ≡ Some n → m ≡ n
some_place m n is = cc

cases_option : (found : Option ℕ) → (found ≡ None) ⊎ ((place : ℕ) × (found ≡ Some place))
cases_option None = inl refl
cases_option (Some place) = inr (place, refl)

-- ---- fields before a place

abbrev pub AreBelow : ℕ → List Field → Type 0
AreBelow limit [] = Unit {0}
AreBelow limit (field ∷ fields) = (field.place < limit) × AreBelow limit fields

below_append : (limit : ℕ) (fields others : List Field) → AreBelow limit fields → AreBelow limit others → AreBelow limit (fields ++ others)
below_append limit [] others are more = more
below_append limit (field ∷ fields) others are more = (are.0, below_append limit fields others are.1 more)

below_flat : (limit : ℕ) (fields_of : ℕ → List Field) (n from : ℕ) → ((k : ℕ) → from ≤ k → k < from + n → AreBelow limit (fields_of k)) →
    AreBelow limit (flat_map fields_of (range_with_len from n))
below_flat limit fields_of zero from each = tt
below_flat limit fields_of (suc n) from each =
    below_append limit (fields_of from) (flat_map fields_of (range_with_len (from + 1) n)) (each from (omega arith) (omega arith))
    (below_flat limit fields_of n (from + 1) (λ k low high. each k (omega (arith, low)) (omega (arith, high))))

module _ (payload : List ℕ) where
  left_below : (limit : ℕ) (fields : List Field) (place : ℕ) → AreBelow limit fields → left_at payload fields ≡ Some place → place < limit
  left_below limit [] place are is = absurd (none-some place (sym (none_left payload) ∙ is))
  left_below limit (field ∷ fields) place are is =
      elim (cases_Bool (is_broken payload field)) [
        | inl bad ↦ omega (arith, are.0, some_place field.place place (sym (broken payload field fields bad) ∙ is))
        | inr good ↦ left_below limit fields place are.1 (sym (kept payload field fields (left_at payload fields) good refl) ∙ is)
      ]

  -- a place is among the first fields, or none of them breaks and it is among the others
  split_left : (fields others : List Field) (place : ℕ) → left_at payload (fields ++ others) ≡ Some place → (left_at payload fields ≡ Some place) ⊎
      ((left_at payload fields ≡ None) × (left_at payload others ≡ Some place))
  split_left fields others place is =
      elim (cases_option (left_at payload fields)) [
        | inl none ↦ inr (none, sym (goes_on payload fields others (left_at payload others) none refl) ∙ is)
        | inr found ↦ inl (found.1 ∙ (sym (stops payload fields others found.0 found.1) ∙ is))
      ]

  one_left : (field : Field) (place : ℕ) → left_at payload (field ∷ []) ≡ Some place → place ≡ field.place
  one_left field place is =
      elim (cases_Bool (is_broken payload field)) [
        | inl bad ↦ some_place place field.place (sym is ∙ broken payload field [] bad)
        | inr good ↦ absurd (none-some place (sym (kept payload field [] None good (none_left payload)) ∙ is))
      ]

  -- the first of several lists that breaks
  record FirstAmong (fields_of : ℕ → List Field) (from n place : ℕ) : Type 0 where
    number : ℕ
    low : from ≤ number
    high : number < from + n
    fine : (k : ℕ) → from ≤ k → k < number → left_at payload (fields_of k) ≡ None
    here : left_at payload (fields_of number) ≡ Some place

  first_among : (fields_of : ℕ → List Field) (n from place : ℕ) → left_at payload (flat_map fields_of (range_with_len from n)) ≡ Some place → FirstAmong fields_of from n place
  first_among fields_of zero from place is = absurd (none-some place (sym (none_left payload) ∙ is))
  first_among fields_of (suc n) from place is =
      elim (split_left (fields_of from) (flat_map fields_of (range_with_len (from + 1) n)) place is) [
        | inl here ↦ record { number = from; low = omega arith; high = omega arith; fine = λ k low below. absurd (omega (arith, low, below)); here = here }
        | inr later ↦ (
            let rest = first_among fields_of n (from + 1) place later.1 in
            record {
              number = rest.number;
              low = omega (arith, rest.low);
              high = omega (arith, rest.high);
              fine = λ k low below. elim (cases_lt from k) [
                | inl less ↦ rest.fine k (omega (arith, less)) below
                | inr more ↦ subst (λ j. left_at payload (fields_of j) ≡ None) (let same : from ≡ k = omega (arith, low, more) in same) later.0
              ];
              here = rest.here;
            })
      ]

-- ---- the fields of a record

-- an older level, or the reports, stand behind a level's frames
behind_level : (s : Numbers) (n0 level : ℕ) → 1 ≤ level → level < 1 + s.levels → level_place s n0 level + 1 + bin_count s level n0 ≤ reports_place s n0
behind_level s n0 level some last =
    let end = later_place s n0 (level + 1) (s.levels - level) (omega arith) in
    let end_is = ap (level_place s n0) (let same : level + 1 + (s.levels - level) ≡ s.levels + 1 = omega (arith, last) in same) in
    omega (arith, level_place-next s n0 level some, end, end_is)

pub start_least : (s : Numbers) (n0 : ℕ) → 25 ≤ reports_place s n0
start_least s n0 =
    let all = later_place s n0 1 s.levels (omega arith) in
    let end_is = ap (level_place s n0) (let same : 1 + s.levels ≡ s.levels + 1 = omega arith in same) in
    omega (arith, all, end_is)

module _ (s : Numbers) (cone : ℕ) (before : LogBefore) (payload : List ℕ) where
  abbrev n0 : ℕ
  n0 = n0_in payload

  abbrev start : ℕ
  start = reports_place s n0 + 4

  head_below : AreBelow 25 (head_fields s before payload)
  head_below = (omega arith, (omega arith, (omega arith, (omega arith, tt))))

  head_before : AreBelow (reports_place s n0) (head_fields s before payload)
  head_before =
      let least = start_least s n0 in
      (omega (arith, least), (omega (arith, least), (omega (arith, least), (omega (arith, least), tt))))

  level_below : (level : ℕ) → 1 ≤ level → level < 1 + s.levels → AreBelow (reports_place s n0) (level_fields s payload level)
  level_below level some last =
      let place = level_place s n0 level in
      let bins = bin_count s level n0 in
      let behind = behind_level s n0 level some last in
      (omega (arith, behind), below_flat (reports_place s n0) (λ k. frame_field s payload (place + 1) k ∷ []) bins 0 (λ k low high. (omega (arith, behind, high), tt)))

  directory_below : AreBelow (reports_place s n0) (directory_fields s payload)
  directory_below = below_flat (reports_place s n0) (level_fields s payload) s.levels 1 level_below

  -- where a payload breaks behind its head, none of the head's fields does
  module _ (place : ℕ) (is : log_left s cone before payload ≡ Some place) where
    head_whole : 25 ≤ place → left_at payload (head_fields s before payload) ≡ None
    head_whole behind =
        elim (cases_option (left_at payload (head_fields s before payload))) [
          | inl none ↦ none
          | inr found ↦ (
              let here = in_first payload (head_fields s before payload) (directory_fields s payload) (count_field s before payload ∷ [])
              (all_report_fields s cone before payload) (end_field s payload ∷ []) found.0 found.1 in
              absurd (omega (arith, behind, left_below payload 25 (head_fields s before payload) found.0 head_below found.1, some_place found.0 place (sym here ∙ is))))
        ]

    pub long_enough : 25 ≤ place → 25 ≤ length payload
    long_enough behind =
        let none = head_whole behind in
        let fields = n0_field s before payload ∷ offset_field payload ∷ first_field s payload ∷ [] in
        let one = first_kept payload (kind_field payload) fields none in
        let two = first_kept payload (n0_field s before payload) (offset_field payload ∷ first_field s payload ∷ []) one.1 in
        let three = first_kept payload (offset_field payload) (first_field s payload ∷ []) two.1 in
        let four = first_kept payload (first_field s payload) [] three.1 in
        omega (arith, whole payload (first_field s payload) four.0)

    pub within_capacity : 25 ≤ place → n0 ≤ capacity s
    within_capacity behind =
        let none = head_whole behind in
        let fields = n0_field s before payload ∷ offset_field payload ∷ first_field s payload ∷ [] in
        let one = first_kept payload (kind_field payload) fields none in
        let two = first_kept payload (n0_field s before payload) (offset_field payload ∷ first_field s payload ∷ []) one.1 in
        let keeps = keeps_rule payload (n0_field s before payload) two.0 in
        let parts = and_parts (nat_le n0 (capacity s)) (if slice_index payload 0 == 1 then n0 == next_flush s before.flushes else nat_le before.n0 n0 && nat_lt n0
        (next_flush s before.flushes)) keeps in
        leb-true n0 (capacity s) parts.0

  -- ---- the reports before the place

  -- a report's key is whole
  pub record HasKey (k : ℕ) : Type 0 where
    pub long : start + 16 * k + 8 ≤ length payload

  key_there : (k : ℕ) → is_broken payload (key_field s cone payload (start + 16 * k)) ≡ false → HasKey k
  key_there k good = record { long = whole payload (key_field s cone payload (start + 16 * k)) good }

  -- a report none of whose fields breaks
  report_fine : (k : ℕ) → left_at payload (report_fields s cone before payload k) ≡ None → start + 16 * k + 16 ≤ length payload
  report_fine k none =
      let place = start + 16 * k in
      let at = at_field payload place (at_before s before payload k) in
      let key = first_kept payload (key_field s cone payload place) (at ∷ []) none in
      let position = first_kept payload at [] key.1 in
      omega (arith, whole payload at position.0)

  -- a report of which one does
  report_left : (k place : ℕ) → left_at payload (report_fields s cone before payload k) ≡ Some place → (place ≡ start + 16 * k) ⊎ ((place ≡ start + 16 * k + 8) × HasKey k)
  report_left k place is =
      let here = start + 16 * k in
      let key = key_field s cone payload here in
      let at = at_field payload here (at_before s before payload k) in
      elim (cases_Bool (is_broken payload key)) [
        | inl bad ↦ inl (some_place place here (sym is ∙ broken payload key (at ∷ []) bad))
        | inr good ↦ inr (one_left payload at place (sym (kept payload key (at ∷ []) (left_at payload (at ∷ [])) good refl) ∙ is), key_there k good)
      ]

  -- so many reports stand wholly before the place, and keep the rules; the place is behind them, or behind the key of one more
  pub record ReportsBefore (place reports : ℕ) : Type 0 where
    pub few : reports ≤ reports_in s payload
    pub room : before.reports + reports_in s payload ≤ s.room
    pub there : start + 16 * reports ≤ length payload
    pub place_is : (place ≡ start + 16 * reports) ⊎ ((place ≡ start + 16 * reports + 8) × (reports < reports_in s payload) × HasKey reports)

  count_there : is_broken payload (count_field s before payload) ≡ false → (start ≤ length payload) × (before.reports + reports_in s payload ≤ s.room)
  count_there good = (
    omega (arith, whole payload (count_field s before payload) good),
    leb-true (before.reports + reports_in s payload) s.room (keeps_rule payload (count_field s before payload) good),
  )

  reports_long : (reports : ℕ) → start ≤ length payload → ((k : ℕ) → k < reports → start + 16 * k + 16 ≤ length payload) → start + 16 * reports ≤ length payload
  reports_long zero long each = omega (arith, long)
  reports_long (suc reports) long each = omega (arith, each reports (omega arith))

  module _ (place : ℕ) (is : log_left s cone before payload ≡ Some place) (behind : start ≤ place) where
    abbrev head : List Field
    head = head_fields s before payload

    abbrev directory : List Field
    directory = directory_fields s payload

    abbrev count : List Field
    count = count_field s before payload ∷ []

    abbrev reports : List Field
    reports = all_report_fields s cone before payload

    before_reports : left_at payload (head ++ directory ++ count) ≡ Some place → ⊥
    before_reports here =
        elim (split_left payload (head ++ directory) count place here) [
          | inl early ↦ omega (
            arith,
            behind,
            left_below payload (reports_place s n0) (head ++ directory) place
                (below_append (reports_place s n0) head directory head_before directory_below) early,
          )
          | inr late ↦ omega (arith, behind, one_left payload (count_field s before payload) place late.1)
        ]

    count_good : left_at payload (head ++ directory ++ count) ≡ None → is_broken payload (count_field s before payload) ≡ false
    count_good none = (first_kept payload (count_field s before payload) [] (parted payload (head ++ directory) count none).1).0

    in_report : left_at payload (head ++ directory ++ count) ≡ None → left_at payload reports ≡ Some place → (n : ℕ) × ReportsBefore place n
    in_report none here =
        let found = first_among payload (report_fields s cone before payload) (reports_in s payload) 0 place here in
        let good = count_there (count_good none) in
        let n = found.number in
        let fine : (k : ℕ) → k < n → start + 16 * k + 16 ≤ length payload = λ k below. report_fine k (found.fine k (omega arith) below) in (
          n,
          record {
            few = omega (arith, found.high);
            room = good.1;
            there = reports_long n good.0 fine;
            place_is = elim (report_left n place found.here) [
              | inl at_key ↦ inl at_key
              | inr at_position ↦ inr (at_position.0, omega (arith, found.high), at_position.1)
            ];
          },
        )

    at_end : left_at payload (head ++ directory ++ count) ≡ None → left_at payload reports ≡ None → left_at payload (end_field s payload ∷ []) ≡ Some place →
        (n : ℕ) × ReportsBefore place n
    at_end none whole_reports here =
        let good = count_there (count_good none) in
        let n = reports_in s payload in
        let fine : (k : ℕ) → k < n → start + 16 * k + 16 ≤ length payload = λ k below. report_fine k
        (each_none payload (report_fields s cone before payload) n 0 whole_reports k (omega arith) (omega (arith, below))) in (
          n,
          record {
            few = omega arith;
            room = good.1;
            there = reports_long n good.0 fine;
            place_is = inl (one_left payload (end_field s payload) place here);
          },
        )

    some_before : (n : ℕ) × ReportsBefore place n
    some_before =
        elim (split_left payload (head ++ directory ++ count ++ reports) (end_field s payload ∷ []) place is) [
          | inl early ↦ elim (split_left payload (head ++ directory ++ count) reports place early) [
            | inl earlier ↦ absurd (before_reports earlier)
            | inr there ↦ in_report there.0 there.1
          ]
          | inr late ↦ (
              let parts = parted payload (head ++ directory ++ count) reports late.0 in
              at_end parts.0 parts.1 late.1)
        ]

    pub reports_before : ReportsBefore place ((place - start) / 16)
    reports_before =
        let found = some_before in
        subst (ReportsBefore place) (number_is found.0 found.1.place_is) found.1
      where
        number_is : (n : ℕ) → (place ≡ start + 16 * n) ⊎ ((place ≡ start + 16 * n + 8) × (n < reports_in s payload) × HasKey n) → n ≡ (place - start) / 16
        number_is n (inl at) = omega (arith, at)
        number_is n (inr at) = omega (arith, at.0)
