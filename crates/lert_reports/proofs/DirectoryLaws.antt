-- The fields of a directory by the places at which a reader stands.
use Rattle.std.proofs.Common.{◌≡◌, ℕ, zero, suc, cond, ◌+◌, ◌-◌, ◌≤◌, List, [], ◌∷◌, length, ap, ap₂, sym, ◌∙◌, arith}
use Rattle.std.specs.Prelude.{sum_by}
use Rattle.std.specs.List.{range_with_len}
use Rattle.std.proofs.lemmas.List.Sums.{sum_by-cons}
use Rattle.std.proofs.lemmas.Bool.{ne_eqb}
use Rattle.lert_spec.specs.declared.numbers.Numbers.{Numbers}
use Rattle.lert_reports.specs.declared.log.LogBefore.{LogBefore}
use Rattle.lert_reports.specs.declared.log.LogParts.{LogParts}
use Rattle.lert_reports.specs.LogText.{key_field, at_field, report_fields, report_place, at_before, number_in, bins_field, frame_fields, level_fields, level_place, reports_place, bin_count, n0_in}
use Rattle.lert_reports.specs.LogText.{ArePartsOf}

pub level_fields_are : (s : Numbers) (payload : List ℕ) (level n0 place bins : ℕ) → n0 ≡ n0_in payload → place ≡ level_place s n0 level → bins ≡ bin_count s level n0 →
    level_fields s payload level ≡ bins_field payload place bins ∷ frame_fields s payload (place + 1) bins
level_fields_are s payload level n0 place bins n0_is place_is bins_are =
    sym (ap₂ (λ p b. bins_field payload p b ∷ frame_fields s payload (p + 1) b)
    (place_is ∙ ap (λ n. level_place s n level) n0_is)
    (bins_are ∙ ap (λ n. bin_count s level n) n0_is))

sum_more : (f : ℕ → ℕ) (n from : ℕ) → sum_by f (range_with_len from (suc n)) ≡ sum_by f (range_with_len from n) + f (from + n)
sum_more f zero from = omega (arith, sum_by-cons f from [], ap f (let same : from + 0 ≡ from = omega arith in same))
sum_more f (suc n) from =
    omega (
      arith,
      sum_by-cons f from (range_with_len (from + 1) (suc n)),
      sum_by-cons f from (range_with_len (from + 1) n),
      sum_more f n (from + 1),
      ap f (let same : from + suc n ≡ from + 1 + n = omega arith in same),
    )

-- the next level stands behind this one's frames
pub level_place-next : (s : Numbers) (n0 level : ℕ) → 1 ≤ level → level_place s n0 level + 1 + bin_count s level n0 ≡ level_place s n0 (level + 1)
level_place-next s n0 level some =
    let f : ℕ → ℕ = λ younger. 1 + bin_count s younger n0 in
    let more = sum_more f (level - 1) 1 in
    let here = ap f (let same : 1 + (level - 1) ≡ level = omega (arith, some) in same) in
    let length_is = ap (λ n. sum_by f (range_with_len 1 n)) (let same : level + 1 - 1 ≡ suc (level - 1) = omega (arith, some) in same) in
    omega (arith, more, here, length_is)

-- an older level stands further behind
pub later_place : (s : Numbers) (n0 level n : ℕ) → 1 ≤ level → level_place s n0 level ≤ level_place s n0 (level + n)
later_place s n0 level zero some = omega (arith, ap (level_place s n0) (let same : level + 0 ≡ level = omega arith in same))
later_place s n0 level (suc n) some =
    let next = level_place-next s n0 (level + n) (omega (arith, some)) in
    let last = ap (level_place s n0) (let same : level + n + 1 ≡ level + suc n = omega arith in same) in
    omega (arith, later_place s n0 level n some, next, last)

-- a level's frames stand before the end of a payload that ends behind its reports
pub frames_within : (s : Numbers) (payload : List ℕ) (parts : LogParts) (level : ℕ) → ArePartsOf s payload parts → 1 ≤ level → level ≤ s.levels →
    level_place s parts.n0 level + 1 + bin_count s level parts.n0 ≤ length payload
frames_within s payload parts level are some last =
    let end = later_place s parts.n0 (level + 1) (s.levels - level) (omega arith) in
    let end_is = ap (level_place s parts.n0) (let same : level + 1 + (s.levels - level) ≡ s.levels + 1 = omega (arith, last) in same) in
    let place_is = ap (reports_place s) are.n0_is in
    omega (arith, level_place-next s parts.n0 level some, end, end_is, place_is, are.place_is, are.ends)

pub report_fields_are : (s : Numbers) (cone : ℕ) (before : LogBefore) (payload : List ℕ) (k place earlier : ℕ) → place ≡ report_place s payload k →
    earlier ≡ at_before s before payload k →
    report_fields s cone before payload k ≡ key_field s cone payload place ∷ at_field payload place earlier ∷ []
report_fields_are s cone before payload k place earlier place_is earlier_is =
    sym (ap₂ (λ p e. key_field s cone payload p ∷ at_field payload p e ∷ []) place_is earlier_is)

-- before the next report stands this one's position
pub at_before-next : (s : Numbers) (before : LogBefore) (payload : List ℕ) (k : ℕ) → number_in 8 payload (report_place s payload k + 8) ≡ at_before s before payload (k + 1)
at_before-next s before payload k =
    sym (ap (λ t. cond t before.at (number_in 8 payload (report_place s payload (k + 1 - 1) + 8))) (ne_eqb (k + 1) 0 (λ e. omega (arith, e)))
    ∙ ap (λ n. number_in 8 payload (report_place s payload n + 8)) (let same : k + 1 - 1 ≡ k = omega arith in same))
