-- What the counts in the frames add up to: bin by bin as they are checked, and by the positions of all bins.
use Rattle.std.proofs.Common.{ℕ, ◌==◌, cond, true, false, ◌≡◌, ◌+◌, ◌-◌, ◌*◌, ◌^◌, ◌<◌, ◌≤◌, zero, suc, List, [], ◌∷◌, ◌++◌, length, map, get_or, take, drop, refl, ap, ap₂, sym, ◌∙◌, arith}
use Rattle.std.proofs.Common.{subst, sum_by, slice_range, length-take}
use Rattle.std.proofs.{lemmas.List.{take_more, take_all, length-map}, lemmas.List.Sums.{sum_by-cons, sum_by-append, sum_by_more, sum_by_more_le, sum_by-le, sum_by-take-le}}
use Rattle.std.proofs.{lemmas.List.Elements.{All-head, All-tail}, Math.Nat.{mul-le-mul_left, mul-le-mul_right}}
use Rattle.std.specs.List.{All}
use Rattle.lert_frames.proofs.FrameLaws.{pieces_are}
use Rattle.lert_spec.specs.{declared.item.Item.Item, declared.numbers.Numbers.Numbers, declared.piece.Piece.Piece, Counts.{weighed, weight_of}, Edges.{span, edge, capacity}}
use Rattle.lert_spec.specs.{Items.{most_weight, AreOfVersion}, Limits.IsValid, Table.total}
use Rattle.lert_spec.proofs.{EdgeLaws.span_pos, TallyLaws.total-tally}
use Rattle.lert_levels.specs.{declared.rows.bin_at.BinAt.BinAt, rows.Checked.{pieces_in, row_total, rows_total, row_width, rows_width, IsWeightOf}, rows.Loading.{width_of, Stands, AllStand}}
use Rattle.lert_levels.specs.rows.{Ranges.Range, Rows.{range_of, row_of, IsAt, IsRow, AreFirst, AreRows, HoldsBins, tallied_in}}
use Rattle.lert_levels.proofs.rows.{GaplessLaws.{IsGapless, joined, joined_gapless}, RangeLaws.oldest_edge, Windows.slice_range-join}

-- ---- one sum more

most_parts : (version first second : ℕ) → most_weight version * (first + second) ≡ most_weight version * first + most_weight version * second
most_parts version first second = elim (version == 1) as (λ b. cond b 1 255 * (first + second) ≡ cond b 1 255 * first + cond b 1 255 * second) [
  | true ↦ omega arith
  | false ↦ omega arith
]

-- what may weigh some events and others may weigh all of them
pub weight_more : (version first second a b : ℕ) → IsWeightOf version first a → IsWeightOf version second b → IsWeightOf version (first + second) (a + b)
weight_more version first second a b one two = (omega (arith, one.0, two.0), (let parts = most_parts version first second in omega (arith, parts, one.1, two.1)))

pub weight_none : (version : ℕ) → IsWeightOf version 0 0
weight_none version = (omega arith, omega arith)

-- of one bin more of a row
pub row_weight_more : (version : ℕ) (row : List BinAt) (i : ℕ) (d : BinAt) (sum more : ℕ) → i < length row → IsWeightOf version (row_width (take i row)) sum →
    IsWeightOf version (width_of (get_or row i d)) more → IsWeightOf version (row_width (take (i + 1) row)) (sum + more)
row_weight_more version row i d sum more below so_far here =
    subst (λ n. IsWeightOf version n (sum + more)) (sym (sum_by_more width_of row i d below)) (weight_more version (row_width (take i row)) (width_of (get_or row i d)) sum more so_far here)

pub rows_weight_more : (version : ℕ) (rows : List (List BinAt)) (i : ℕ) (now : List BinAt) (sum more : ℕ) → get_or rows i [] ≡ now → i < length rows →
    IsWeightOf version (rows_width (take i rows)) sum → IsWeightOf version (row_width now) more → IsWeightOf version (rows_width (take (i + 1) rows)) (sum + more)
rows_weight_more version rows i now sum more is below so_far here =
    subst (λ n. IsWeightOf version n (sum + more)) (sym (sum_by_more row_width rows i [] below ∙ ap (λ row. rows_width (take i rows) + row_width row) is))
    (weight_more version (rows_width (take i rows)) (row_width now) sum more so_far here)

pub row_total_more : (s : Numbers) (version : ℕ) (file : List ℕ) (level : ℕ) (row : List BinAt) (i : ℕ) (d : BinAt) (sum more : ℕ) → i < length row →
    sum ≡ row_total s version file level (take i row) → more ≡ total (pieces_in s version file level (get_or row i d)) → sum + more ≡ row_total s version file level (take (i + 1) row)
row_total_more s version file level row i d sum more below so_far here =
    ap₂ (λ a b. a + b) so_far here ∙ sym (sum_by_more (λ (bin : BinAt). total (pieces_in s version file level bin)) row i d below)

rows_total-append : (s : Numbers) (version : ℕ) (file : List ℕ) (level : ℕ) (rows others : List (List BinAt)) →
    rows_total s version file level (rows ++ others) ≡ rows_total s version file level rows + rows_total s version file (level + length rows) others
rows_total-append s version file level [] others =
    let here = ap (λ l. rows_total s version file l others) (let same : level ≡ level + 0 = omega arith in same) in omega (arith, here)
rows_total-append s version file level (row ∷ rows) others =
    let next : suc level + length rows ≡ level + suc (length rows) = omega arith in
    let rest = rows_total-append s version file (suc level) rows others ∙ ap (λ l. rows_total s version file (suc level) rows + rows_total s version file l others) next in
    omega (arith, rest)

pub rows_total_more : (s : Numbers) (version : ℕ) (file : List ℕ) (rows : List (List BinAt)) (i : ℕ) (now : List BinAt) (sum more : ℕ) → get_or rows i [] ≡ now → i < length rows →
    sum ≡ rows_total s version file 1 (take i rows) → more ≡ row_total s version file (i + 1) now → sum + more ≡ rows_total s version file 1 (take (i + 1) rows)
rows_total_more s version file rows i now sum more is below so_far here =
    let level : 1 + length (take i rows) ≡ i + 1 = omega (arith, length-take i rows, below) in
    let last : rows_total s version file (1 + length (take i rows)) (get_or rows i [] ∷ []) ≡ row_total s version file (i + 1) now =
    ap₂ (λ l row. rows_total s version file l (row ∷ [])) level is ∙ (let alone : row_total s version file (i + 1) now + 0 ≡ row_total s version file (i + 1) now = omega arith in alone) in
    let parts = ap (rows_total s version file 1) (take_more rows i [] below) ∙ rows_total-append s version file 1 (take i rows) (get_or rows i [] ∷ []) in
    omega (arith, so_far, here, last, parts)

-- ---- sums are small

-- the bins of a row have no more positions together than this
pub row_few : (s : Numbers) (level : ℕ) (row : List BinAt) → IsRow s level row → s.bins ≤ 16 → row_width row ≤ 16 * 2 ^ 32
row_few s level row is few =
    let each : All (λ bin. width_of bin ≤ 2 ^ 32) row = λ k d below. omega (arith, is.ends k d below) in
    let scaled = mul-le-mul_right (2 ^ 32) (let count : length row ≤ 16 = omega (arith, is.few, few) in count) in
    omega (arith, sum_by-le width_of (2 ^ 32) row each, scaled)

pub rows_few : (s : Numbers) (rows : List (List BinAt)) → AreFirst s rows → IsValid s → rows_width rows ≤ 8 * (16 * 2 ^ 32)
rows_few s rows are valid =
    let each : All (λ row. row_width row ≤ 16 * 2 ^ 32) rows = each_few rows (λ k below. row_few s (k + 1) (get_or rows k []) (are.each k below) valid.limits.bins_to) in
    let scaled = mul-le-mul_right (16 * 2 ^ 32) (let count : length rows ≤ 8 = omega (arith, are.few, valid.limits.levels_to) in count) in
    omega (arith, sum_by-le row_width (16 * 2 ^ 32) rows each, scaled)
  where
    each_few : (rows : List (List BinAt)) → ((k : ℕ) → k < length rows → row_width (get_or rows k []) ≤ 16 * 2 ^ 32) → All (λ row. row_width row ≤ 16 * 2 ^ 32) rows
    each_few [] each = λ k d below. absurd (omega (arith, below))
    each_few (row ∷ rows) each = λ k d below. elim k as (λ n. n < suc (length rows) → row_width (get_or (row ∷ rows) n d) ≤ 16 * 2 ^ 32) [
      | zero ↦ λ _. each 0 (omega arith)
      | suc n ↦ λ inner. each_few rows (λ j less. each (suc j) (omega (arith, less))) n d (omega (arith, inner))
    ] below

most_of : (version : ℕ) → most_weight version ≤ 255
most_of version = grind arith

-- so a sum of part of them fits
pub sum_small : (version width sum : ℕ) → width ≤ 8 * (16 * 2 ^ 32) → IsWeightOf version width sum → sum < 2 ^ 64
sum_small version width sum few is =
    let scaled = mul-le-mul_left (most_weight version) few in
    let most = mul-le-mul_right (8 * (16 * 2 ^ 32)) (most_of version) in
    omega (arith, is.1, scaled, most)

pub row_part : (row : List BinAt) (count most : ℕ) → row_width row ≤ most → row_width (take count row) ≤ most
row_part row count most few = omega (arith, sum_by-take-le width_of row count, few)

pub rows_part : (rows : List (List BinAt)) (count most : ℕ) → rows_width rows ≤ most → rows_width (take count rows) ≤ most
rows_part rows count most few = omega (arith, sum_by-take-le row_width rows count, few)

-- ---- all bins in a row

-- a sum over the bins of the first levels, level by level or all together
joined_sum : (f : BinAt → ℕ) (rows : List (List BinAt)) (level : ℕ) → level ≤ length rows → sum_by f (joined rows level) ≡ sum_by (λ row. sum_by f row) (take level rows)
joined_sum f rows zero within = refl
joined_sum f rows (suc level) within =
    let row = get_or rows level [] in
    let before = joined_sum f rows level (omega (arith, within)) in
    let next : level + 1 ≡ suc level = omega arith in
    let more = ap (λ n. sum_by (λ r. sum_by f r) (take n rows)) (sym next) ∙ sum_by_more (λ (r : List BinAt). sum_by f r) rows level [] (omega (arith, within)) in
    omega (arith, sum_by-append f row (joined rows level), before, more)

-- bins without gaps are as wide together as from the first to the last position
gapless_width : (bins : List BinAt) (from to : ℕ) → IsGapless from (map range_of bins) to → from + row_width bins ≡ to
gapless_width [] from to gapless = omega (arith, gapless)
gapless_width (bin ∷ bins) from to gapless =
    omega (arith, gapless.0, gapless.1, gapless_width bins bin.to to gapless.2, sum_by-cons width_of bin bins)

abbrev weight_at : List Item → BinAt → ℕ
weight_at events bin = weight_of weighed (slice_range events bin.from bin.to)

-- and the weights of their positions those of all positions between
gapless_weight : (events : List Item) (bins : List BinAt) (from to : ℕ) → IsGapless from (map range_of bins) to →
    sum_by (weight_at events) bins ≡ weight_of weighed (slice_range events from to)
gapless_weight events [] from to gapless =
    sym (ap (λ n. weight_of weighed (slice_range events n to)) gapless ∙ ap (λ n. weight_of weighed (take n (drop to events))) (let none : to - to ≡ 0 = omega arith in none))
gapless_weight events (bin ∷ bins) from to gapless =
    let rest = gapless_weight events bins bin.to to gapless.2 in
    let further = gapless_width bins bin.to to gapless.2 in
    let parts = ap (weight_of weighed) (slice_range-join events bin.from bin.to to gapless.1 (omega (arith, further))) in
    let split = sum_by-append weighed.weight (slice_range events bin.from bin.to) (slice_range events bin.to to) in
    let first = ap (λ n. weight_of weighed (slice_range events n to)) gapless.0 in
    sum_by-cons (weight_at events) bin bins ∙ (ap (λ w. weight_at events bin + w) rest ∙ (sym split ∙ (parts ∙ first)))

module _ (s : Numbers) (valid : IsValid s) (n : ℕ) (fits : n ≤ capacity s) (rows : List (List BinAt)) (at : IsAt s n rows) where
  all_gapless : IsGapless 0 (map range_of (joined rows s.levels)) (edge s 0 n)
  all_gapless =
      let base : 1 ≤ s.base = omega (arith, valid.limits.base_from) in
      let ratio : 1 ≤ s.ratio = omega (arith, valid.limits.ratio_from) in
      let positive = span_pos s s.levels base ratio in
      subst (λ from. IsGapless from (map range_of (joined rows s.levels)) (edge s 0 n)) (oldest_edge s base ratio n (omega (arith, fits, positive)))
      (joined_gapless s base ratio n rows at s.levels (omega arith))

  all_joined : (f : BinAt → ℕ) → sum_by f (joined rows s.levels) ≡ sum_by (λ row. sum_by f row) rows
  all_joined f =
      joined_sum f rows s.levels (omega (arith, at.levels)) ∙ ap (sum_by (λ (row : List BinAt). sum_by f row)) (take_all s.levels rows (omega (arith, at.levels)))

  -- the bins of all levels have the positions up to the edge of level 0
  pub rows_width-edge : rows_width rows ≡ edge s 0 n
  rows_width-edge =
      let all = all_joined width_of in
      let wide = gapless_width (joined rows s.levels) 0 (edge s 0 n) all_gapless in
      omega (arith, all, wide)

  -- where the frames hold their counts, these add up to what those positions weigh
  module _ (version : ℕ) (events : List Item) (file : List ℕ) (are : AreRows s rows) (stand : AllStand s version file (tallied_in s events) rows) where
    row_weighs : (level : ℕ) (row : List BinAt) → level ≤ s.levels → All (λ bin. width_of bin ≤ span s level) row → All (Stands s version level file (tallied_in s events)) row →
        row_total s version file level row ≡ sum_by (weight_at events) row
    row_weighs level [] last narrow stands = refl
    row_weighs level (bin ∷ row) last narrow stands =
        let here = All-head (Stands s version level file (tallied_in s events)) bin row stands in
        let wide = All-head (λ (b : BinAt). width_of b ≤ span s level) bin row narrow in
        let pieces = pieces_are s version level bin.frame (width_of bin) file (tallied_in s events bin) valid last wide here.are here.text in
        let one : total (pieces_in s version file level bin) ≡ weight_at events bin = ap total pieces ∙ total-tally weighed s (slice_range events bin.from bin.to) in
        let rest = row_weighs level row last (All-tail (λ (b : BinAt). width_of b ≤ span s level) bin row narrow) (All-tail (Stands s version level file (tallied_in s events)) bin row stands) in
        sum_by-cons (λ (b : BinAt). total (pieces_in s version file level b)) bin row ∙ ap₂ (λ a b. a + b) one rest ∙ sym (sum_by-cons (weight_at events) bin row)

    rows_weigh : (level : ℕ) (some : List (List BinAt)) → ((k : ℕ) → k < length some → row_total s version file (level + k) (get_or some k []) ≡ sum_by (weight_at events) (get_or some k [])) →
        rows_total s version file level some ≡ sum_by (λ row. sum_by (weight_at events) row) some
    rows_weigh level [] each = refl
    rows_weigh level (row ∷ some) each =
        let here : row_total s version file level row ≡ sum_by (weight_at events) row =
        ap (λ l. row_total s version file l row) (let same : level ≡ level + 0 = omega arith in same) ∙ each 0 (omega arith) in
        let rest = rows_weigh (suc level) some
        (λ k below. ap (λ l. row_total s version file l (get_or some k [])) (let same : suc level + k ≡ level + suc k = omega arith in same) ∙ each (suc k) (omega (arith, below))) in
        ap₂ (λ a b. a + b) here rest ∙ sym (sum_by-cons (λ (r : List BinAt). sum_by (weight_at events) r) row some)

    pub rows_total-weighs : rows_total s version file 1 rows ≡ weight_of weighed (take (edge s 0 n) events)
    rows_total-weighs =
        rows_weigh 1 rows (λ k below.
        let same : k + 1 ≡ 1 + k = omega arith in
        let place : k + 1 - 1 ≡ k = omega arith in
        let last : k + 1 ≤ s.levels = omega (arith, below, are.levels) in
        let row = subst (IsRow s (k + 1)) (ap (λ j. get_or rows j []) place) (are.each (k + 1) (omega arith) last) in
        ap (λ l. row_total s version file l (get_or rows k [])) (sym same) ∙ row_weighs (k + 1) (get_or rows k []) last row.widths (stand k below))
        ∙ sym (all_joined (weight_at events)) ∙ gapless_weight events (joined rows s.levels) 0 (edge s 0 n) all_gapless
        ∙ ap (λ n. weight_of weighed (take n events)) (let whole : edge s 0 n - 0 ≡ edge s 0 n = omega arith in whole)
