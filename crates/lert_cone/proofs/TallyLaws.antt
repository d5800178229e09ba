-- Level 0 and the rows as the next item comes.
use Rattle.std.proofs.Common.{ℕ, ◌≡◌, ◌≢◌, ◌+◌, ◌-◌, ◌*◌, ◌/◌, ◌%◌, ◌<◌, ◌≤◌, zero, suc, cond, List, [], ◌∷◌, ◌++◌, length, drop, get_or, map, All, refl, ap, ap₂, sym, ◌∙◌, arith, inl, inr, subst}
use Rattle.std.proofs.{Common.{slice_range, sum_by, replicate}, Math.Nat.{div-add-mod, mod-lt, mul-mod_left, mul_comm, mul-suc, suc-mul}, lemmas.Bool.{cases_eq, cases_lt, eq-eqb, ne_eqb}}
use Rattle.std.proofs.lemmas.List.{get_or-map, length-replicate}
use Rattle.lert_spec.specs.{declared.numbers.Numbers.Numbers, declared.piece.Piece.Piece, Bins.{Bin, bin_in, tally}, Counts.weighed}
use Rattle.lert_spec.specs.{declared.item.Item.Item, Edges.{span, offset, edge, depth, lookback, capacity}, Limits.IsValid, Mix.tail_of}
use Rattle.std.proofs.{Common.{Bool, true, false, ltb, max, min, filter}, lemmas.List.Elements.{All-nil, All-cons}}
use Rattle.std.specs.List.{range_with_len}
use Rattle.lert_spec.specs.{Items.AreOfVersion, Table.{count_of, costs, total}}
use Rattle.lert_spec.proofs.TallyLaws.{total-tally}
use Rattle.lert_spec.proofs.{EdgeLaws.{span_pos, steps, moves_by_one}, LookLaws.slice_range-append}
use Rattle.lert_frames.specs.Frame.{HoldsFrame}
use Rattle.lert_levels.specs.{declared.rows.bin_at.BinAt.BinAt, rows.Ranges.{Range, ranges, young_bins}}
use Rattle.lert_levels.specs.{rows.Rows.{IsAt, HoldsBins, range_of, row_of}, rows.Young.{AreLight, Young, IsNextPosition, with_event}}
use Rattle.lert_levels.proofs.{rows.RangeLaws.{IsCut, cuts_are, depth_moves, depth_stays, ranges_still}, rows.Windows.young_cover, rows.YoungBins.{young-added, young-dropped}}
use Rattle.lert_cone.specs.Tally.{AreYoung, totals_at}
use Rattle.lert_cone.proofs.TotalLaws.{edge_within}
use Rattle.lert_levels.proofs.rows.WeightLaws.{WeighAll, costs_number, version_slice, version_weigh, weight_least, window_length}

-- what holds of the bins of all intervals holds of those that aren't empty
bins_kept : (P : Bin → Type 0) (f : ℕ → Bin) (ks : List ℕ) → ((k : ℕ) → P (f k)) → All P (filter (λ (bin : Bin). ltb bin.from bin.to) (map f ks))
bins_kept P f [] each = All-nil P
bins_kept P f (k ∷ ks) each =
    let test : Bin → Bool = λ bin. ltb bin.from bin.to in
    let rest = filter test (map f ks) in
    elim (test (f k)) as (λ t. All P (cond t (f k ∷ rest) rest)) [
      | true ↦ All-cons P (f k) rest (each k) (bins_kept P f ks each)
      | false ↦ bins_kept P f ks each
    ]

-- the bins of items of a version may go into frames of that version
pub young_light : (s : Numbers) (events : List Item) (from version : ℕ) → AreOfVersion version events → AreLight version (young_bins s events from)
young_light s events from version light =
    let n = length events in
    bins_kept (λ bin. (costs version bin.pieces ≤ bin.to - bin.from) × (bin.to - bin.from ≤ total bin.pieces)) (bin_in weighed s events 0 from n) (range_with_len 0 (suc (n / span s 0)))
    (λ k.
    let low = max from (k * span s 0) in
    let high = min n (suc k * span s 0) in
    let items = slice_range events low high in
    let own = version_slice version events low high light in
    let long : length items ≡ high - low = window_length events low high (omega arith) in (
      omega (arith, long, costs_number s version items own),
      omega (arith, long, weight_least items (version_weigh version items own), total-tally weighed s items),
    ))

module _ (s : Numbers) (valid : IsValid s) where
  base : 1 ≤ s.base
  base = omega (arith, valid.limits.base_from)

  ratio : 1 ≤ s.ratio
  ratio = omega (arith, valid.limits.ratio_from)

  pub wide : 1 ≤ span s 0
  wide = span_pos s 0 base ratio

  -- an edge begins an interval
  pub aligned : (n : ℕ) → edge s 0 n % span s 0 ≡ 0
  aligned n = ap (λ p. p % span s 0) (mul_comm (span s 0) (steps s 0 n)) ∙ mul-mod_left (steps s 0 n) (span s 0)

  -- and level 0 has a table for the bin of the next event
  pub next_free : (n : ℕ) → suc n ≤ edge s 0 n + s.bins * span s 0
  next_free n =
      let parts = div-add-mod (n - offset s 0) (span s 0) in
      let rest = mod-lt (n - offset s 0) {m = span s 0} wide in
      let bins : s.bins ≡ suc (s.bins - 1) = omega (arith, valid.limits.bins_from) in
      let all = ap (λ b. b * span s 0) bins ∙ suc-mul (s.bins - 1) (span s 0) in
      omega arith

  -- the next event, whose level 0 stands at the events so far
  module _ (y : Young) (events : List Item) (item : Item) (settings : y.settings ≡ s) (from : y.from ≡ edge s 0 (length events)) (to : y.to ≡ length events)
      (bins : y.bins ≡ young_bins s events (edge s 0 (length events))) (fits : length events < capacity s) where
    pub next_position : IsNextPosition y (suc (length events))
    next_position = record {
      first = omega arith;
      last = omega (arith, ap capacity settings);
      follows = λ _. ap suc (sym to);
      begins = λ same.
          let here : length events ≡ edge s 0 (length events) = sym to ∙ sym same ∙ from in
          ap (λ (t : Numbers). (suc (length events) - 1) % span t 0) settings
          ∙ ap (λ p. p % span s 0) ((let before : suc (length events) - 1 ≡ length events = omega arith in before) ∙ here)
          ∙ aligned (length events);
      free = λ _. subst (λ (t : Numbers). suc (length events) ≤ y.from + t.bins * span t 0) (sym settings) (omega (arith, next_free (length events)));
    }

    pub next_from : (tail : ℕ) → (with_event y tail item.weight (suc (length events))).from ≡ edge s 0 (length events)
    next_from tail =
        elim (cases_eq y.from y.to) [
          | inl same ↦ ap (λ t. cond {A = ℕ} t (suc (length events) - 1) y.from) (eq-eqb y.from y.to same)
              ∙ (let last : suc (length events) - 1 ≡ edge s 0 (length events) = omega arith in last)
          | inr differs ↦ ap (λ t. cond {A = ℕ} t (suc (length events) - 1) y.from) (ne_eqb y.from y.to differs) ∙ from
        ]

    pub next_bins : (tail : ℕ) → tail ≡ tail_of s item.key → (with_event y tail item.weight (suc (length events))).bins ≡ young_bins s (events ++ item ∷ []) (edge s 0 (length events))
    next_bins tail tail_is =
        (λ i. (with_event (record { settings = settings i; from = y.from; to = y.to; bins = bins i }) (tail_is i) item.weight (suc (length events))).bins)
        ∙ sym (young-added s events item (edge s 0 (length events)) wide (aligned (length events)) (edge_within s 0 (length events)))

  -- a flush drops the oldest bin of level 0
  pub dropped_edge : (m : ℕ) → depth s m ≢ 0 → edge s 0 m ≡ edge s 0 (m - 1) + span s 0
  dropped_edge m deep =
      let moves = depth_moves s base ratio 0 m (elim (cases_lt 0 (depth s m)) [
        | inl some ↦ some
        | inr none ↦ absurd (deep (omega arith))
      ]) in
      ap (λ c. span s 0 * c) (moves_by_one s base ratio 0 m moves) ∙ mul-suc (span s 0) (steps s 0 (m - 1))

  pub flush_moves : (m : ℕ) → depth s m ≢ 0 → edge s 0 m ≢ edge s 0 (m - 1)
  flush_moves m deep same = omega (arith, dropped_edge m deep, wide)

  pub dropped_bins : (events : List Item) (m : ℕ) → length events ≡ m → depth s m ≢ 0 → drop 1 (young_bins s events (edge s 0 (m - 1))) ≡ young_bins s events (edge s 0 m)
  dropped_bins events m long deep =
      let next = dropped_edge m deep in
      ap (drop 1) (young-dropped s events (edge s 0 (m - 1)) wide (aligned (m - 1)) (omega (arith, edge_within s 0 m)))
      ∙ ap (young_bins s events) (sym next)

  -- where no edge moves that of level 0 stays
  pub edge_still : (m : ℕ) → depth s m ≡ 0 → edge s 0 m ≡ edge s 0 (m - 1)
  edge_still m shallow = depth_stays s base ratio 0 m (omega (arith, valid.limits.levels_from)) (omega (arith, shallow))

  -- and the total that is brought is that of level 0
  pub young_total : (events : List Item) → WeighAll events → (m tail found from : ℕ) (bins : List Bin) → length events ≡ m → from ≡ edge s 0 (m - 1) → depth s m ≡ 0 → AreYoung s events from bins →
      found ≡ sum_by (λ (bin : Bin). count_of bin.pieces tail) bins → record { tail = tail; count = found } ∷ [] ≡ totals_at s events m tail
  young_total events weigh m tail found from bins long from_is shallow young found_is =
      let early = edge_within s 0 (m - 1) in
      let within : from ≤ length events = omega arith in
      let here : found ≡ count_of (tally weighed s (slice_range events (edge s 0 (m - 1)) m)) tail =
      found_is ∙ ap (sum_by (λ (bin : Bin). count_of bin.pieces tail)) young.is
      ∙ young_cover s events tail from weigh base ratio within
      ∙ ap₂ (λ a b. count_of (tally weighed s (slice_range events a b)) tail) from_is long in
      ap (λ c. record { tail = tail; count = c } ∷ []) here
      ∙ ap (λ t. cond {A = List Piece} t (record { tail = tail; count = count_of (tally weighed s (slice_range events (edge s 0 (m - 1)) m)) tail } ∷ [])
      (tally weighed s (slice_range events (lookback s m) m)))
      (sym (eq-eqb (depth s m) 0 shallow))

  -- at a flush they are those of its window
  pub flush_total : (events : List Item) (m tail : ℕ) → depth s m ≢ 0 → tally weighed s (slice_range events (lookback s m) m) ≡ totals_at s events m tail
  flush_total events m tail deep =
      ap (λ t. cond {A = List Piece} t (record { tail = tail; count = count_of (tally weighed s (slice_range events (edge s 0 (m - 1)) m)) tail } ∷ [])
      (tally weighed s (slice_range events (lookback s m) m)))
      (sym (ne_eqb (depth s m) 0 deep))

  -- where no edge moves the rows stay
  pub rows_still : (m : ℕ) (rows : List (List BinAt)) → depth s m ≡ 0 → IsAt s (m - 1) rows → IsAt s m rows
  rows_still m rows shallow at = record {
    levels = at.levels;
    each = λ level first last. at.each level first last ∙ sym (ranges_still s base ratio level m first last (omega (arith, shallow)));
  }

  -- a bin of the rows ends at the events so far
  ends : (n : ℕ) (rows : List (List BinAt)) → IsAt s n rows → (level : ℕ) → 1 ≤ level → level ≤ s.levels → (k : ℕ) (d : BinAt) → k < length (row_of rows level) → (get_or
      (row_of rows level) k d).to ≤ n
  ends n rows at level first last k d within =
      let row = row_of rows level in
      let is = at.each level first last in
      let long : length (ranges s n level) ≡ length row = ap length (sym is) ∙ length_map row in
      let cut = cuts_are (span s level) (edge s level n) (edge s (level - 1) n) 0 (suc (n / span s level)) k (range_of d) (omega (arith, long)) in
      let here : get_or (ranges s n level) k (range_of d) ≡ range_of (get_or row k d) = ap (λ rs. get_or rs k (range_of d)) (sym is) ∙ get_or-map range_of row k d (range_of d) within in
      omega (arith, ap (λ (r : Range). r.to) here, cut.end, edge_within s (level - 1) n)
    where
      length_map : (row : List BinAt) → length (map range_of row) ≡ length row
      length_map [] = refl
      length_map (bin ∷ row) = ap suc (length_map row)

  -- later events change no bin of the rows
  module _ (events others : List Item) (rows : List (List BinAt)) (file : List ℕ) (at : IsAt s (length events) rows) where
    slice_same : (level : ℕ) → 1 ≤ level → level ≤ s.levels → (k : ℕ) (d : BinAt) → k < length (row_of rows level) →
        slice_range (events ++ others) (get_or (row_of rows level) k d).from (get_or (row_of rows level) k d).to ≡ slice_range events (get_or (row_of rows level) k d).from (get_or
        (row_of rows level) k d).to
    slice_same level first last k d within =
        slice_range-append events others (get_or (row_of rows level) k d).from (get_or (row_of rows level) k d).to (ends (length events) rows at level first last k d within)

    pub frames_more : (version : ℕ) → HoldsBins s version events rows file → HoldsBins s version (events ++ others) rows file
    frames_more version holds level first last k d within =
        subst (λ keys. HoldsFrame s version level (get_or (row_of rows level) k d).frame file (tally weighed s keys)) (sym (slice_same level first last k d within))
        (holds level first last k d within)

  -- before the first event no level has a bin
  no_range : (ranges : List Range) (wide : ℕ) → All (IsCut wide 0) ranges → ranges ≡ []
  no_range [] wide cut = refl
  no_range (range ∷ ranges) wide cut =
      let first = cut 0 range (omega arith) in absurd (omega (arith, first.some, first.end))

  pub edge_none : (level : ℕ) → edge s level 0 ≡ 0
  edge_none level = omega (arith, edge_within s level 0)

  no_ranges : (level : ℕ) → ranges s 0 level ≡ []
  no_ranges level =
      let cut = cuts_are (span s level) (edge s level 0) (edge s (level - 1) 0) 0 (suc (0 / span s level)) in
      no_range (ranges s 0 level) (span s level) (subst (λ high. All (IsCut (span s level) high) (ranges s 0 level)) (edge_none (level - 1)) cut)

  pub rows_none : IsAt s 0 (replicate s.levels [])
  rows_none = record {
    levels = length-replicate s.levels [];
    each = λ level first last. ap (map range_of) (row_none (level - 1) s.levels) ∙ sym (no_ranges level);
  }
    where
      row_none : (k n : ℕ) → get_or {A = List BinAt} (replicate n []) k [] ≡ []
      row_none k zero = refl
      row_none zero (suc n) = refl
      row_none (suc k) (suc n) = row_none k n
