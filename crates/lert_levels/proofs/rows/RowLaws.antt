-- What a flush makes of the rows: the bins of the levels after it, each in a frame of its own.
use Rattle.std.proofs.Common.{ℕ, ◌≡◌, ◌+◌, ◌-◌, ◌/◌, ◌%◌, ◌<◌, ◌≤◌, zero, suc, Bool, true, false, cond, ltb, eqb, List, [], ◌∷◌, ◌++◌, length, map, get_or, take, drop, Some, ap, ap₂, sym, ◌∙◌, arith}
use Rattle.std.proofs.Common.{inl, inr, subst, find, unwrap_or, count_by, append-nil, length-append, length-take}
use Rattle.std.proofs.lemmas.Bool.{cases_lt, cases_eq, cases_order, cases_Bool, lt-ltb, le-ltb, eq-eqb, ne_eqb, eqb-true, eqb-false, false≢true}
use Rattle.std.proofs.lemmas.List.{get_or-take, length-map, map_push, take-map, drop-map, get_or-map, get_or_at, take_at, take_all, take-append-drop}
use Rattle.std.proofs.{lemmas.List.Elements.{All-append, All-take, All-drop, All-cons, All-nil}, lemmas.List.FromFn.{get_or-map-range_with_len, length-map-range_with_len}}
use Rattle.std.proofs.lemmas.List.Sums.{sum_by-cons, sum_by-append, count_by-le-length}
use Rattle.std.specs.List.{All, range_with_len}
use Rattle.lert_spec.specs.{declared.numbers.Numbers.Numbers, Edges.{span, offset, edge, depth, capacity}, Limits.IsValid}
use Rattle.lert_spec.proofs.{LimitLaws.capacity_to, EdgeLaws.span_pos}
use Rattle.lert_levels.specs.{declared.rows.bin_at.BinAt.BinAt, rows.Ranges.{Range, ranges}}
use Rattle.lert_levels.specs.rows.Rows.{range_of, row_of, IsAt, IsRow, AreFirst, AreRows, times_named, lowest_free, no_bin, newest, begins, kept, arrived, moved_row, moved}
use Rattle.lert_levels.proofs.rows.RangeLaws.{IsCut, Enters, cuts_are, enters, ranges_still, ranges_few, edge_within}

-- ---- a free frame

-- the least number that passes a test, or where none below n does, n
pub record IsLeast (test : ℕ → Bool) (low n : ℕ) (found : ℕ) : Type 0 where
  pub within : found ≤ low + n
  pub earlier : (k : ℕ) → low ≤ k → k < found → test k ≡ false
  pub passes : found < low + n → test found ≡ true

least_is : (test : ℕ → Bool) (low n : ℕ) → IsLeast test low n (unwrap_or (find test (range_with_len low n)) (low + n))
least_is test low zero = record { within = omega arith; earlier = λ k above below. absurd (omega arith); passes = λ less. absurd (omega arith) }
least_is test low (suc n) =
    let rest = find test (range_with_len (low + 1) n) in
    let further : low + 1 + n ≡ low + suc n = omega arith in
    elim (cases_Bool (test low)) [
      | inl here ↦ subst (IsLeast test low (suc n)) (sym (ap (λ t. unwrap_or (cond t (Some low) rest) (low + suc n)) here))
          (record { within = omega arith; earlier = λ k above below. absurd (omega arith); passes = λ less. here })
      | inr fails ↦ (
          let later = subst (λ d. IsLeast test (low + 1) n (unwrap_or rest d)) further (least_is test (low + 1) n) in
          subst (IsLeast test low (suc n)) (sym (ap (λ t. unwrap_or (cond t (Some low) rest) (low + suc n)) fails))
          (record {
            within = omega (arith, later.within);
            earlier = λ k above below. elim (cases_lt low k) [
              | inl beyond ↦ later.earlier k (omega arith) below
              | inr same ↦ ap test (let here : k ≡ low = omega arith in here) ∙ fails
            ];
            passes = λ less. later.passes (omega arith);
          }))
    ]

-- how many bins stand in frames below a number
abbrev named_below : List BinAt → ℕ → ℕ
named_below row n = count_by (λ bin. ltb bin.frame n) row

named_more : (row : List BinAt) (n : ℕ) → named_below row (suc n) ≡ named_below row n + times_named row n
named_more [] n = omega arith
named_more (bin ∷ row) n =
    let a = sum_by-cons (λ (b : BinAt). cond {A = ℕ} (ltb b.frame (suc n)) 1 0) bin row in
    let b = sum_by-cons (λ (b : BinAt). cond {A = ℕ} (ltb b.frame n) 1 0) bin row in
    let c = sum_by-cons (λ (b : BinAt). cond {A = ℕ} (eqb b.frame n) 1 0) bin row in
    let rest = named_more row n in
    elim (cases_order bin.frame n) [
      | inl same ↦ (
          let one = ap (λ t. cond {A = ℕ} t 1 0) (lt-ltb bin.frame (suc n) (omega arith)) in
          let two = ap (λ t. cond {A = ℕ} t 1 0) (le-ltb bin.frame n (omega arith)) in
          let three = ap (λ t. cond {A = ℕ} t 1 0) (eq-eqb bin.frame n same) in omega arith)
      | inr (inl less) ↦ (
          let one = ap (λ t. cond {A = ℕ} t 1 0) (lt-ltb bin.frame (suc n) (omega arith)) in
          let two = ap (λ t. cond {A = ℕ} t 1 0) (lt-ltb bin.frame n less) in
          let three = ap (λ t. cond {A = ℕ} t 1 0) (ne_eqb bin.frame n (λ e. omega arith)) in omega arith)
      | inr (inr more) ↦ (
          let one = ap (λ t. cond {A = ℕ} t 1 0) (le-ltb bin.frame (suc n) (omega arith)) in
          let two = ap (λ t. cond {A = ℕ} t 1 0) (le-ltb bin.frame n (omega arith)) in
          let three = ap (λ t. cond {A = ℕ} t 1 0) (ne_eqb bin.frame n (λ e. omega arith)) in omega arith)
    ]

-- frames in each of which a bin stands are no more than the bins
named_all : (row : List BinAt) (n : ℕ) → ((k : ℕ) → k < n → 1 ≤ times_named row k) → n ≤ named_below row n
named_all row zero each = omega arith
named_all row (suc n) each = omega (arith, named_more row n, each n (omega arith), named_all row n (λ k below. each k (omega arith)))

-- the least free frame is no greater than the number of bins, and no bin stands there
pub record IsFree (row : List BinAt) (frame : ℕ) : Type 0 where
  pub within : frame ≤ length row
  pub free : times_named row frame ≡ 0
  pub least : (k : ℕ) → k < frame → 1 ≤ times_named row k

pub lowest_is_free : (row : List BinAt) → IsFree row (lowest_free row)
lowest_is_free row =
    let n = length row in
    let test : ℕ → Bool = λ frame. eqb (times_named row frame) 0 in
    let zero_n : 0 + n ≡ n = omega arith in
    let least = subst (λ d. IsLeast test 0 n (unwrap_or (find test (range_with_len 0 n)) d)) zero_n (least_is test 0 n) in
    let frame = lowest_free row in
    let earlier : (k : ℕ) → k < frame → 1 ≤ times_named row k =
    λ k below. (let other = eqb-false (times_named row k) 0 (least.earlier k (omega arith) below) in omega arith) in
    record {
      within = omega (arith, least.within);
      least = earlier;
      free = elim (cases_lt frame n) [
        | inl below ↦ eqb-true (times_named row frame) 0 (least.passes (omega arith))
        | inr last ↦ (
            let whole : frame ≡ n = omega (arith, least.within) in
            let all = named_all row frame earlier in
            omega (arith, named_more row frame, count_by-le-length (λ (bin : BinAt). ltb bin.frame (suc frame)) row))
      ];
    }

-- ---- the bins after a flush

pub row_of-moved : (s : Numbers) (m : ℕ) (rows : List (List BinAt)) (level : ℕ) → 1 ≤ level → level ≤ length rows →
    row_of (moved s m rows) level ≡ moved_row s m level (row_of rows level)
row_of-moved s m rows level from within =
    get_or-map-range_with_len (λ i. moved_row s m i (row_of rows i)) 1 (length rows) (level - 1) level [] (omega arith) (omega arith)

pub length-moved : (s : Numbers) (m : ℕ) (rows : List (List BinAt)) → length (moved s m rows) ≡ length rows
length-moved s m rows = length-map-range_with_len (λ i. moved_row s m i (row_of rows i)) 1 (length rows)

-- the positions of the bins that stay as they are, and where the one that is written begins
record IsSplit (s : Numbers) (m level : ℕ) (row : List BinAt) (front : List Range) (start : ℕ) : Type 0 where
  kept_are : map range_of (kept s m level row) ≡ front
  starts : (arrived s m level row).from ≡ start
  some : begins s m level ≡ false → 1 ≤ length row
  ends : begins s m level ≡ false → (newest row).to ≡ edge s (level - 1) (m - 1)

split_row : (s : Numbers) (m level : ℕ) (row : List BinAt) → map range_of row ≡ ranges s (m - 1) level → (e : Enters s m (level - 1) level) → IsSplit s m level row e.front e.start
split_row s m level row are e =
    let high = edge s (level - 1) (m - 1) in
    let rest = high % span s level in
    let last : Range = record { from = e.start; to = high } in
    let all = are ∙ e.before in
    elim (cases_eq rest 0) [
      | inl none ↦ (
          let whole = eq-eqb rest 0 none in
          let here = e.aligned none in
          record {
            kept_are = ap (λ t. map range_of (cond t row (take (length row - 1) row))) whole
                ∙ all
                ∙ ap (λ t. e.front ++ cond t (last ∷ []) []) (le-ltb e.start high (omega arith))
                ∙ append-nil e.front;
            starts = ap (λ t. cond t high (newest row).from) whole ∙ sym here;
            some = λ not_so. absurd (false≢true (sym not_so ∙ whole));
            ends = λ not_so. absurd (false≢true (sym not_so ∙ whole));
          })
      | inr some ↦ (
          let part = ne_eqb rest 0 some in
          let with_last : map range_of row ≡ e.front ++ last ∷ [] = all ∙ ap (λ t. e.front ++ cond t (last ∷ []) []) (lt-ltb e.start high (e.inside some)) in
          let len : length row ≡ length e.front + 1 = omega (arith, length-map row range_of, ap (length {A = Range}) with_last, length-append e.front (last ∷ [])) in
          let before_last : length e.front ≡ length row - 1 = omega arith in
          let last_is : range_of (newest row) ≡ last =
          sym (get_or-map range_of row (length row - 1) no_bin (range_of no_bin) (omega arith))
          ∙ ap (λ rs. get_or rs (length row - 1) (range_of no_bin)) with_last
          ∙ get_or_at e.front last [] (range_of no_bin) (length row - 1) before_last in
          record {
            some = λ _. omega arith;
            ends = λ _. ap (λ (r : Range). r.to) last_is;
            kept_are = ap (λ t. map range_of (cond t row (take (length row - 1) row))) part
                ∙ sym (take-map range_of (length row - 1) row)
                ∙ ap (take (length row - 1)) with_last
                ∙ take_at e.front (last ∷ []) (length row - 1) before_last;
            starts = ap (λ t. cond t high (newest row).from) part ∙ ap (λ (r : Range). r.from) last_is;
          })
    ]

-- what holds of each positions of a row
pub All-ranges : (P : Range → Type 0) (row : List BinAt) → All P (map range_of row) → All (λ bin. P (range_of bin)) row
All-ranges P row all k d below = subst P (get_or-map range_of row k d (range_of d) below) (all k (range_of d) (omega (arith, length-map row range_of)))

-- some bins and the others name a frame as often as all
times_named-parts : (n : ℕ) (row : List BinAt) (frame : ℕ) → times_named row frame ≡ times_named (take n row) frame + times_named (drop n row) frame
times_named-parts n row frame =
    sym (ap (λ (bins : List BinAt). times_named bins frame) (take-append-drop n row))
    ∙ sum_by-append (λ (bin : BinAt). cond {A = ℕ} (eqb bin.frame frame) 1 0) (take n row) (drop n row)

-- a bin in a free frame
distinct_push : (row front : List BinAt) (bin : BinAt) → ((frame : ℕ) → times_named front frame ≤ times_named row frame) → ((frame : ℕ) → times_named row frame ≤ 1) →
    times_named row bin.frame ≡ 0 →
    (frame : ℕ) → times_named (front ++ bin ∷ []) frame ≤ 1
distinct_push row front bin fewer distinct free frame =
    let one = λ (b : BinAt). cond {A = ℕ} (eqb b.frame frame) 1 0 in
    let parts = sum_by-append one front (bin ∷ []) in
    let alone : times_named (bin ∷ []) frame ≡ one bin = omega (arith, sum_by-cons one bin []) in
    let less = fewer frame in
    elim (cases_eq bin.frame frame) [
      | inl same ↦ (
          let here = ap (λ t. cond {A = ℕ} t 1 0) (eq-eqb bin.frame frame same) in
          let none = ap (times_named row) (sym same) ∙ free in omega arith)
      | inr other ↦ (
          let away = ap (λ t. cond {A = ℕ} t 1 0) (ne_eqb bin.frame frame other) in omega (arith, distinct frame))
    ]

-- a flush writes into no frame in which a bin stands
pub kept-fewer : (s : Numbers) (m level : ℕ) (row : List BinAt) (frame : ℕ) → times_named (kept s m level row) frame ≤ times_named row frame
kept-fewer s m level row frame =
    elim (cases_Bool (begins s m level)) [
      | inl whole ↦ omega (arith, ap (λ t. times_named (cond t row (take (length row - 1) row)) frame) whole)
      | inr part ↦ omega (arith, ap (λ t. times_named (cond t row (take (length row - 1) row)) frame) part, times_named-parts (length row - 1) row frame)
    ]

pub All-kept : (P : BinAt → Type 0) (s : Numbers) (m level : ℕ) (row : List BinAt) → All P row → All P (kept s m level row)
All-kept P s m level row all =
    elim (cases_Bool (begins s m level)) [
      | inl whole ↦ subst (λ t. All P (cond t row (take (length row - 1) row))) (sym whole) all
      | inr part ↦ subst (λ t. All P (cond t row (take (length row - 1) row))) (sym part) (All-take P (length row - 1) row all)
    ]

-- a row that has the positions of a level's bins, its bins in frames of their own
pub row_at : (s : Numbers) (valid : IsValid s) (n level : ℕ) (row : List BinAt) → n ≤ capacity s → 1 ≤ level → map range_of row ≡ ranges s n level →
    ((frame : ℕ) → times_named row frame ≤ 1) → All (λ bin. bin.frame ≤ s.bins) row → IsRow s level row
row_at s valid n level row fits from are distinct frames =
    let width = span s level in
    let high = edge s (level - 1) n in
    let cut = cuts_are width (edge s level n) high 0 (suc (n / width)) in
    let each = All-ranges (IsCut width high) row (subst (All (IsCut width high)) (sym are) cut) in
    let limits = valid.limits in
    record {
      few = omega (
        arith,
        length-map row range_of,
        ap (length {A = Range}) are,
        ranges_few s (omega (arith, limits.base_from)) (omega (arith, limits.ratio_from)) level n (omega (arith, limits.bins_from)) from,
      );
      distinct = distinct;
      frames = frames;
      some = λ k d below. (each k d below).some;
      widths = λ k d below. (each k d below).width;
      ends = λ k d below. omega (arith, (each k d below).end, edge_within s (level - 1) n, capacity_to s valid, fits);
    }

-- the bin that is written at m
pub record Arrives (s : Numbers) (m level : ℕ) (row : List BinAt) : Type 0 where
  pub ordered : (arrived s m level row).from ≤ edge s (level - 1) (m - 1)
  pub further : edge s (level - 1) (m - 1) < edge s (level - 1) m
  pub fits : edge s (level - 1) m - (arrived s m level row).from ≤ span s level
  pub some : begins s m level ≡ false → 1 ≤ length row
  pub ends : begins s m level ≡ false → (newest row).to ≡ edge s (level - 1) (m - 1)

module _ (s : Numbers) (valid : IsValid s) (m : ℕ) (first : 1 ≤ m) (fits : m ≤ capacity s) where
  base : 1 ≤ s.base
  base = omega (arith, valid.limits.base_from)

  ratio : 1 ≤ s.ratio
  ratio = omega (arith, valid.limits.ratio_from)

  positive : 1 ≤ offset s s.levels + span s s.levels
  positive = omega (arith, span_pos s s.levels base ratio)

  pub row_moves : (level : ℕ) (row : List BinAt) → 1 ≤ level → level ≤ s.levels → map range_of row ≡ ranges s (m - 1) level →
      map range_of (moved_row s m level row) ≡ ranges s m level
  row_moves level row from within are =
      let deep = depth s m in
      let written = kept s m level row ++ arrived s m level row ∷ [] in
      let d = cond {A = ℕ} (ltb level deep) 1 0 in
      elim (cases_lt deep level) [
        | inl less ↦ ap (λ t. map range_of (cond t row (drop d written))) (lt-ltb deep level less) ∙ are ∙ sym (ranges_still s base ratio level m from within less)
        | inr reached ↦ (
            let e = enters s base ratio level m from first (omega (arith, positive)) reached in
            let parts = split_row s m level row are e in
            ap (λ t. map range_of (cond t row (drop d written))) (le-ltb deep level reached)
            ∙ sym (drop-map range_of d written)
            ∙ ap (drop d) (map_push range_of (kept s m level row) (arrived s m level row)
            ∙ ap₂ (λ f start. f ++ record { from = start; to = edge s (level - 1) m } ∷ []) parts.kept_are parts.starts)
            ∙ e.after)
      ]

  -- the rows of the events before m become those of the events up to m
  pub IsAt-moved : (rows : List (List BinAt)) → IsAt s (m - 1) rows → IsAt s m (moved s m rows)
  IsAt-moved rows at = record {
    levels = length-moved s m rows ∙ at.levels;
    each = λ level from within.
        ap (map range_of) (row_of-moved s m rows level from (omega (arith, at.levels))) ∙ row_moves level (row_of rows level) from within (at.each level from within);
  }

  IsRow-moved : (level : ℕ) (row : List BinAt) → 1 ≤ level → level ≤ s.levels → map range_of row ≡ ranges s (m - 1) level → IsRow s level row →
      IsRow s level (moved_row s m level row)
  IsRow-moved level row from within are is =
      let deep = depth s m in
      let new = arrived s m level row in
      let written = kept s m level row ++ new ∷ [] in
      let d = cond {A = ℕ} (ltb level deep) 1 0 in
      elim (cases_lt deep level) [
        | inl less ↦ subst (λ t. IsRow s level (cond t row (drop d written))) (sym (lt-ltb deep level less)) is
        | inr reached ↦ (
            let free = lowest_is_free row in
            let unmoved = le-ltb deep level reached in
            let positions : map range_of (drop d written) ≡ ranges s m level =
            ap (λ t. map range_of (cond t row (drop d written))) (sym unmoved) ∙ row_moves level row from within are in
            let distinct = distinct_push row (kept s m level row) new (kept-fewer s m level row) is.distinct free.free in
            let low : new.frame ≤ s.bins = omega (arith, free.within, is.few) in
            let frames = All-append (λ (bin : BinAt). bin.frame ≤ s.bins) (kept s m level row) (new ∷ []) (All-kept (λ (bin : BinAt). bin.frame ≤ s.bins) s m level row is.frames)
            (All-cons (λ (bin : BinAt). bin.frame ≤ s.bins) new [] low (All-nil (λ (bin : BinAt). bin.frame ≤ s.bins))) in
            subst (λ t. IsRow s level (cond t row (drop d written))) (sym unmoved)
            (row_at s valid m level (drop d written) fits from positions (λ frame. omega (arith, times_named-parts d written frame, distinct frame))
            (All-drop (λ (bin : BinAt). bin.frame ≤ s.bins) d written frames)))
      ]

  pub AreRows-moved : (rows : List (List BinAt)) → IsAt s (m - 1) rows → AreRows s rows → AreRows s (moved s m rows)
  AreRows-moved rows at are = record {
    levels = length-moved s m rows ∙ at.levels;
    each = λ level from within.
        subst (IsRow s level) (sym (row_of-moved s m rows level from (omega (arith, at.levels))))
        (IsRow-moved level (row_of rows level) from within (at.each level from within) (are.each level from within));
  }

  -- the bin that is written: from where the newest one begins, if it is joined with that, up to the edge of the younger level
  pub arrives : (level : ℕ) (row : List BinAt) → 1 ≤ level → level ≤ depth s m → map range_of row ≡ ranges s (m - 1) level → Arrives s m level row
  arrives level row from reached are =
      let e = enters s base ratio level m from first (omega (arith, positive)) reached in
      let parts = split_row s m level row are e in
      record {
        ordered = omega (arith, parts.starts, e.begun);
        further = e.further;
        fits = omega (arith, parts.starts, e.fits);
        some = parts.some;
        ends = parts.ends;
      }

-- a level's row among the first ones
pub row_among : (rows : List (List BinAt)) (d k : ℕ) → k < d → row_of rows (k + 1) ≡ get_or (take d rows) k []
row_among rows d k less = ap (λ n. get_or rows n []) (let same : k + 1 - 1 ≡ k = omega arith in same) ∙ sym (get_or-take d rows k [] less)

-- those of the first levels are rows of theirs
pub first_rows : (s : Numbers) (rows : List (List BinAt)) → AreRows s rows → (d : ℕ) → d ≤ s.levels → AreFirst s (take d rows)
first_rows s rows are d deep = record {
  few = omega (arith, length-take d rows, deep);
  each = λ k below. (let less : k < d = omega (arith, below, length-take d rows) in
      subst (IsRow s (k + 1)) (row_among rows d k less) (are.each (k + 1) (omega arith) (omega (arith, less, deep))));
}

-- and so are all
pub all_rows : (s : Numbers) (rows : List (List BinAt)) → AreRows s rows → AreFirst s rows
all_rows s rows are = subst (AreFirst s) (take_all s.levels rows (omega (arith, are.levels))) (first_rows s rows are s.levels (omega arith))
