-- The bins of a level after a cone's events: what of each aligned interval of the level's span lies in the level.
use Rattle.std.specs.{Prelude.{ℕ, suc, ◌-◌, ◌*◌, ◌/◌, nat_lt, min, max, filter, fold, map, List, [], length, slice_range}, List.range_with_len}
use Rattle.lert_spec.specs.{Counts.{Measure, plain}, declared.numbers.Numbers.Numbers, declared.piece.Piece.Piece, Edges.{span, edge}, Mix.tail_of, Table.plus}

-- a bin holds the counts of the tails at the positions above `from`, up to `to`
pub record Bin : Type 0 where
  pub from : ℕ
  pub to : ℕ
  pub pieces : List Piece

-- what the items of each tail weigh
abbrev pub tally : {A : Type 0} → Measure A → Numbers → List A → List Piece
tally by s items = fold (λ pieces item. plus pieces (tail_of s (by.key item)) (by.weight item)) [] items

-- the part of the k-th aligned interval of a level's span above `low`, up to `high`
abbrev pub bin_in : {A : Type 0} → Measure A → Numbers → List A → ℕ → ℕ → ℕ → ℕ → Bin
bin_in by s events level low high k =
    let from = max low (k * span s level) in
    let to = min high (suc k * span s level) in
    record { from = from; to = to; pieces = tally by s (slice_range events from to) }

-- the bins of a level on disk, oldest first: its positions cut at the aligned intervals, without empty ones
abbrev pub bins_of : {A : Type 0} → Measure A → Numbers → List A → ℕ → List Bin
bins_of by s events level =
    let low = edge s level (length events) in
    let high = edge s (level - 1) (length events) in
    filter (λ bin. nat_lt bin.from bin.to)
    (map (bin_in by s events level low high) (range_with_len 0 (suc (length events / span s level))))

-- the same of a list of keys
abbrev pub tallied : Numbers → List ℕ → List Piece
tallied s keys = tally plain s keys

abbrev pub bin_at : Numbers → List ℕ → ℕ → ℕ → ℕ → ℕ → Bin
bin_at s events level low high k = bin_in plain s events level low high k

abbrev pub bins : Numbers → List ℕ → ℕ → List Bin
bins s events level = bins_of plain s events level
