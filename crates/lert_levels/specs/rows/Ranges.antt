-- The positions of a level's bins, by themselves, and the bins of level 0 above a position.
use Rattle.std.specs.{Prelude.{ℕ, suc, ◌-◌, ◌*◌, ◌/◌, nat_lt, min, max, filter, map, List, length, slice_range}, List.range_with_len}
use Rattle.lert_spec.specs.{declared.numbers.Numbers.Numbers, declared.item.Item.Item, Bins.{Bin, bin_in, tally}, Counts.weighed, Edges.{span, edge}}

-- the positions above `from`, up to `to`
pub record Range : Type 0 where
  pub from : ℕ
  pub to : ℕ

-- the part of the k-th aligned interval of a width above `low`, up to `high`
abbrev pub range_at : ℕ → ℕ → ℕ → ℕ → Range
range_at wide low high k = record { from = max low (k * wide); to = min high (suc k * wide) }

-- the positions of a level's bins after n events, oldest first: the level's positions cut at the aligned intervals, without
-- empty ones
abbrev pub ranges : Numbers → ℕ → ℕ → List Range
ranges s n level =
    filter (λ range. nat_lt range.from range.to)
    (map (range_at (span s level) (edge s level n) (edge s (level - 1) n)) (range_with_len 0 (suc (n / span s level))))

-- a bin of these positions
abbrev pub filled : Numbers → List Item → Range → Bin
filled s events range =
    record { from = range.from; to = range.to; pieces = tally weighed s (slice_range events range.from range.to) }

-- the bins of level 0 above a position, oldest first: these positions cut at the aligned intervals of its span, without
-- empty ones
abbrev pub young_bins : Numbers → List Item → ℕ → List Bin
young_bins s events from =
    filter (λ bin. nat_lt bin.from bin.to)
    (map (bin_in weighed s events 0 from (length events)) (range_with_len 0 (suc (length events / span s 0))))
